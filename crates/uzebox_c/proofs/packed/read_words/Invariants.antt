use Rattle.std.proofs.Common.{◌≡◌, ◌++◌, ℕ, List, length}
use Rattle.std.specs.Prelude.{map, string_bytes}
use Rattle.std.specs.List.{AllByRecursion}
use Rattle.std.specs.Str.{IsUtf8}
use Rattle.uzebox_c.specs.Packed.{AreWords, packed}
use Rattle.uzebox_c.proofs.packed.read_words.Given as goal

-- the words so far and what is left are the whole, and of words what is left holds some
abbrev pub invariant-loop-rest : goal.invariant-loop-rest
invariant-loop-rest l =
    record {
      whole : l.bytes ≡ packed (map string_bytes l.words.items) ++ l.rest;
      utf8 : AllByRecursion IsUtf8 (map string_bytes l.words.items);
      left : (all : List (List ℕ)) → AreWords l.bytes all → (some : List (List ℕ)) × AreWords l.rest some;
    }

abbrev pub decreases-loop-rest : goal.decreases-loop-rest
decreases-loop-rest l = length l.rest
