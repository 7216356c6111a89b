use Rattle.std.proofs.Common.{◌≡◌, ◌++◌, List, length}
use Rattle.uzebox_c.specs.Held.{given_files}
use Rattle.uzebox_c.specs.Packed.{AreFiles, NamedFile, as_texts, packed}
use Rattle.uzebox_c.proofs.packed.read_files.Given as goal

-- the files so far and what is left are the whole, and of files what is left holds some
abbrev pub invariant-loop-rest : goal.invariant-loop-rest
invariant-loop-rest l =
    record {
      whole : l.bytes ≡ packed (as_texts (given_files l.files.items)) ++ l.rest;
      left : (all : List NamedFile) → AreFiles l.bytes all → (some : List NamedFile) × AreFiles l.rest some;
    }

abbrev pub decreases-loop-rest : goal.decreases-loop-rest
decreases-loop-rest l = length l.rest
