-- Words that are read in either case.
use Rattle.std.specs.Prelude.{ℕ, Bool, List, map, codes, bytes_eq, Option, Some, None, if◌then◌else◌}
use Rattle.std.specs.Char.{to_ascii_lowercase}
use Rattle.avr_text.specs.declared.operators.Bracket.{Bracket}
use Rattle.avr_text.specs.declared.operators.Bracket.TheVariants.{Low, High}

-- a word is a name, in either case
abbrev pub is_word_named : List ℕ → List ℕ → Bool
is_word_named word name = bytes_eq (map to_ascii_lowercase word) (map to_ascii_lowercase name)

-- lo8 and hi8, in either case
abbrev pub bracket_word : List ℕ → Option Bracket
bracket_word word = if is_word_named word (codes "lo8") then Some Low else if is_word_named word (codes "hi8") then Some High else None
