-- What is read of a text, byte by byte.
use Rattle.std.specs.Prelude.{◌≡◌, ℕ, List, [], ◌∷◌, Option, Some, None, nat_lt, ◌&&◌, if◌then◌else◌}
use Rattle.avr_text.specs.Characters.{is_word}

-- a byte that was read already, and what is left
abbrev pub from_next : Option ℕ → List ℕ → List ℕ
from_next None rest = rest
from_next (Some b) rest = b ∷ rest

-- the next byte of a text was read, and none where nothing is left
abbrev pub Reads : Option ℕ → List ℕ → List ℕ → Type 0
Reads None text rest = (text ≡ []) × (rest ≡ [])
Reads (Some b) text rest = text ≡ b ∷ rest

-- a letter of a name of fewer letters than eight, and none where the name ends before it
abbrev pub letter : ℕ → Option ℕ → Option ℕ
letter count None = None
letter count (Some b) = if is_word b && nat_lt count 8 then Some b else None
