-- Texts in one row of bytes, as words and files cross to another language and back.
use Rattle.std.specs.Prelude.{◌≡◌, ℕ, List, [], ◌∷◌, ◌++◌, length}
use Rattle.std.specs.Int.{w64, to_le_bytes}
use Rattle.std.specs.List.{AllByRecursion}
use Rattle.std.specs.Str.{IsUtf8}

-- a text behind its length, which is eight bytes with the low one first
unfoldable pub field : List ℕ → List ℕ
field text = to_le_bytes w64 (length text) ++ text

-- texts one after another
abbrev pub packed : List (List ℕ) → List ℕ
packed [] = []
packed (text ∷ texts) = field text ++ packed texts

-- a file: its name and its bytes
abbrev pub NamedFile : Type 0
NamedFile = List ℕ × List ℕ

-- each file's name, and then its bytes
abbrev pub as_texts : List NamedFile → List (List ℕ)
as_texts [] = []
as_texts (file ∷ files) = file.0 ∷ file.1 ∷ as_texts files

-- the bytes hold these words, each of which is UTF-8
abbrev pub AreWords : List ℕ → List (List ℕ) → Type 0
AreWords bytes words = (bytes ≡ packed words) × AllByRecursion IsUtf8 words

-- the bytes hold these files
abbrev pub AreFiles : List ℕ → List NamedFile → Type 0
AreFiles bytes files = bytes ≡ packed (as_texts files)
