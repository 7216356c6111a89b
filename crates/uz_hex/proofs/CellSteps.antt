-- What a step over a cell makes of a writer.
use Rattle.std.proofs.Common.{◌≡◌, ℕ, ◌+◌, ◌<◌, ◌≤◌, List, [], ◌∷◌, ◌++◌, length, drop, get_or, vec_len, refl, ap, ◌∙◌, add-one, drop-cons, arith}
use Rattle.std.specs.Prelude.{Option, None, Some}
use Rattle.uz_hex.specs.declared.writing.Writer.{Writer}
use Rattle.uz_hex.specs.Cells.{held_from}
use Rattle.uz_hex.specs.Writing.{cut, lines_text}

-- the lines of what is kept and of these entries, after the text so far
abbrev lines_with : Writer → List (ℕ × ℕ) → List ℕ
lines_with writer entries = writer.text.items ++ lines_text (cut writer.start writer.bytes.items entries)

-- the text so far, and that of the bytes that are kept and to come, are the whole
abbrev pub IsSoFar : List (Option ℕ) → ℕ → Writer → Type 0
IsSoFar cells at writer = record {
  few : vec_len writer.bytes ≤ 16;
  before : writer.start + vec_len writer.bytes ≤ at;
  text : lines_with writer (held_from at (drop at cells)) ≡ lines_text (cut 0 [] (held_from 0 cells));
}

-- over a cell without a byte
pub past_gap : (cells : List (Option ℕ)) (at : ℕ) (writer : Writer) → at < length cells → get_or cells at None ≡ None
    → IsSoFar cells at writer → IsSoFar cells (at + 1) writer
past_gap cells at writer inside is so_far = record {
  few = so_far.few;
  before = omega (arith, so_far.before);
  text = ap (lines_with writer) held ∙ so_far.text;
}
  where
    held : held_from (at + 1) (drop (at + 1) cells) ≡ held_from at (drop at cells)
    held = rw (drop-cons cells at None inside, is, add-one) refl

-- a byte is taken
pub past_byte : (cells : List (Option ℕ)) (at byte : ℕ) (writer next : Writer) → at < length cells → get_or cells at None ≡ Some byte
    → IsSoFar cells at writer → vec_len next.bytes ≤ 16 → next.start + vec_len next.bytes ≡ at + 1
    → ((entries : List (ℕ × ℕ)) → lines_with next entries ≡ lines_with writer ((at, byte) ∷ entries))
    → IsSoFar cells (at + 1) next
past_byte cells at byte writer next inside is so_far few after taken = record {
  few = few;
  before = omega (arith, after);
  text = taken (held_from (at + 1) (drop (at + 1) cells)) ∙ ap (lines_with writer) held ∙ so_far.text;
}
  where
    held : (at, byte) ∷ held_from (at + 1) (drop (at + 1) cells) ≡ held_from at (drop at cells)
    held = rw (drop-cons cells at None inside, is, add-one) refl
