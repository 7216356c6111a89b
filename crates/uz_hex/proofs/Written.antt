-- What was written of cells is the text of their image.
use Rattle.std.proofs.Common.{◌≡◌, ℕ, ◌≤◌, ◌++◌, List, [], length, Option, sym, ap, subst, ◌∙◌, arith, codes, refl}
use Rattle.std.specs.Ordering.{nat_cmp}
use Rattle.std.specs.FinMap.{FinMap, entries, len}
use Rattle.std.specs.List.{All}
use Rattle.uz_hex.specs.Cells.{present, held_from, HoldsByte}
use Rattle.uz_hex.specs.HexText.{IsHexOf}
use Rattle.uz_hex.specs.Writing.{cut, with_lf, lines_text, hex_text}
use Rattle.uz_hex.proofs.CellsLemmas.{IsFlash-present}
use Rattle.uz_hex.proofs.CutLaws.{entries-present, holds-present}
use Rattle.uz_hex.proofs.TextBack.{text_back}
use Rattle.uz_hex.proofs.TextLength.{text_length, len_most}

-- a text that was written of cells
abbrev pub cells_text : List (Option ℕ) → List ℕ
cells_text cells = lines_text (cut 0 [] (held_from 0 cells)) ++ with_lf (codes ":00000001FF")

pub written_exact : (image : FinMap nat_cmp ℕ) (cells : List (Option ℕ)) (text : List ℕ) → image ≡ present 0 cells → text ≡ cells_text cells
    → text ≡ hex_text image
written_exact image cells text view is =
    let es : held_from 0 cells ≡ entries image = sym (ap entries view ∙ entries-present cells 0) in
    is ∙ ap (λ e. lines_text (cut 0 [] e) ++ with_lf (codes ":00000001FF")) es

pub written_back : (image : FinMap nat_cmp ℕ) (cells : List (Option ℕ)) (text : List ℕ) → image ≡ present 0 cells → length cells ≡ 65536
    → All HoldsByte cells
    → text ≡ cells_text cells → IsHexOf text image
written_back image cells text view size bytes is =
    let flash = IsFlash-present cells size bytes in
    let back = text_back (present 0 cells) flash (holds-present cells) in
    let exact = written_exact (present 0 cells) cells text refl is in
    subst (λ t. IsHexOf t image) (sym exact) (subst (λ i. IsHexOf (hex_text (present 0 cells)) i) (sym view) back)

pub written_short : (image : FinMap nat_cmp ℕ) (cells : List (Option ℕ)) (text : List ℕ) → image ≡ present 0 cells → length cells ≡ 65536
    → text ≡ cells_text cells → length text ≤ 1048576
written_short image cells text view size is =
    let exact = written_exact image cells text view is in
    let long = text_length image in
    let most : len image ≤ 65536 = subst (λ i. len i ≤ 65536) (sym view) (len_most cells size) in
    let same = ap length exact in
    omega (arith, long, most, same)

pub ruleset written = (written_exact, written_back, written_short)
