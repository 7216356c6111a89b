-- The lines of a text before a place, at it and after it.
use Rattle.std.proofs.Common.{◌≡◌, ℕ, suc, ◌+◌, ◌<◌, ◌≤◌, List, [], ◌∷◌, ◌++◌, length, take, drop, map, Bor, sym, ◌∙◌, ap, arith}
use Rattle.std.proofs.Common.{drop-cons}
use Rattle.std.proofs.lemmas.List.{length-map, length-take-le, take-append-drop, take_all}
use Rattle.uz_hex.specs.Lines.{line_at, lines_of_pieces}
use Rattle.uz_hex.proofs.TextLines.{line_count, line_here}

-- all lines, at their end
pub all_taken : (pieces : List (Bor (List ℕ))) (at : ℕ) → length pieces ≤ at →
    take at (lines_of_pieces (map (λ piece. piece.now) pieces)) ≡ lines_of_pieces (map (λ piece. piece.now) pieces)
all_taken pieces at h =
    let ps = map (λ (piece : Bor (List ℕ)). piece.now) pieces in
    let count : length (lines_of_pieces ps) ≡ length pieces = line_count ps ∙ length-map pieces (λ (piece : Bor (List ℕ)). piece.now) in
    take_all at (lines_of_pieces ps) (omega arith)

-- the lines before a place, that line and those after it
pub record CutAt (lines : List (List ℕ)) (at : ℕ) (line : List ℕ) : Type 0 where
  pub later : List (List ℕ)
  pub cut : lines ≡ take at lines ++ line ∷ later
  pub number : at + 1 ≡ length (take at lines) + 1

pub cut_at : (pieces : List (Bor (List ℕ))) (at : ℕ) → at < length pieces
    → CutAt (lines_of_pieces (map (λ piece. piece.now) pieces)) at (line_at (map (λ piece. piece.now) pieces) at)
cut_at pieces at h =
    let ps = map (λ (piece : Bor (List ℕ)). piece.now) pieces in
    let lines = lines_of_pieces ps in
    let count : length lines ≡ length pieces = line_count ps ∙ length-map pieces (λ (piece : Bor (List ℕ)). piece.now) in
    let fits : at < length ps = omega (arith, length-map pieces (λ (piece : Bor (List ℕ)). piece.now)) in
    record {
      later = drop (suc at) lines;
      cut = sym (take-append-drop at lines) ∙ (ap (λ xs. take at lines ++ xs) (drop-cons lines at [] (omega arith))
          ∙ ap (λ x. take at lines ++ x ∷ drop (suc at) lines) (line_here ps at fits));
      number = ap (λ n. n + 1) (sym (length-take-le at lines (omega arith)));
    }
