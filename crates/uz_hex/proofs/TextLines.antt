-- The lines of a text, one for each piece.
use Rattle.std.proofs.Common.{◌≡◌, ℕ, zero, suc, ◌+◌, ◌<◌, true, if◌then◌else◌, List, [], ◌∷◌, ◌++◌, length, get_or, take}
use Rattle.std.proofs.Common.{map, nat_lt, Bor, refl, sym, ◌∙◌, ap, arith}
use Rattle.std.specs.Str.Lines.{strip_carriage_return}
use Rattle.std.proofs.lemmas.Bool.Decides.{nat_tests}
use Rattle.std.proofs.lemmas.List.{length-map}
use Rattle.std.proofs.Math.Seq.{take-suc}
use Rattle.uz_hex.specs.Lines.{line_at, lines_of_pieces}

-- the lines are as many as the pieces, each at its place

pub line_count : (pieces : List (List ℕ)) → length (lines_of_pieces pieces) ≡ length pieces
line_count [] = refl
line_count (last ∷ []) = refl
line_count (piece ∷ next ∷ more) = ap suc (line_count (next ∷ more))

one_on : (at n : ℕ) → nat_lt (suc at + 1) (suc n) ≡ nat_lt (at + 1) n
one_on at n = grind (arith, nat_tests)

pub line_here : (pieces : List (List ℕ)) (at : ℕ) → at < length pieces → get_or (lines_of_pieces pieces) at [] ≡ line_at pieces at
line_here [] at h = absurd (omega arith)
line_here (last ∷ []) zero h = refl
line_here (last ∷ []) (suc at) h = absurd (omega arith)
line_here (piece ∷ next ∷ more) zero h =
    let more_come : nat_lt (0 + 1) (length (piece ∷ next ∷ more)) ≡ true = grind (arith, nat_tests) in
    ap (λ b. if b then strip_carriage_return piece else piece) (sym more_come)
line_here (piece ∷ next ∷ more) (suc at) h =
    line_here (next ∷ more) at (omega arith) ∙
    ap (λ b. if b then strip_carriage_return (get_or (next ∷ more) at []) else get_or (next ∷ more) at []) (sym (one_on at (length
    (next ∷ more))))

-- the lines before a place, and that line
pub taken_more : (pieces : List (Bor (List ℕ))) (at : ℕ) → at < length pieces →
    take (at + 1) (lines_of_pieces (map (λ piece. piece.now) pieces)) ≡
    take at (lines_of_pieces (map (λ piece. piece.now) pieces)) ++ line_at (map (λ piece. piece.now) pieces) at ∷ []
taken_more pieces at h =
    let ps = map (λ (piece : Bor (List ℕ)). piece.now) pieces in
    let fits : at < length ps = omega (arith, length-map pieces (λ (piece : Bor (List ℕ)). piece.now)) in
    let one : at + 1 ≡ suc at = omega arith in
    ap (λ n. take n (lines_of_pieces ps)) one ∙
    (take-suc (lines_of_pieces ps) at [] (omega (arith, line_count ps)) ∙
    ap (λ line. take at (lines_of_pieces ps) ++ line ∷ []) (line_here ps at fits))
