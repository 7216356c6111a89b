use Rattle.std.proofs.Common.{◌≡◌, ℕ, Option, Some, None, refl, replicate, ◌∙◌, ap, sym, subst, length, List, All}
use Rattle.uz_hex.specs.Cells.{present, HoldsByte}
use Rattle.std.proofs.lemmas.List.{length-replicate}
use Rattle.std.proofs.lemmas.List.Elements.{All-replicate}
use Rattle.uz_hex.proofs.CellsLemmas.{present-replicate}
use Rattle.uz_hex.proofs.image.Image.empty.Goals as goal

by_case : (P : Option ℕ → Type 0) → (P None → P None) → ((x : ℕ) → P (Some x) → Some x ≡ None) → (y : Option ℕ) → P y → y ≡ None
by_case P n s None d = refl
by_case P n s (Some x) d = s x d

pub invariant_of-result : goal.invariant_of-result
invariant_of-result c =
    let e = c.in_ok-vec.ensures.items_if_clones_equal (by_case _ (λ d. d) (λ x d. absurd d)) in
    let none : Option ℕ = None in
    let len : length (replicate 65536 none) ≡ 65536 = length-replicate 65536 none in
    subst (λ (cells : List (Option ℕ)). (length cells ≡ 65536) × All HoldsByte cells) (sym e) (len, All-replicate HoldsByte 65536 none tt)

pub returns : goal.returns
returns c =
    let e = c.in_ok-vec.ensures.items_if_clones_equal (by_case _ (λ d. d) (λ x d. absurd d)) in
    ap (present 0) e ∙ present-replicate 65536 0
