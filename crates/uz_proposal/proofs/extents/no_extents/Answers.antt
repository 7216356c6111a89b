use Rattle.std.proofs.Common.{◌≡◌, Option, Some, None, refl}
use Rattle.uz_proposal.specs.declared.extents.Extent.{Extent}
use Rattle.uz_proposal.proofs.extents.no_extents.Goals as goal

by_case : (P : Option Extent → Type 0) → (P None → P None) → ((x : Extent) → P (Some x) → Some x ≡ None) → (y : Option Extent) → P y → y ≡ None
by_case P n s None d = refl
by_case P n s (Some x) d = s x d

pub returns : goal.returns
returns c = c.in_ok-vec.ensures.items_if_clones_equal (by_case _ (λ d. d) (λ x d. absurd d))
