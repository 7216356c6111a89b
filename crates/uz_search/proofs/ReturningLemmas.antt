-- A return is noted on a line that has none.
use Rattle.uz_search.proofs.Common.{◌≡◌, ◌≢◌, ◌∙◌, sym, subst, inl, inr, ⊎_elim, ℕ, List, slice_get, Option, Some, None, slice_set}
use Rattle.uz_search.proofs.Common.{cases_eq, Instance, Return, slice_get_within}
use Rattle.uz_search.specs.Returning.{IsReturnOf, NotesReturn}
use Rattle.uz_search.proofs.MarkingLemmas.{get_set_same, get_set_other}

none_there : (s : Return) → Some (Some s) ≡ Some None → ⊥
none_there s h = cc

one_there : (r s : Return) → Some (Some r) ≡ Some (Some s) → r ≡ s
one_there r s h = cc

pub noted : (old : List (Option Return)) (end : Instance) (by : ℕ) (r : Return) → slice_get old end.line ≡ Some None
    → IsReturnOf r end → r.by ≡ by → NotesReturn old end by None (slice_set old end.line (Some r))
noted old end by r free is number = (
  (λ line s at. ⊎_elim
      (λ (same : line ≡ end.line). absurd (none_there s (sym (subst (λ k. slice_get old k ≡ Some (Some s)) same at) ∙ free)))
      (λ (other : line ≢ end.line). get_set_other old end.line line (Some r) other ∙ at)
      (cases_eq line end.line)),
  (r, get_set_same old end.line (Some r) (slice_get_within old end.line None free), is),
  (λ line s at. ⊎_elim
      (λ (same : line ≡ end.line).
      let here : r ≡ s = one_there r s (sym (get_set_same old end.line (Some r) (slice_get_within old end.line None free))
      ∙ subst (λ k. slice_get (slice_set old end.line (Some r)) k ≡ Some (Some s)) same at) in
      inr (same, subst (λ v. IsReturnOf v end) here is, subst (λ v. v.by ≡ by) here number))
      (λ (other : line ≢ end.line). inl (sym (get_set_other old end.line line (Some r) other) ∙ at))
      (cases_eq line end.line)),
)
