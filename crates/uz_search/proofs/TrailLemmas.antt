-- How a trail is read back from the parents.
use Rattle.uz_search.proofs.Common.{◌≡◌, ℕ, List, [], ◌∷◌, ◌++◌, Option, Some, None, slice_get, reverse, refl, sym, subst, ◌∙◌}
use Rattle.uz_search.proofs.Common.{reverse-append, same_Some, Instance, Program, Flash, Follows, last_of, Leads, IsTrail}
use Rattle.uz_search.specs.Trails.{AreParents}

-- what is read so far, newest last, leads from the instance at `at` to the node
abbrev pub ReadBack : List Instance → List (Option ℕ) → ℕ → ℕ → List Instance → Type 0
ReadBack nodes parents node at back = (image : Flash) (program : Program) (x y : Instance)
    → AreParents image program nodes parents → slice_get nodes node ≡ Some x → slice_get nodes at ≡ Some y
    → Leads image program (y ∷ reverse back) × (last_of (y ∷ reverse back) ≡ Some x)

pub read_more : (nodes : List Instance) (parents : List (Option ℕ)) (node at n : ℕ) (back : List Instance) (z : Instance)
    → ReadBack nodes parents node at back → slice_get parents at ≡ Some (Some n) → slice_get nodes at ≡ Some z
    → ReadBack nodes parents node n (back ++ z ∷ [])
read_more nodes parents node at n back z so_far parent here image program x y are at_node at_y =
    let before = so_far image program x z are at_node here in
    let came = are.each at z (Some n) here parent in
    let same : came.0 ≡ y = same_Some came.0 y (sym came.1 ∙ at_y) in
    let turned : reverse (back ++ z ∷ []) ≡ z ∷ reverse back = reverse-append back (z ∷ []) in
    subst (λ l. Leads image program (y ∷ l) × (last_of (y ∷ l) ≡ Some x)) (sym turned)
    ((subst (λ w. Follows image program w z) same came.2, before.0), before.1)

pub read_all : (nodes : List Instance) (parents : List (Option ℕ)) (node at : ℕ) (back : List Instance) (z : Instance)
    → ReadBack nodes parents node at back → slice_get parents at ≡ Some None → slice_get nodes at ≡ Some z
    → (image : Flash) (program : Program) (x : Instance)
    → AreParents image program nodes parents → slice_get nodes node ≡ Some x → IsTrail image program (reverse (back ++ z ∷ [])) x
read_all nodes parents node at back z so_far parent here image program x are at_node =
    let read = so_far image program x z are at_node here in
    let turned : reverse (back ++ z ∷ []) ≡ z ∷ reverse back = reverse-append back (z ∷ []) in
    subst (λ l. IsTrail image program l x) (sym turned)
    (record { first = z; begins = refl; start = are.each at z None here parent; leads = read.0; ends = read.1 })
