-- Trails of a tree, and distinct instances on trails.
use Rattle.uz_search.proofs.Common.{◌≡◌, ℕ, zero, suc, ◌≤◌, List, [], ◌∷◌, ◌++◌, Option, Some, Bool, true, false, refl, sym, ap, ◌∙◌, subst}
use Rattle.uz_search.proofs.Common.{length, slice_get, take, true≢false, Instance, slice_get_within, same_Some, Main, Handler, Program}
use Rattle.uz_search.proofs.Common.{Mark, Return, Among, Flash, Follows, followers_of, last_of, Leads, IsTree, ReturnAt, IsSearch, Treated}
use Rattle.uz_search.proofs.Common.{ClosedWithoutReturn, length-take-le}
use Rattle.uz_search.specs.Trails.{OnTrail}
use Rattle.uz_search.specs.Refusing.{AreDistinct, AreOnTrails}
use Rattle.std.specs.List.{IsDistinct, AllByRecursion}
use Rattle.uz_search.proofs.OneResult.{one_next, steps}
use Rattle.uz_search.proofs.Results.{back_is_handler}
use Rattle.uz_search.proofs.VisitingLemmas.{get_front}
use Rattle.uz_search.proofs.SearchingLemmas.{tree_all}

pub leads_push : (image : Flash) (program : Program) (t : List Instance) (x y : Instance) → Leads image program t → last_of t ≡ Some x
    → Follows image program x y → Leads image program (t ++ y ∷ [])
leads_push image program [] x y leads last more = tt
leads_push image program (a ∷ []) x y leads last more = (subst (λ z. Follows image program z y) (sym (same_Some a x last)) more, tt)
leads_push image program (a ∷ b ∷ rest) x y leads last more = (leads.0, leads_push image program (b ∷ rest) x y leads.1 last more)

pub last_push : (t : List Instance) (y : Instance) → last_of (t ++ y ∷ []) ≡ Some y
last_push [] y = refl
last_push (a ∷ []) y = refl
last_push (a ∷ b ∷ rest) y = last_push (b ∷ rest) y

pub on_trail_start : (image : Flash) (program : Program) (y : Instance) → Among program.starts y → OnTrail image program y
on_trail_start image program y h = (y ∷ [], record { first = y; begins = refl; start = h; leads = tt; ends = refl })

pub on_trail_more : (image : Flash) (program : Program) (x y : Instance) → OnTrail image program x → Follows image program x y
    → OnTrail image program y
on_trail_more image program x y h more = (
  h.0 ++ y ∷ [],
  record {
    first = h.1.first;
    begins = get_front h.0 (y ∷ []) 0 h.1.first h.1.begins;
    start = h.1.start;
    leads = leads_push image program h.0 x y h.1.leads h.1.ends more;
    ends = last_push h.0 y;
  },
)

pub all_on_trails : (image : Flash) (program : Program) (nodes : List Instance) (parents : List (Option ℕ)) → IsTree image program nodes
    parents
    → (x : Instance) → Among nodes x → OnTrail image program x
all_on_trails image program nodes parents tree = tree_all image program (OnTrail image program) (on_trail_start image program)
    (on_trail_more image program) nodes parents tree

module _ {A : Type 0} where
  pub get_take : (n : ℕ) (xs : List A) (i : ℕ) (x : A) → slice_get (take n xs) i ≡ Some x → slice_get xs i ≡ Some x
  get_take zero xs i x h = cc
  get_take (suc n) [] i x h = cc
  get_take (suc n) (y ∷ ys) zero x h = h
  get_take (suc n) (y ∷ ys) (suc i) x h = get_take n ys i x h

  all_at : (P : A → Type 0) (xs : List A) (i : ℕ) (x : A) → AllByRecursion P xs → slice_get xs i ≡ Some x → P x
  all_at P [] i x all h = cc
  all_at P (y ∷ ys) zero x all h = subst P (same_Some y x h) all.0
  all_at P (y ∷ ys) (suc i) x all h = all_at P ys i x all.1 h

  module _ (eq : A → A → Bool) (own : (x : A) → eq x x ≡ true) where
    apart : (xs : List A) (i : ℕ) (y x : A) → AllByRecursion (λ z. eq y z ≡ false) xs → slice_get xs i ≡ Some x → y ≡ x → ⊥
    apart xs i y x all h e = true≢false (sym (own x) ∙ subst (λ z. eq z x ≡ false) e (all_at (λ z. eq y z ≡ false) xs i x all h))

    pub one_place : (xs : List A) → IsDistinct eq xs → (i j : ℕ) (x : A) → slice_get xs i ≡ Some x → slice_get xs j ≡ Some x → i ≡ j
    unfolding IsDistinct
    one_place [] d i j x h k = cc
    one_place (y ∷ ys) d zero zero x h k = refl
    one_place (y ∷ ys) d zero (suc j) x h k = absurd (apart ys j y x d.0 k (same_Some y x h))
    one_place (y ∷ ys) d (suc i) zero x h k = absurd (apart ys i y x d.0 h (same_Some y x k))
    one_place (y ∷ ys) d (suc i) (suc j) x h k = ap suc (one_place ys d.1 i j x h k)

-- the first instances of a tree, as many as the limit
pub on_trails : (image : Flash) (program : Program) (nodes list : List Instance) (parents : List (Option ℕ)) (limit : ℕ)
    → IsTree image program nodes parents → limit ≤ length nodes → list ≡ take limit nodes → AreDistinct list
    → AreOnTrails image program limit list
on_trails image program nodes list parents limit tree le is one = record {
  length = ap length is ∙ length-take-le limit nodes le;
  distinct = one;
  on_trail = λ x h. all_on_trails image program nodes parents tree x
      (h.0, get_take limit nodes h.0 x (subst (λ l. slice_get l h.0 ≡ Some x) is h.1));
}

-- a search that ends and has no return is a closed list without one
pub closed_without : (image : Flash) (program : Program) (nodes : List Instance) (parents : List (Option ℕ)) (marks : List Mark)
    (returns : List (Option Return))
    → IsSearch image program nodes parents marks returns (length nodes)
    → AreDistinct nodes
    → ((s : Instance) × Among program.starts s × (s.kind ≡ Main))
    → ((line : ℕ) (r : Return) → ReturnAt returns line r → ⊥)
    → ClosedWithoutReturn image program (length nodes)
closed_without image program nodes parents marks returns s one main nothing = record {
  main = main;
  list = nodes;
  length = refl;
  distinct = one;
  starts = s.started;
  closed = λ x y h f. let t = treated x h in
      t.follow y (subst (λ n. Among (followers_of program x n) y) (one_next image program x f.next t.next f.after t.after) f.is);
  after = λ x h. let t = treated x h in (t.next, t.after, without x h t (t.next.back) refl);
}
  where
    treated : (x : Instance) → Among nodes x → Treated image program nodes marks returns x
    treated x h = s.treated h.0 x (slice_get_within nodes h.0 x h.1) h.1

    apart : Main ≡ Handler → ⊥
    apart h = cc

    without : (x : Instance) → Among nodes x → (t : Treated image program nodes marks returns x) → (b : Bool) → t.next.back ≡ b
        → t.next.back ≡ false
    without x h t false e = e
    without x h t true e =
        let handler = back_is_handler image program x t.next (steps image program x t.next t.after) e in
        let end = t.some (λ main. apart (sym main ∙ handler)) in
        let noted = t.noted e end.0 end.1 in
        absurd (nothing end.0.line noted.0 noted.1)
