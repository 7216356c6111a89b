-- What is kept while instances are asked.
use Rattle.uz_search.proofs.Common.{◌≡◌, ◌≢◌, ℕ, zero, suc, ◌<◌, ◌+◌, [], List, Option, Some, None, Ok, sym, ap, ◌∙◌, subst, length}
use Rattle.uz_search.proofs.Common.{slice_get, get_or, ◌++◌, inl, inr, ⊎_elim, drop, take, arith, slice_get_within, slice_get-get_or}
use Rattle.uz_search.proofs.Common.{same_Some, cases_eq, Instance, Main, Next, Mark, Shown, Return, Fail, Program, Among, Flash, After}
use Rattle.uz_search.proofs.Common.{Follows, followers_of, most_clocks, StuckWith, CameFrom, IsTree, Extends, AddsAll, KeepsMarks, MarksAll}
use Rattle.uz_search.proofs.Common.{MarksWay, NotesEnd, Treats, Treated, IsSearch, SplitsFrom}
use Rattle.std.proofs.Common.{append-nil}
use Rattle.std.proofs.lemmas.List.{take_all, drop_all}
use Rattle.uz_search.specs.Returning.{KeepsReturns}
use Rattle.uz_search.proofs.VisitingLemmas.{among_more}
use Rattle.uz_search.specs.Refusing.{Split}

pub way_from_all : (p : Program) (x : Instance) (next : Next) (old : List Mark) (noted : Option Shown) (new : List Mark)
    → x.kind ≢ Main → MarksAll p x (most_clocks p x next.out.items) next.emit old noted new → MarksWay p x next old noted new
way_from_all p x next old None new apart all = (
  all.0,
  (λ y e h. ⊎_elim (λ before. inl before) (λ own. inr (apart, own)) (all.1 y e h)),
  (λ _. all.2),
)
way_from_all p x next old (Some noted) new apart all = (
  ⊎_elim (λ before. inl before) (λ own. inr (apart, own)) (all.0 noted.place noted.event all.1),
  (all.2.0, (apart, all.2.1), all.2.2),
)

pub treats_from : (image : Flash) (program : Program) (x : Instance) (by : ℕ) (marks marks' : List Mark)
    (returns returns' : List (Option Return)) (next : Next)
    → After image program x (Ok next) → (x.kind ≢ Main → (y : Instance) × (slice_get next.out.items 0 ≡ Some y))
    → ((why : Fail) → StuckWith image program x next why → ⊥)
    → MarksWay program x next marks None marks' → NotesEnd next by returns None returns' → Treats image program x by marks marks' returns
    returns' next
treats_from image program x by marks marks' returns returns' next after some clear way end = record {
  after = after;
  some = some;
  clear = clear;
  seen = way.2;
  noted = end.1;
  keeps_marks = way.0;
  keeps_returns = end.0;
  own_marks = λ y e h. ⊎_elim (λ before. inl before) (λ own. inr (next, after, own.0, own.1)) (way.1 y e h);
  own_returns = λ line r h. ⊎_elim (λ before. inl before)
      (λ own. inr (own.0, (next, after, own.1.0, own.1.1), own.2, own.3, own.4))
      (end.2 line r h);
}

-- a slice that was lent whole and came back
pub whole_back : {A : Type 0} (old new : List A) (n : ℕ) → length new ≡ length old → n ≡ length old → take n (new ++ drop (length new) old)
    ≡ new
whole_back old new n same len =
    let nothing : drop (length new) old ≡ [] = drop_all (length new) old (omega arith) in
    ap (λ l. take n (new ++ l)) nothing ∙ ap (take n) (append-nil new) ∙ take_all n new (omega arith)

-- what holds of the starts, and of what follows an instance where it holds of it, holds of all
module _ (image : Flash) (program : Program) (P : Instance → Type 0)
    (base : (y : Instance) → Among program.starts y → P y) (more : (x y : Instance) → P x → Follows image program x y → P y)
    (nodes : List Instance) (parents : List (Option ℕ)) (tree : IsTree image program nodes parents) where
  from : (p : Option ℕ) (x : Instance) (i : ℕ) → slice_get parents i ≡ Some p → CameFrom image program nodes p x
      → ((j : ℕ) (y : Instance) → j < i → slice_get nodes j ≡ Some y → P y) → P x
  from None x i at came below = base x came
  from (Some p) x i at came below = more came.0 x (below p came.0 (tree.earlier i p at) came.1) came.2

  below_all : (n i : ℕ) (x : Instance) → i < n → slice_get nodes i ≡ Some x → P x
  below_all zero i x h at = absurd (omega arith)
  below_all (suc n) i x h at =
      let w : i < length nodes = slice_get_within nodes i x at in
      let l = tree.lengths in
      let parent : slice_get parents i ≡ Some (get_or parents i None) = slice_get-get_or parents i None (omega (arith, w, l)) in
      from (get_or parents i None) x i parent (tree.are.each i x (get_or parents i None) at parent)
      (λ j y lt here. below_all n j y (omega arith) here)

  pub tree_all : (x : Instance) → Among nodes x → P x
  tree_all x at = below_all (suc at.0) at.0 x (omega arith) at.1

pub treated_more : (image : Flash) (program : Program) (nodes nodes' : List Instance) (marks marks' : List Mark)
    (returns returns' : List (Option Return)) (x : Instance)
    → Extends nodes nodes' → KeepsMarks marks marks' → KeepsReturns returns returns' → Treated image program nodes marks returns x
    → Treated image program nodes' marks' returns' x
treated_more image program nodes nodes' marks marks' returns returns' x extends keeps_marks keeps_returns t = record {
  next = t.next;
  after = t.after;
  some = t.some;
  clear = t.clear;
  seen = λ apart k some few. keeps_marks _ _ (t.seen apart k some few);
  noted = λ back end at. let n = t.noted back end at in (n.0, keeps_returns end.line n.0 n.1, n.2);
  follow = λ y at. among_more nodes nodes' y extends (t.follow y at);
}

pub search_more : (image : Flash) (program : Program) (nodes nodes' : List Instance) (parents parents' : List (Option ℕ))
    (marks marks' : List Mark) (returns returns' : List (Option Return)) (done : ℕ) (x : Instance) (next : Next)
    → IsSearch image program nodes parents marks returns done → slice_get nodes done ≡ Some x
    → Treats image program x done marks marks' returns returns' next
    → length marks' ≡ length marks → length returns' ≡ length returns
    → AddsAll image program nodes (followers_of program x next) nodes' parents'
    → IsSearch image program nodes' parents' marks' returns' (done + 1)
search_more image program nodes nodes' parents parents' marks marks' returns returns' done x next s at t same_marks same_returns adds =
    record {
      tree = adds.tree;
      started = λ y h. among_more nodes nodes' y adds.extends (s.started y h);
      marked = λ y e h. ⊎_elim
          (λ old. let was = s.marked y e old in record {
            number = was.number;
            below = (let below = was.below in omega arith);
            x = was.x;
            there = adds.extends was.number was.x was.there;
            shows = was.shows;
          })
          (λ own. record { number = done; below = omega arith; x = x; there = adds.extends done x at; shows = own })
          (t.own_marks y e h);
      ended = λ line r h. ⊎_elim
          (λ old. let was = s.ended line r old in (was.0, was.1, adds.extends r.by was.0 was.2, was.3, was.4, was.5))
          (λ own. (x, own.0, subst (λ n. slice_get nodes' n ≡ Some x) (sym own.4) (adds.extends done x at), own.1, own.2, own.3))
          (t.own_returns line r h);
      frame = same_marks ∙ s.frame;
      lines = same_returns ∙ s.lines;
      treated = λ i z below here. ⊎_elim
          (λ e. let same : x ≡ z = same_Some x z (sym (adds.extends done x at) ∙ subst (λ n. slice_get nodes' n ≡ Some z) e here) in
          subst (Treated image program nodes' marks' returns') same (record {
            next = next;
            after = t.after;
            some = t.some;
            clear = t.clear;
            seen = t.seen;
            noted = t.noted;
            follow = λ y among. adds.there among.0 y among.1;
          }))
          (λ ne. let lt : i < done = omega arith in
          let w' : i < length nodes = omega (arith, lt, slice_get_within nodes done x at) in
          let old : slice_get nodes i ≡ Some (get_or nodes i x) = slice_get-get_or nodes i x w' in
          let same : get_or nodes i x ≡ z = same_Some (get_or nodes i x) z (sym (adds.extends i (get_or nodes i x) old) ∙ here) in
          treated_more image program nodes nodes' marks marks' returns returns' z adds.extends t.keeps_marks t.keeps_returns
          (s.treated i z lt (old ∙ ap Some same)))
          (cases_eq i done);
    }

pub split_from : (image : Flash) (program : Program) (nodes : List Instance) (parents : List (Option ℕ)) (marks : List Mark)
    (returns : List (Option Return)) (done other : ℕ) (x : Instance)
    → IsSearch image program nodes parents marks returns done → SplitsFrom image program nodes x other returns
    → (z : Instance) × (slice_get nodes other ≡ Some z) × Split image program z x
split_from image program nodes parents marks returns done other x s (inl h) = (h.0, h.1, inl h.2)
split_from image program nodes parents marks returns done other x s (inr h) =
    let was = s.ended h.0.line h.1 h.2 in (
      was.0,
      subst (λ n. slice_get nodes n ≡ Some was.0) h.3 was.2,
      inr (
        was.1,
        h.0,
        was.3,
        h.4,
        sym was.4,
        λ same. h.5 (was.5.0 ∙ same.0, was.5.1 ∙ same.1),
      ),
    )
