-- One step of the search, and where it stops.
use Rattle.uz_search.proofs.Common.{◌≡◌, ℕ, ◌<◌, ◌+◌, List, Option, Some, Ok, Err, Result, refl, sym, ap, ◌∙◌, subst, length, slice_get}
use Rattle.uz_search.proofs.Common.{take, drop, ◌++◌, zero, suc, ◌≤◌, None, replicate, [], arith, ⊤, slice_get_within, Instance, Next, Fail}
use Rattle.uz_search.proofs.Common.{Mark, Unpassed, Return, Stop, Found, Program, AddsAll, ComeFrom, IsTree, Flash, After, followers_of}
use Rattle.uz_search.proofs.Common.{lines_of, Seen, Treats, IsSearch, IsSearchOf, SplitsFrom, StopHolds}
use Rattle.std.specs.Prelude.{IfOk}
use Rattle.uz_search.specs.Following.{frame_of}
use Rattle.std.proofs.lemmas.List.{length-replicate}
use Rattle.uz_search.specs.Stuck.{IsStuck}
use Rattle.uz_search.proofs.MarkingLemmas.{none_marked}
use Rattle.uz_search.proofs.SearchingLemmas.{search_more, split_from, whole_back}
use Rattle.uz_search.specs.declared.examination.Stop.TheVariants as stops

pub come_from : (image : Flash) (program : Program) (nodes : List Instance) (done : ℕ) (x : Instance) (next : Next) (follow : List Instance)
    → slice_get nodes done ≡ Some x → After image program x (Ok next) → follow ≡ followers_of program x next
    → ComeFrom image program nodes (Some done) follow
come_from image program nodes done x next follow at after is k y here =
    (x, at, record { next = next; after = after; is = (k, ap (λ l. slice_get l k) (sym is) ∙ here) })

pub search_step : (image : Flash) (program : Program) (nodes nodes' : List Instance) (parents parents' : List (Option ℕ))
    (marks marks0 marks' : List Mark) (returns returns0 returns' : List (Option Return)) (nm nr done : ℕ) (x : Instance)
    (next : Next) (follow : List Instance)
    → IsSearch image program nodes parents marks returns done → slice_get nodes done ≡ Some x
    → marks0 ≡ marks → returns0 ≡ returns
    → Treats image program x done marks0 marks' returns0 returns' next
    → length marks' ≡ length marks0 → length returns' ≡ length returns0 → nm ≡ length marks → nr ≡ length returns
    → follow ≡ followers_of program x next
    → ((image : Flash) (program : Program) → IsTree image program nodes parents → ComeFrom image program nodes (Some done) follow
    → AddsAll image program nodes follow nodes' parents')
    → IsSearch image program nodes' parents' (take nm (marks' ++ drop (length marks') marks))
    (take nr (returns' ++ drop (length returns') returns)) (done + 1)
search_step image program nodes nodes' parents parents' marks marks0 marks' returns returns0 returns' nm nr done x next follow s at em er t
    lm lr en er' is adds =
    let t1 = subst (λ r. Treats image program x done marks marks' r returns' next) er
    (subst (λ m. Treats image program x done m marks' returns0 returns' next) em t) in
    let sm : length marks' ≡ length marks = lm ∙ ap length em in
    let sr : length returns' ≡ length returns = lr ∙ ap length er in
    let added = adds image program s.tree (come_from image program nodes done x next follow at t.after is) in
    let added1 = subst (λ l. AddsAll image program nodes l nodes' parents') is added in
    let more = search_more image program nodes nodes' parents parents' marks marks' returns returns' done x next s at t1 sm sr added1 in
    subst (λ m. IsSearch image program nodes' parents' m (take nr (returns' ++ drop (length returns') returns)) (done + 1))
    (sym (whole_back marks marks' nm sm en))
    (subst (λ r. IsSearch image program nodes' parents' marks' r (done + 1)) (sym (whole_back returns returns' nr sr er')) more)

pub stop_holds : (image : Flash) (program : Program) (nodes nodes0 : List Instance) (parents : List (Option ℕ)) (marks : List Mark)
    (returns returns0 : List (Option Return)) (done : ℕ) (x : Instance) (stop : Stop)
    → IsSearch image program nodes parents marks returns done → nodes0 ≡ nodes → returns0 ≡ returns
    → ((why : Fail) → ◌≡◌ {A = Result ⊤ Stop} (Err stop) (Err (stops.Stuck why)) → IsStuck image program x why)
    → ((other : ℕ) → ◌≡◌ {A = Result ⊤ Stop} (Err stop) (Err (stops.Split other)) → SplitsFrom image program nodes0 x other returns0)
    → StopHolds image program nodes x stop
stop_holds image program nodes nodes0 parents marks returns returns0 done x (stops.Stuck why) s en er stuck split = stuck why refl
stop_holds image program nodes nodes0 parents marks returns returns0 done x (stops.Split other) s en er stuck split =
    split_from image program nodes parents marks returns done other x s
    (subst (λ r. SplitsFrom image program nodes x other r) er (subst (λ l. SplitsFrom image program l x other returns0) en
    (split other refl)))
stop_holds image program nodes nodes0 parents marks returns returns0 done x stops.Memory s en er stuck split = tt

pub split_within : (image : Flash) (program : Program) (nodes nodes0 : List Instance) (parents : List (Option ℕ)) (marks : List Mark)
    (returns returns0 : List (Option Return)) (done other : ℕ) (x : Instance)
    → IsSearch image program nodes parents marks returns done → nodes0 ≡ nodes → returns0 ≡ returns
    → SplitsFrom image program nodes0 x other returns0 → other < length nodes
split_within image program nodes nodes0 parents marks returns returns0 done other x s en er h =
    let z = split_from image program nodes parents marks returns done other x s
    (subst (λ r. SplitsFrom image program nodes x other r) er (subst (λ l. SplitsFrom image program l x other returns0) en h)) in
    slice_get_within nodes other z.0 z.1

pub none_blank : {A : Type 0} (n x : ℕ) (m : A) → slice_get (replicate n None) x ≡ Some (Some m) → ⊥
none_blank zero x m h = cc
none_blank (suc n) zero m h = cc
none_blank (suc n) (suc x) m h = none_blank n x m h

pub search_begin : (image : Flash) (program : Program) (items nodes : List Instance) (parents : List (Option ℕ))
    (marks : List Mark) (returns : List (Option Return))
    → items ≡ program.starts
    → ((image : Flash) (program : Program) → IsTree image program [] [] → ComeFrom image program [] None items → AddsAll image program []
    items nodes parents)
    → marks ≡ replicate (frame_of program) Unpassed → returns ≡ replicate (lines_of program) None
    → IsSearch image program nodes parents marks returns 0
search_begin image program items nodes parents marks returns is adds em er =
    let added = adds image program (record { lengths = refl; earlier = λ i p h. cc; are = record { each = λ i x p h k. cc } })
    (λ k y here. (k, subst (λ l. slice_get l k ≡ Some y) is here)) in
    record {
      tree = added.tree;
      started = λ y h. added.there h.0 y (subst (λ l. slice_get l h.0 ≡ Some y) (sym is) h.1);
      marked = λ y e h. absurd (none_marked (frame_of program) y e (subst (λ l. Seen l y e) em h));
      ended = λ line r h. absurd (none_blank (lines_of program) line r (subst (λ l. slice_get l line ≡ Some (Some r)) er h));
      frame = ap length em ∙ length-replicate (frame_of program) Unpassed;
      lines = ap length er ∙ length-replicate (lines_of program) None;
      treated = λ i x below here. absurd (omega arith);
    }

-- an answer that is a search of any program with these starts, marks and returns
pub begun : {E : Type 0} (program : Program) (answer : Result Found E) (starts : List Instance) (marks : List Mark)
    (returns : List (Option Return))
    → IfOk answer (λ s. (image : Flash) (p : Program) → starts ≡ p.starts → marks ≡ replicate (frame_of p) Unpassed
    → returns ≡ replicate (lines_of p) None → IsSearchOf image p s 0)
    → starts ≡ program.starts → marks ≡ replicate (frame_of program) Unpassed → returns ≡ replicate (lines_of program) None
    → IfOk answer (λ s. (image : Flash) → IsSearchOf image program s 0)
begun program (Ok found) starts marks returns all es em er = λ image. all image program es em er
begun program (Err e) starts marks returns all es em er = tt

pub search_end : (image : Flash) (program : Program) (nodes : List Instance) (parents : List (Option ℕ)) (marks : List Mark)
    (returns : List (Option Return)) (done : ℕ)
    → IsSearch image program nodes parents marks returns done → length nodes ≤ done → IsSearch image program nodes parents marks returns
    (length nodes)
search_end image program nodes parents marks returns done s le = record {
  tree = s.tree;
  started = s.started;
  marked = λ y e h. let was = s.marked y e h in record {
    number = was.number;
    below = slice_get_within nodes was.number was.x was.there;
    x = was.x;
    there = was.there;
    shows = was.shows;
  };
  ended = s.ended;
  frame = s.frame;
  lines = s.lines;
  treated = λ i x below here. s.treated i x (omega arith) here;
}
