-- The returns of a run are those of the schedule.
use Rattle.uz_check.proofs.Common.{leb, ◌≡◌, inl, inr, ℕ, zero, suc, ◌+◌, ◌-◌, ◌<◌, ◌≤◌, List, [], ◌∷◌, ◌++◌, refl, sym, ◌∙◌, ap, subst}
use Rattle.uz_check.proofs.Common.{arith, ⊤, Option, Some, None, nat_cmp, FinMap, filter_map-append, Cert, EventKind, event_at, Edge}
use Rattle.uz_check.proofs.Common.{EdgeKind, edges_until, Shown, event_of, listed, shown, shown_at, scheduled, Certified}
use Rattle.uz_check.proofs.EventLists.{shown_filtered, Among, among_right, edge_shown, event_edge, scheduled_has, scheduled_stands}
use Rattle.uz_schedule.specs.declared.lines.EventKind.TheVariants.{Leave}
use Rattle.uz_check.specs.ReturnTimes.{HasReturn, IsReturnDue, ReturnsInTime, ReturnsHold, return_at}
use Rattle.uz_check.proofs.RunParts.{all_in_time, timed_ends, turns_timed}
use Rattle.uz_core.specs.declared.machine.EdgeKind.TheVariants as edge

-- Clocks of a stretch rise

abbrev RisesFrom : ℕ → List Shown → Type 0
RisesFrom from [] = ⊤
RisesFrom from (x ∷ xs) = (from < x.clock) × RisesFrom x.clock xs

rises_earlier : (from earlier : ℕ) (xs : List Shown) → earlier ≤ from → RisesFrom from xs → RisesFrom earlier xs
rises_earlier from earlier [] before h = tt
rises_earlier from earlier (x ∷ xs) before h = (let first = h.0 in omega arith, h.1)

stretch_rises : (at : ℕ → Option EventKind) (p clock n : ℕ) → RisesFrom clock (scheduled at p clock n)
stretch_rises at p clock zero = tt
stretch_rises at p clock (suc n) = by_event (at (suc p)) (stretch_rises at (suc p) (suc clock) n)
  where
    by_event : (o : Option EventKind) → RisesFrom (suc clock) (scheduled at (suc p) (suc clock) n)
        → RisesFrom clock (listed (shown_at o (suc clock)) ++ scheduled at (suc p) (suc clock) n)
    by_event None more = rises_earlier (suc clock) clock (scheduled at (suc p) (suc clock) n) (omega arith) more
    by_event (Some kind) more = (omega arith, more)

later_rises : (from : ℕ) (a : List Shown) (x : Shown) (b : List Shown) → RisesFrom from (a ++ x ∷ b) → RisesFrom x.clock b
later_rises from [] x b h = h.1
later_rises from (y ∷ a) x b h = later_rises y.clock a x b h.1

above : (from : ℕ) (a : List Shown) (x : Shown) (b : List Shown) → RisesFrom from (a ++ x ∷ b) → from < x.clock
above from [] x b h = h.0
above from (y ∷ a) x b h = (let first = h.0 in let more = above y.clock a x b h.1 in omega arith)

-- Returns among edges

shown_cut : (before after : List Edge) (clock : ℕ) → shown (before ++ return_at clock ∷ after)
    ≡ shown before ++ record { clock = clock; kind = Leave } ∷ shown after
shown_cut before after clock = filter_map-append (λ (e : Edge). shown_at (event_of e.kind) e.clock) before (return_at clock ∷ after)

further : (e : Edge) (edges : List Edge) (clock : ℕ) → HasReturn edges clock → HasReturn (e ∷ edges) clock
further e edges clock h = record { before = e ∷ h.before; after = h.after; cut = ap (λ es. e ∷ es) h.cut }

cut_at : (edges : List Edge) (clock : ℕ) → Among (return_at clock) edges → HasReturn edges clock
cut_at [] clock none = absurd none
cut_at (e ∷ edges) clock (inl is) = record { before = []; after = edges; cut = ap (λ (x : Edge). x ∷ edges) is }
cut_at (e ∷ edges) clock (inr later) = further e edges clock (cut_at edges clock later)

return_kind : (kind : EdgeKind) → event_of kind ≡ Some Leave → kind ≡ edge.Leave
return_kind (edge.Sync value) is = absurd (cc is)
return_kind (edge.Pixel value) is = absurd (cc is)
return_kind (edge.Sound value) is = absurd (cc is)
return_kind (edge.Enter count) is = absurd (cc is)
return_kind edge.Leave is = refl

edge_is : (clock n : ℕ) (kind : EdgeKind) → n ≡ clock → kind ≡ edge.Leave → record { clock = n; kind = kind } ≡ return_at clock
edge_is clock n kind at is = ap (λ (m : ℕ). record { clock = m; kind = kind }) at
    ∙ ap (λ (k : EdgeKind). record { clock = clock; kind = k }) is

-- Of a whole run

module _ (cert : Cert) (start p end : ℕ) (edges : List Edge) (whole : start ≤ end) (exact : shown edges ≡ scheduled
    (event_at cert.schedule) p start (end - start)) where
  forth : (clock : ℕ) → HasReturn edges clock → IsReturnDue cert start p end clock
  forth clock h =
      let among : Among (return_at clock) edges = subst (Among (return_at clock)) (sym h.cut)
      (among_right (return_at clock) h.before (return_at clock ∷ h.after) (inl refl)) in
      let stands = scheduled_stands (event_at cert.schedule) p start (end - start) (record { clock = clock; kind = Leave })
      (subst (Among (record { clock = clock; kind = Leave })) exact (edge_shown edges (return_at clock) Leave among refl)) in
      let at = stands.clock_is in
      let some = stands.some in
      let few = stands.few in
      let steps : stands.steps ≡ clock - start = omega arith in
      record {
        begun = omega arith;
        in_run = omega arith;
        event = ap (λ i. event_at cert.schedule (p + i)) (sym steps) ∙ stands.event;
      }

  back : (clock : ℕ) → IsReturnDue cert start p end clock → HasReturn edges clock
  back clock due =
      let begun = due.begun in
      let in_run = due.in_run in
      let at : start + (clock - start) ≡ clock = omega arith in
      let there = event_edge edges (record { clock = start + (clock - start); kind = Leave })
      (subst (Among (record { clock = start + (clock - start); kind = Leave })) (sym exact)
      (scheduled_has (event_at cert.schedule) p start (end - start) (clock - start) Leave (omega arith) (omega arith) due.event)) in
      let is = edge_is clock (there.edge).clock (there.edge).kind (there.clock ∙ at) (return_kind (there.edge).kind there.kind) in
      cut_at edges clock (subst (λ (e : Edge). Among e edges) is there.among)

  rise : (before between after : List Edge) (left again : ℕ)
      → edges ≡ before ++ return_at left ∷ (between ++ return_at again ∷ after) → left < again
  rise before between after left again cut =
      let events = ap shown cut ∙ (shown_cut before (between ++ return_at again ∷ after) left
      ∙ ap (λ xs. shown before ++ record { clock = left; kind = Leave } ∷ xs) (shown_cut between after again)) in
      let rises = subst (RisesFrom start) (sym exact ∙ events) (stretch_rises (event_at cert.schedule) p start (end - start)) in
      above left (shown between) (record { clock = again; kind = Leave }) (shown after)
      (later_rises start (shown before) (record { clock = left; kind = Leave })
      (shown between ++ record { clock = again; kind = Leave } ∷ shown after) rises)

  pub in_time : ReturnsInTime cert start p end edges
  in_time = record { exact = λ clock. (forth clock, back clock); rise = rise }

pub returns_hold : (image : FinMap nat_cmp ℕ) (cert : Cert) → Certified image cert → ReturnsHold image cert
returns_hold image cert h s p n edges end is_state flash entry run =
    let T = end.clock - s.clock in
    let timed = turns_timed n s end edges run in
    let whole : s.clock ≤ end.clock = timed_ends s.clock end.clock edges timed in
    let to : s.clock + T ≡ end.clock = omega (arith, whole) in
    let all : edges_until (s.clock + T) edges ≡ edges = all_in_time (s.clock + T) s.clock end.clock edges timed (omega (arith, to)) in
    let exact = sym (ap shown all) ∙ (shown_filtered (λ k. leb k (s.clock + T)) edges
    ∙ (h s p is_state flash entry T).exact n edges end run (omega (arith, to))) in
    in_time cert s.clock p end.clock edges whole exact
