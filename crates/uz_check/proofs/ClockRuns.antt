-- The claim for runs of so many clocks.
use Rattle.uz_check.proofs.Common.{◌≡◌, All, ℕ, zero, suc, ◌+◌, ◌-◌, ◌≤◌, leb, List, sym, ◌∙◌, ap, subst, arith, nat_cmp, FinMap}
use Rattle.uz_check.proofs.Common.{All-filter, Cert, event_at, Edge, PadHistory, history_wiring, State, Turn, Run, TurnBefore, shown, until}
use Rattle.uz_check.proofs.Common.{InTime, Follows, Certified, clock_of, PlaysTo, Plays}
use Rattle.uz_check.proofs.EventLists.{shown_filtered}

as_run : (limit n : ℕ) (s last : State PadHistory) (edges : List Edge) → Run (TurnBefore limit) n s edges last → Run (Turn history_wiring) n
    s edges last
as_run limit zero s last edges run = run
as_run limit (suc n) s last edges (first, mid, rest, (before, turn), run, cut) = (
  first,
  mid,
  rest,
  turn,
  as_run limit n mid last rest run,
  cut,
)

plays_to : (cert : Cert) (s : State PadHistory) (p limit : ℕ) → s.clock ≤ limit
    → ((T : ℕ) → Follows (Turn history_wiring) clock_of (event_at cert.schedule) s p T) → PlaysTo cert s p limit
plays_to cert s p limit before follows =
    let T = limit - s.clock in
    let to : s.clock + T ≡ limit = omega (arith, before) in
    let f = follows T in
    record {
      exact = λ edges last run.
          let part = run.part in
          let all = as_run limit part.turns s last part.all_edges part.run in
          ap shown part.in_time ∙ (shown_filtered (λ k. leb k limit) part.all_edges
          ∙ (ap (λ k. until k (shown part.all_edges)) (sym to) ∙ f.exact part.turns part.all_edges last all (omega (arith, to, run.over))));
      entries = λ edges last run.
          let part = run.part in
          let all = as_run limit part.turns s last part.all_edges part.run in
          subst (All (λ e. InTime e.kind)) (sym part.in_time) (All-filter (λ edge. leb edge.clock limit) (λ e. InTime e.kind) part.all_edges
          (f.entries part.turns part.all_edges last all));
      never_stops = λ edges last run.
          let part = run.part in
          let all = as_run limit part.turns s last part.all_edges part.run in
          let more = f.goes_on part.turns part.all_edges last all (omega (arith, to, run.in_run)) in
          run.stopped more.0 more.1 more.2;
    }

pub plays_of : (image : FinMap nat_cmp ℕ) (cert : Cert) → Certified image cert → Plays image cert
plays_of image cert h s p limit is_state flash entry before = plays_to cert s p limit before (h s p is_state flash entry)
