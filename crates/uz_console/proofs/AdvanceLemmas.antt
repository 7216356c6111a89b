-- Turns up to one with edges.
use Rattle.std.proofs.Common.{◌≡◌, ℕ, zero, suc, ◌<◌, ◌≤◌, nat_le, true, cond, List, [], ◌∷◌, refl, sym, ◌∙◌, ap, subst, arith}
use Rattle.std.proofs.lemmas.Bool.Decides.{nat_tests}
use Rattle.uz_core.specs.declared.machine.Edge.{Edge}
use Rattle.uz_core.specs.PadLine.{PadHistory}
use Rattle.uz_core.specs.Space.{history_wiring}
use Rattle.uz_core.specs.Turn.{State, Turn}
use Rattle.uz_core.specs.Run.{Run, TurnBefore, edges_until}
use Rattle.uz_core.specs.declared.step.Why.{Why}
use Rattle.uz_pads.specs.declared.pads.Pads.{Pads}
use Rattle.uz_console.specs.declared.console.Console.{Console}
use Rattle.uz_console.specs.Advances.{Reaches}
use Rattle.uz_console.specs.Consoles.{StateStandsFor, StandsFor, clock_of, state_of}
use Rattle.uz_console.specs.ManyTurns.{LeadsTo}
use Rattle.uz_console.specs.Runs.{AreTimed}
use Rattle.uz_console.specs.Turns.{Halts}
use Rattle.uz_console.proofs.EdgeTimes.{timed_append, turn_timed}
use Rattle.uz_console.proofs.RunLemmas.{begins, run_more}

-- the edges of a run lie between the clocks of its states
run_timed : (limit n : ℕ) (s last : State PadHistory) (edges : List Edge) → Run (TurnBefore limit) n s edges last
    → AreTimed s.clock last.clock edges
run_timed limit zero s last edges run =
    subst (λ es. AreTimed s.clock last.clock es) (sym run.0)
    (subst (λ (x : State PadHistory). s.clock ≤ x.clock) (sym run.1) (omega arith))
run_timed limit (suc n) s last edges (first, mid, rest, turn, run, cut) =
    subst (λ es. AreTimed s.clock last.clock es) (sym cut)
    (timed_append s.clock mid.clock last.clock first rest (turn_timed s mid first turn.1) (run_timed limit n mid last rest run))

-- and so all are in time, where that ends before a limit
ends_after : (from to : ℕ) (edges : List Edge) → AreTimed from to edges → from ≤ to
ends_after from to [] t = t
ends_after from to (e ∷ edges) t = (let later = ends_after e.clock to edges t.1 in let first = t.0 in omega arith)

all_in_time : (limit from to : ℕ) (edges : List Edge) → to < limit → AreTimed from to edges → edges_until limit edges ≡ edges
all_in_time limit from to [] h t = refl
all_in_time limit from to (e ∷ edges) h t =
    let later = ends_after e.clock to edges t.1 in
    let within : nat_le e.clock limit ≡ true = grind (arith, nat_tests, later, h) in
    ap (λ b. cond b (e ∷ edges_until limit edges) (edges_until limit edges)) within ∙
    ap (λ es. e ∷ es) (all_in_time limit e.clock to edges h t.1)

-- turns without edges, which end before the limit
record Quietly (limit : ℕ) (s : State PadHistory) (mid : Console) : Type 0 where
  turns : ℕ
  last : State PadHistory
  run : Run (TurnBefore limit) turns s [] last
  stands : StandsFor mid last

quiet_run : (limit watched : ℕ) (old mid : Console) → LeadsTo limit watched old mid → clock_of mid < limit → (s : State PadHistory)
    → StandsFor old s → Quietly limit s mid
quiet_run limit watched old mid quiet h s stands =
    let there = quiet.run s [] (begins old s limit stands) in
    let last = there.0 in
    let part = there.1 in
    let before : last.clock < limit = subst (λ n. n < limit) (sym (there.2).clock) h in
    let none : part.all_edges ≡ [] =
    sym (all_in_time limit s.clock last.clock part.all_edges before (run_timed limit part.turns s last part.all_edges part.run)) ∙
    sym part.in_time in
    record {
      turns = part.turns;
      last = last;
      run = subst (λ es. Run (TurnBefore limit) part.turns s es last) none part.run;
      stands = there.2;
    }

-- and then a turn
pub reaches_by_turn : (limit watched : ℕ) (old mid new : Console) (edges : List Edge) → LeadsTo limit watched old mid → clock_of mid < limit
    → ((s : State PadHistory) → StandsFor mid s → (next : State PadHistory) × Turn history_wiring s edges next × StandsFor new next)
    → (s : State PadHistory) → StandsFor old s → Reaches limit s edges new
reaches_by_turn limit watched old mid new edges quiet h turn s stands =
    let q : Quietly limit s mid = quiet_run limit watched old mid quiet h s stands in
    let t = turn q.last q.stands in
    let before : (q.last).clock < limit = subst (λ n. n < limit) (sym (q.stands).clock) h in
    let run = run_more limit q.turns s q.last t.0 [] edges q.run (before, t.1) in
    record {
      turns = suc q.turns;
      last = t.0;
      run = run;
      stands = t.2;
      timed = run_timed limit (suc q.turns) s t.0 edges run;
    }

-- or none
pub reaches_stop : (limit watched : ℕ) (old mid new : Console) (why : Why) → LeadsTo limit watched old mid → clock_of mid < limit
    → state_of new ≡ state_of mid → ((s : State PadHistory) → StandsFor mid s → Halts s why) →
    ((s : State PadHistory) → StandsFor old s → Reaches limit s [] new) × ((s : State PadHistory) → StandsFor new s → Halts s why)
reaches_stop limit watched old mid new why quiet h same halts = (
  λ s stands.
      let q : Quietly limit s mid = quiet_run limit watched old mid quiet h s stands in
      record {
        turns = q.turns;
        last = q.last;
        run = q.run;
        stands = subst (λ (t : State Pads). StateStandsFor t q.last) (sym same) q.stands;
        timed = run_timed limit q.turns s q.last [] q.run;
      },
  λ s stands. halts s (subst (λ (t : State Pads). StateStandsFor t s) same stands),
)
