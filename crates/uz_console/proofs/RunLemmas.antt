-- A run of so many clocks, turn by turn.
use Rattle.std.proofs.Common.{◌≡◌, ℕ, zero, suc, ◌<◌, ◌≤◌, nat_le, List, [], ◌++◌, append_assoc, append-nil, refl, sym, ◌∙◌, ap, subst}
use Rattle.std.proofs.lemmas.List.Elements.{filter-append}
use Rattle.uz_core.specs.declared.machine.Edge.{Edge}
use Rattle.uz_core.specs.PadLine.{PadHistory}
use Rattle.uz_core.specs.Space.{history_wiring}
use Rattle.uz_core.specs.Turn.{State}
use Rattle.uz_core.specs.Turn as machine
use Rattle.uz_core.specs.Run.{Run, TurnBefore, edges_until, IsRunPart, IsStoppedRun}
use Rattle.uz_core.specs.declared.step.Why.{Why}
use Rattle.uz_pads.specs.declared.pads.Pads.{Pads}
use Rattle.uz_console.specs.declared.console.Console.{Console}
use Rattle.uz_console.specs.Consoles.{StateStandsFor, StandsFor, state_of, clock_of}
use Rattle.uz_console.specs.Turns.{Halts}
use Rattle.uz_console.specs.Runs.{RunsTo, RunIsOver}

-- no turn yet
pub begins : (console : Console) (start : State PadHistory) (limit : ℕ) → StandsFor console start → RunsTo limit start [] console
begins console start limit h = (start, record { turns = 0; all_edges = []; run = (refl, refl); in_time = refl }, h)

-- one more turn
pub run_more : (limit n : ℕ) (start last next : State PadHistory) (edges more : List Edge) → Run (TurnBefore limit) n start edges last
    → TurnBefore limit last more next →
    Run (TurnBefore limit) (suc n) start (edges ++ more) next
run_more limit zero start last next edges more run turn = (
  more,
  next,
  [],
  subst (λ s. TurnBefore limit s more next) run.1 turn,
  (refl, refl),
  ap (λ es. es ++ more) run.0 ∙ sym (append-nil more),
)
run_more limit (suc n) start last next edges more (first, mid, rest, turn_first, run, cut) turn = (
  first,
  mid,
  rest ++ more,
  turn_first,
  run_more limit n mid last next rest more run turn,
  ap (λ es. es ++ more) cut ∙ append_assoc first rest more,
)

pub part_more : (limit : ℕ) (start last next : State PadHistory) (edges more : List Edge) → IsRunPart limit start edges last
    → last.clock < limit → machine.Turn history_wiring last more next →
    IsRunPart limit start (edges ++ edges_until limit more) next
part_more limit start last next edges more part h turn = record {
  turns = suc part.turns;
  all_edges = part.all_edges ++ more;
  run = run_more limit part.turns start last next part.all_edges more part.run (h, turn);
  in_time = ap (λ es. es ++ edges_until limit more) part.in_time ∙ sym (filter-append (λ (edge : Edge). nat_le edge.clock limit)
      part.all_edges more);
}

pub goes_on : (old new : Console) (limit : ℕ) (all more : List Edge) →
    ((s : State PadHistory) → StandsFor old s → (next : State PadHistory) × machine.Turn history_wiring s all next × StandsFor new next)
    → more ≡ edges_until limit all → clock_of old < limit →
    (start : State PadHistory) (edges : List Edge) → RunsTo limit start edges old → RunsTo limit start (edges ++ more) new
goes_on old new limit all more turn e h start edges (last, part, stands) =
    let t = turn last stands in
    let before : last.clock < limit = subst (λ n. n < limit) (sym stands.clock) h in
    (t.0, subst (λ es. IsRunPart limit start (edges ++ es) t.0) (sym e) (part_more limit start last t.0 edges all part before t.1), t.2)

-- more turns without edges
pub goes_on_quietly : (old new : Console) (limit : ℕ) →
    ((s : State PadHistory) → StandsFor old s → (next : State PadHistory) × machine.Turn history_wiring s [] next × StandsFor new next)
    → clock_of old < limit →
    (start : State PadHistory) (edges : List Edge) → RunsTo limit start edges old → RunsTo limit start edges new
goes_on_quietly old new limit turn h start edges run = subst (λ es. RunsTo limit start es new) (append-nil edges)
    (goes_on old new limit [] [] turn refl h start edges run)

pub ends : (old : Console) (limit : ℕ) → limit ≤ clock_of old → (start : State PadHistory) (edges : List Edge) → RunsTo limit start edges
    old → RunIsOver limit start edges old
ends old limit h start edges (last, part, stands) = (
  last,
  record { part = part; over = subst (λ n. limit ≤ n) (sym stands.clock) h },
  stands,
)

pub stops : (old new : Console) (limit : ℕ) (why : Why) → state_of new ≡ state_of old
    → ((s : State PadHistory) → StandsFor old s → Halts s why) → clock_of old < limit →
    (start : State PadHistory) (edges : List Edge) → RunsTo limit start edges old → (last : State PadHistory) × IsStoppedRun limit start
    edges last × Halts last why × StandsFor new last
stops old new limit why same halts h start edges (last, part, stands) =
    let halt = halts last stands in (
      last,
      record { part = part; in_run = subst (λ n. n < limit) (sym stands.clock) h; stopped = halt.no_turn },
      halt,
      subst (λ (t : State Pads). StateStandsFor t last) (sym same) stands,
    )
