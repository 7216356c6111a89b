-- The clocks of a turn's edges lie between the clocks of its states.
use Rattle.std.proofs.Common.{◌≡◌, ℕ, ◌+◌, ◌≤◌, nat_le, Bool, true, false, cond, List, [], ◌∷◌, ◌++◌, refl, sym, subst, inl, inr, arith}
use Rattle.std.specs.Prelude.{filter}
use Rattle.uz_core.specs.declared.machine.Edge.{Edge}
use Rattle.uz_core.specs.declared.machine.EdgeKind.{EdgeKind}
use Rattle.uz_core.specs.PadLine.{PadHistory}
use Rattle.uz_core.specs.Space.{history_wiring}
use Rattle.uz_core.specs.Turn.{State, Turn, edges_at, entry_edges, instruction_edges}
use Rattle.uz_core.specs.Run.{edges_until}
use Rattle.uz_console.specs.declared.console.Console.{Console}
use Rattle.uz_console.specs.Consoles.{StandsFor, clock_of}
use Rattle.uz_console.specs.Pages.{IsTimedPage}
use Rattle.uz_console.specs.Runs.{AreTimed, RunsTo}
use Rattle.uz_console.proofs.RunLemmas.{begins}

-- from an earlier clock
pub timed_earlier : (from earlier to : ℕ) (edges : List Edge) → earlier ≤ from → AreTimed from to edges → AreTimed earlier to edges
timed_earlier from earlier to [] h t = omega arith
timed_earlier from earlier to (e ∷ edges) h t = (let first = t.0 in omega arith, t.1)

-- to a later clock
pub timed_later : (from to later : ℕ) (edges : List Edge) → to ≤ later → AreTimed from to edges → AreTimed from later edges
timed_later from to later [] h t = omega arith
timed_later from to later (e ∷ edges) h t = (t.0, timed_later e.clock to later edges h t.1)

-- and then those of a later time
pub timed_append : (from mid to : ℕ) (edges more : List Edge) → AreTimed from mid edges → AreTimed mid to more → AreTimed from to (edges ++ more)
timed_append from mid to [] more h g = timed_earlier mid from to more h g
timed_append from mid to (e ∷ edges) more h g = (h.0, timed_append e.clock mid to edges more h.1 g)

at_one_clock : (from clock to : ℕ) (kinds : List EdgeKind) → from ≤ clock → clock ≤ to → AreTimed from to (edges_at clock kinds)
at_one_clock from clock to [] h g = omega arith
at_one_clock from clock to (kind ∷ kinds) h g = (h, at_one_clock clock clock to kinds (omega arith) g)

-- some of the edges
timed_part : (p : Edge → Bool) (from to : ℕ) (edges : List Edge) → AreTimed from to edges → AreTimed from to (filter p edges)
timed_part p from to [] t = t
timed_part p from to (e ∷ edges) t = chosen (p e) (timed_part p e.clock to edges t.1)
  where
    chosen : (b : Bool) → AreTimed e.clock to (filter p edges) → AreTimed from to (cond b (e ∷ filter p edges) (filter p edges))
    chosen true h = (t.0, h)
    chosen false h = timed_earlier e.clock from to (filter p edges) t.0 h

pub turn_timed : (s next : State PadHistory) (edges : List Edge) → Turn history_wiring s edges next → AreTimed s.clock next.clock edges
turn_timed s next edges (inl enter) =
    subst (λ x. AreTimed s.clock next.clock x) (sym enter.emits)
    (subst (λ (n : State PadHistory). AreTimed s.clock n.clock (entry_edges history_wiring s)) (sym enter.goes_to)
    (omega arith, at_one_clock s.clock (s.clock + s.response) (s.clock + s.response) _ (omega arith) (omega arith)))
turn_timed s next edges (inr run) =
    subst (λ x. AreTimed s.clock next.clock x) (sym run.emits)
    (subst (λ (n : State PadHistory). AreTimed s.clock n.clock (instruction_edges history_wiring run.row s)) (sym run.goes_to)
    (at_one_clock s.clock _ _ _ (omega arith) (omega arith)))

-- where turns without edges come before it
pub timed_on : (old mid new : Console) (limit : ℕ) (all more : List Edge) → ((start : State PadHistory) (edges : List Edge)
    → RunsTo limit start edges old → RunsTo limit start edges mid) → clock_of old ≤ clock_of mid →
    ((s : State PadHistory) → StandsFor mid s → (next : State PadHistory) × Turn history_wiring s all next × StandsFor new next)
    → more ≡ edges_until limit all →
    (s : State PadHistory) → StandsFor old s → AreTimed (clock_of old) (clock_of new) more
timed_on old mid new limit all more run on turn cut s stands =
    let there = run s [] (begins old s limit stands) in
    let t = turn there.0 there.2 in
    let timed = turn_timed there.0 t.0 all t.1 in
    let from : clock_of mid ≡ (there.0).clock = sym (there.2).clock in
    subst (λ x. AreTimed (clock_of old) (clock_of new) x) (sym cut)
    (timed_part (λ (edge : Edge). nat_le edge.clock limit) _ _ all
    (timed_earlier (clock_of mid) (clock_of old) (clock_of new) all on
    (subst (λ n. AreTimed n (clock_of new) all) (sym from) (subst (λ n. AreTimed (there.0).clock n all) (t.2).clock timed))))

-- the edges of a page, and of one more turn, where turns without edges come before it
pub page_timed_on : (limit : ℕ) (first here mid new : Console) (page all more : List Edge) → ((start : State PadHistory) (edges : List Edge)
    → RunsTo limit start edges first → RunsTo limit start (edges ++ page) here) → ((start : State PadHistory) (edges : List Edge)
    → RunsTo limit start edges here → RunsTo limit start edges mid) → clock_of here ≤ clock_of mid →
    ((s : State PadHistory) → StandsFor mid s → (next : State PadHistory) × Turn history_wiring s all next × StandsFor new next)
    → more ≡ page ++ edges_until limit all → IsTimedPage first here page → IsTimedPage first new more
page_timed_on limit first here mid new page all more run quiet on turn added timed s stands =
    let there = run s [] (begins first s limit stands) in
    subst (AreTimed (clock_of first) (clock_of new)) (sym added)
    (timed_append (clock_of first) (clock_of here) (clock_of new) page (edges_until limit all) (timed s stands)
    (timed_on here mid new limit all (edges_until limit all) quiet on turn refl there.0 there.2))
