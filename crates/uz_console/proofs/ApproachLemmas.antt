-- A run up to the first state that meets an entry condition, turn by turn.
use Rattle.std.proofs.Common.{◌≡◌, ℕ, zero, suc, ◌<◌, ◌≤◌, nat_le, List, [], ◌++◌, append-nil, refl, sym, ◌∙◌, ap, subst, inl, inr, ◌⊎◌}
use Rattle.std.proofs.Common.{arith}
use Rattle.std.proofs.lemmas.Bool.{cases_lt}
use Rattle.std.proofs.lemmas.List.Elements.{filter-append}
use Rattle.uz_core.specs.declared.machine.Edge.{Edge}
use Rattle.uz_core.specs.PadLine.{PadHistory}
use Rattle.uz_core.specs.Space.{history_wiring}
use Rattle.uz_core.specs.Turn.{State}
use Rattle.uz_core.specs.Turn as machine
use Rattle.uz_core.specs.Run.{Run, TurnBefore, HasNoTurn, edges_until, IsClockRun, IsStoppedRun}
use Rattle.uz_core.specs.declared.step.Why.{Why}
use Rattle.uz_pads.specs.declared.pads.Pads.{Pads}
use Rattle.uz_schedule.specs.declared.certificate.Cert.{Cert}
use Rattle.uz_console.specs.declared.console.Console.{Console}
use Rattle.uz_console.specs.Consoles.{StateStandsFor, StandsFor, state_of, clock_of}
use Rattle.uz_console.specs.Turns.{Halts}
use Rattle.uz_console.specs.Entry.{NotEntered}
use Rattle.uz_console.specs.Entering.{IsFirstEntry}
use Rattle.uz_console.specs.Approaches.{EntersFirst, NeverEnters, NotEnteredBefore, RunsUnentered}
use Rattle.uz_console.proofs.RunLaws.{turn_is_unique}
use Rattle.uz_console.proofs.RunLemmas.{run_more}

-- so many turns lead to one state
same_state : (limit n : ℕ) (s l1 l2 : State PadHistory) (e1 e2 : List Edge) → Run (TurnBefore limit) n s e1 l1 → Run (TurnBefore limit) n s
    e2 l2 → l1 ≡ l2
same_state limit zero s l1 l2 e1 e2 a b = a.1 ∙ sym b.1
same_state limit (suc n) s l1 l2 e1 e2 (first, mid, rest, (before, turn), run, cut) (first', mid', rest', (before', turn'), run', cut') =
    let one = turn_is_unique s mid mid' first first' turn turn' in
    same_state limit n mid l1 l2 rest rest' run (subst (λ x. Run (TurnBefore limit) n x rest' l2) (sym one.1) run')

-- a state of the run comes before one past its end
before_over : (limit n m : ℕ) (start last s : State PadHistory) (e1 e2 : List Edge) → Run (TurnBefore limit) n start e1 last
    → limit ≤ last.clock → Run (TurnBefore limit) m start e2 s → s.clock < limit → m < n
before_over limit zero zero start last s e1 e2 a over b h =
    let past : limit ≤ start.clock = subst (λ (x : State PadHistory). limit ≤ x.clock) a.1 over in
    let there : start.clock < limit = subst (λ (x : State PadHistory). x.clock < limit) b.1 h in
    absurd (omega arith)
before_over limit zero (suc m) start last s e1 e2 a over (first, mid, rest, (before, turn), run, cut) h =
    let past : limit ≤ start.clock = subst (λ (x : State PadHistory). limit ≤ x.clock) a.1 over in
    absurd (omega arith)
before_over limit (suc n) zero start last s e1 e2 a over b h = omega arith
before_over limit (suc n) (suc m) start last s e1 e2 (first, mid, rest, (before, turn), run, cut) over
    (first', mid', rest', (before', turn'), run', cut') h =
    let one = turn_is_unique start mid mid' first first' turn turn' in
    let less = before_over limit n m mid last s rest rest' run over (subst (λ x. Run (TurnBefore limit) m x rest' s) (sym one.1) run') h in
    omega arith

-- and no later than one that has no turn
before_stop : (limit n m : ℕ) (start last s : State PadHistory) (e1 e2 : List Edge) → Run (TurnBefore limit) n start e1 last
    → HasNoTurn last → Run (TurnBefore limit) m start e2 s → m < suc n
before_stop limit n zero start last s e1 e2 a none b = omega arith
before_stop limit zero (suc m) start last s e1 e2 a none (first, mid, rest, (before, turn), run, cut) =
    absurd (subst HasNoTurn a.1 none first mid turn)
before_stop limit (suc n) (suc m) start last s e1 e2 (first, mid, rest, (before, turn), run, cut) none
    (first', mid', rest', (before', turn'), run', cut') =
    let one = turn_is_unique start mid mid' first first' turn turn' in
    let less = before_stop limit n m mid last s rest rest' run none (subst (λ x. Run (TurnBefore limit) m x rest' s) (sym one.1) run') in
    omega arith

-- one more state has not entered
pub none_before_more : (cert : Cert) (limit n : ℕ) (start last : State PadHistory) (edges : List Edge)
    → Run (TurnBefore limit) n start edges last → NotEntered cert last → NotEnteredBefore cert limit start n → NotEnteredBefore cert limit
    start (suc n)
none_before_more cert limit n start last edges run not before m e s h to = either m e s h to (cases_lt m n)
  where
    either : (m : ℕ) (e : List Edge) (s : State PadHistory) → m < suc n → Run (TurnBefore limit) m start e s → (m < n) ⊎ (n ≤ m)
        → NotEntered cert s
    either m e s h to (inl less) = before m e s less to
    either m e s h to (inr same) =
        let here : m ≡ n = omega arith in
        subst (NotEntered cert) (same_state limit n start last s edges e run (subst (λ k. Run (TurnBefore limit) k start e s) here to)) not

pub unentered_more : (cert : Cert) (old new : Console) (limit : ℕ) (all more : List Edge) →
    ((s : State PadHistory) → StandsFor old s → (next : State PadHistory) × machine.Turn history_wiring s all next × StandsFor new next)
    → more ≡ edges_until limit all → clock_of old < limit →
    ((s : State PadHistory) → StandsFor old s → NotEntered cert s) →
    (start : State PadHistory) (edges : List Edge) → RunsUnentered cert limit start edges old → RunsUnentered cert limit start
    (edges ++ more) new
unentered_more cert old new limit all more turn cut h not start edges run =
    let t = turn run.last run.stands in
    let before : (run.last).clock < limit = subst (λ n. n < limit) (sym (run.stands).clock) h in
    record {
      last = t.0;
      part = record {
        turns = suc (run.part).turns;
        all_edges = (run.part).all_edges ++ all;
        run = run_more limit (run.part).turns start run.last t.0 (run.part).all_edges all (run.part).run (before, t.1);
        in_time = ap (λ es. edges ++ es) cut ∙ (ap (λ es. es ++ edges_until limit all) (run.part).in_time
            ∙ sym (filter-append (λ (edge : Edge). nat_le edge.clock limit) (run.part).all_edges all));
      };
      stands = t.2;
      none_before = none_before_more cert limit (run.part).turns start run.last (run.part).all_edges (run.part).run
          (not run.last run.stands) run.none_before;
    }

pub unentered_quietly : (cert : Cert) (old new : Console) (limit : ℕ) →
    ((s : State PadHistory) → StandsFor old s → (next : State PadHistory) × machine.Turn history_wiring s [] next × StandsFor new next)
    → clock_of old < limit →
    ((s : State PadHistory) → StandsFor old s → NotEntered cert s) →
    (start : State PadHistory) (edges : List Edge) → RunsUnentered cert limit start edges old → RunsUnentered cert limit start edges new
unentered_quietly cert old new limit turn h not start edges run = subst (λ es. RunsUnentered cert limit start es new) (append-nil edges)
    (unentered_more cert old new limit [] [] turn refl h not start edges run)

pub enters : (cert : Cert) (console : Console) (limit p : ℕ) → clock_of console < limit → ((s : State PadHistory) → StandsFor console s
    → IsFirstEntry cert s p) →
    (start : State PadHistory) (edges : List Edge) → RunsUnentered cert limit start edges console → EntersFirst cert limit start
    (clock_of console) p
enters cert console limit p h first start edges run = record {
  turns = (run.part).turns;
  edges = (run.part).all_edges;
  state = run.last;
  run = (run.part).run;
  in_run = subst (λ n. n < limit) (sym (run.stands).clock) h;
  clock_is = (run.stands).clock;
  meets = first run.last run.stands;
  none_before = run.none_before;
}

pub never_over : (cert : Cert) (console : Console) (limit : ℕ) → limit ≤ clock_of console →
    (start : State PadHistory) (edges : List Edge) → RunsUnentered cert limit start edges console → (last : State PadHistory)
    × IsClockRun limit start edges last × StandsFor console last × NeverEnters cert limit start × RunsUnentered cert limit start edges
    console
never_over cert console limit h start edges run =
    let over : limit ≤ (run.last).clock = subst (λ n. limit ≤ n) (sym (run.stands).clock) h in (
      run.last,
      record { part = run.part; over = over },
      run.stands,
      λ m e s to in_run. run.none_before m e s (before_over limit (run.part).turns m start run.last s (run.part).all_edges e (run.part).run
          over to in_run) to,
      run,
    )

pub never_stopped : (cert : Cert) (old new : Console) (limit : ℕ) (why : Why) → state_of new ≡ state_of old
    → ((s : State PadHistory) → StandsFor old s → Halts s why) → clock_of old < limit →
    ((s : State PadHistory) → StandsFor old s → NotEntered cert s) →
    (start : State PadHistory) (edges : List Edge) → RunsUnentered cert limit start edges old → (last : State PadHistory)
    × IsStoppedRun limit start edges last × Halts last why × StandsFor new last × NeverEnters cert limit start × RunsUnentered cert
    limit start edges new
never_stopped cert old new limit why same halts h not start edges run =
    let halt = halts run.last run.stands in
    let none = none_before_more cert limit (run.part).turns start run.last (run.part).all_edges (run.part).run (not run.last run.stands)
    run.none_before in (
      run.last,
      record { part = run.part; in_run = subst (λ n. n < limit) (sym (run.stands).clock) h; stopped = halt.no_turn },
      halt,
      subst (λ (t : State Pads). StateStandsFor t run.last) (sym same) run.stands,
      λ m e s to in_run. none m e s (before_stop limit (run.part).turns m start run.last s (run.part).all_edges e (run.part).run
          halt.no_turn to) to,
      record {
        last = run.last;
        part = run.part;
        stands = subst (λ (t : State Pads). StateStandsFor t run.last) (sym same) run.stands;
        none_before = run.none_before;
      },
    )
