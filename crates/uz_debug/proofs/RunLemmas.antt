-- Turn by turn from one turn number to another.
use Rattle.std.proofs.Common.{◌≡◌, ℕ, zero, suc, ◌+◌, ◌<◌, ◌≤◌, Bool, true, false, List, [], ◌++◌, append_assoc, append-nil, inl, inr, refl}
use Rattle.std.proofs.Common.{sym, ◌∙◌, ap, subst, arith}
use mathlib.Core.Bool.{true≢false}
use Rattle.std.proofs.lemmas.Bool.{cases_lt}
use Rattle.std.specs.Prelude.{Option, Some, None, is_some, MatchBool}
use Rattle.std.specs.Ordering.{nat_cmp}
use Rattle.std.specs.FinSet as set
use Rattle.uz_core.specs.declared.machine.Edge.{Edge}
use Rattle.uz_core.specs.PadLine.{PadHistory}
use Rattle.uz_core.specs.Space.{history_wiring}
use Rattle.uz_core.specs.Turn.{State}
use Rattle.uz_core.specs.Turn as machine
use Rattle.uz_core.specs.Run.{MachineTurn, Run}
use Rattle.uz_pads.specs.declared.pads.Pads.{Pads}
use Rattle.uz_core.specs.declared.step.Why.{Why}
use Rattle.uz_console.specs.declared.console.Console.{Console}
use Rattle.uz_console.specs.Consoles.{StateStandsFor, StandsFor, clock_of}
use Rattle.uz_console.specs.Turns.{IsPassed, PassedTakesTime}
use Rattle.uz_console.proofs.RunLaws.{turn_is_unique}
use Rattle.uz_debug.specs.Sessions.{IsAfter, IsBreak, IsStuck}
use Rattle.uz_debug.specs.Timelines.{IsAt, Passed, Broken}

-- Runs of so many turns

-- one more turn
run_more : (n : ℕ) (start last next : State PadHistory) (edges more : List Edge) → Run MachineTurn n start edges last
    → machine.Turn history_wiring last more next → Run MachineTurn (suc n) start (edges ++ more) next
run_more zero start last next edges more run turn = (
  more,
  next,
  [],
  subst (λ s. machine.Turn history_wiring s more next) run.1 turn,
  (refl, refl),
  ap (λ es. es ++ more) run.0
      ∙ sym (append-nil more),
)
run_more (suc n) start last next edges more (first, mid, rest, turn, run, cut) t =
    (first, mid, rest ++ more, turn, run_more n mid last next rest more run t, ap (λ es. es ++ more) cut ∙ append_assoc first rest more)

-- there is one state after so many turns
same_end : (n : ℕ) (start a b : State PadHistory) (e f : List Edge) → Run MachineTurn n start e a → Run MachineTurn n start f b → a ≡ b
same_end zero start a b e f r q = r.1 ∙ sym q.1
same_end (suc n) start a b e f (first, mid, rest, turn, run, cut) (first', mid', rest', turn', run', cut') =
    let one = turn_is_unique start mid mid' first first' turn turn' in
    same_end n mid a b rest rest' run (subst (λ s. Run MachineTurn n s rest' b) (sym one.1) run')

pub one_state : (start : State PadHistory) (n : ℕ) (a b : State PadHistory) → IsAfter start n a → IsAfter start n b → a ≡ b
one_state start n a b r q = same_end n start a b r.0 q.0 r.1 q.1

next_state : (start : State PadHistory) (n : ℕ) (s next : State PadHistory) (edges : List Edge) → IsAfter start n s
    → machine.Turn history_wiring s edges next → IsAfter start (n + 1) next
next_state start n s next edges r turn = let more : suc n ≡ n + 1 = omega arith in subst (λ k. IsAfter start k next) more
    (r.0 ++ edges, run_more n start s next r.0 edges r.1 turn)

-- a run of more turns goes on from the state after fewer
later_turn : (k n : ℕ) (start last : State PadHistory) (edges : List Edge) → k < n → Run MachineTurn n start edges last →
    (s : State PadHistory) × IsAfter start k s × (e : List Edge) × (next : State PadHistory) × machine.Turn history_wiring s e next
later_turn k zero start last edges h run = absurd (omega arith)
later_turn zero (suc n) start last edges h (first, mid, rest, turn, run, cut) = (start, ([], (refl, refl)), first, mid, turn)
later_turn (suc k) (suc n) start last edges h (first, mid, rest, turn, run, cut) =
    let t = later_turn k n mid last rest (omega arith) run in
    (t.0, (first ++ t.1.0, (first, mid, t.1.0, turn, t.1.1, refl)), t.2, t.3, t.4)

-- a turn before one that has a state isn't stuck
pub goes_before : (start : State PadHistory) (k n : ℕ) (last : State PadHistory) → k < n → IsAfter start n last → IsStuck start k → ⊥
goes_before start k n last h run (s, after, stuck) =
    let t = later_turn k n start last run.0 h run.1 in
    stuck t.2 t.3 (subst (λ x. machine.Turn history_wiring x t.2 t.3) (one_state start k t.0 s t.1 after) t.4)

-- a turn up to one that has a state has one
pub has_state : (start : State PadHistory) (k n : ℕ) (last : State PadHistory) → k ≤ n → IsAfter start n last → (s : State PadHistory)
    × IsAfter start k s
has_state start k n last h run = elim (cases_lt k n) [
  | inl below ↦ let t = later_turn k n start last run.0 below run.1 in (t.0, t.1)
  | inr past ↦ let same : n ≡ k = omega arith in (last, subst (λ m. IsAfter start m last) same run)
]

-- The console's turns

pub goes_one : (start : State PadHistory) (n : ℕ) (old new : Console) → IsAt start n old → IsPassed old new None → IsAt start (n + 1) new
goes_one start n old new (s, after, stands) turn = let t = turn s stands in (t.1, next_state start n s t.1 t.0 after t.2, t.3)

pub not_stuck : (start : State PadHistory) (n : ℕ) (old new : Console) → IsAt start n old → IsPassed old new None → IsStuck start n → ⊥
not_stuck start n old new (s, after, stands) turn (s', after', stuck) =
    let t = turn s stands in stuck t.0 t.1 (subst (λ x. machine.Turn history_wiring x t.0 t.1) (one_state start n s s' after after') t.2)

pub stuck_here : (start : State PadHistory) (n : ℕ) (old new : Console) (why : Why) → IsAt start n old → IsPassed old new (Some why)
    → IsStuck start n
stuck_here start n old new why (s, after, stands) turn = (s, after, (turn.1 s stands).no_turn)

pub stays_here : (start : State PadHistory) (n : ℕ) (old new : Console) (why : Why) → IsAt start n old → IsPassed old new (Some why)
    → IsAt start n new
stays_here start n old new why (s, after, stands) turn = (s, after, subst (λ (t : State Pads). StateStandsFor t s) (sym turn.0) stands)

-- Breakpoints

pub heeded : (start : State PadHistory) (stops : set.FinSet nat_cmp) (n pc : ℕ) (b : Bool) (console : Console)
    → ((s : State PadHistory) → StandsFor console s → pc ≡ s.core.pc) → b ≡ set.contains stops pc →
    IsAt start n console → MatchBool b (IsBreak start stops n) (IsBreak start stops n → ⊥)
heeded start stops n pc true console at e (s, after, stands) = (s, after, ap (set.contains stops) (sym (at s stands)) ∙ sym e)
heeded start stops n pc false console at e (s, after, stands) = λ (s', after', there).
    let same : s' ≡ s = one_state start n s' s after' after in
    true≢false (sym there ∙ (ap (λ (x : State PadHistory). set.contains stops x.core.pc) same ∙ (ap (set.contains stops) (sym (at s stands))
    ∙ sym e)))

pub none_heeded : (start : State PadHistory) (n : ℕ) → IsBreak start set.empty n → ⊥
none_heeded start n (s, after, there) = true≢false (sym there ∙ set.contains-empty nat_cmp s.core.pc)

-- The run so far

pub passed_one : (start : State PadHistory) (stops : set.FinSet nat_cmp) (from at : ℕ) → Passed start stops from at → (IsStuck start at → ⊥)
    → (IsBreak start stops (at + 1) → ⊥) → Passed start stops from (at + 1)
passed_one start stops from at h going unbroken = record {
  onward = omega (arith, h.onward);
  going = λ k after below. elim (cases_lt k at) [
    | inl l ↦ h.going k after l
    | inr g ↦ let same : at ≡ k = omega arith in
        subst (λ n. IsStuck start n → ⊥) same going
  ];
  unbroken = λ k after below. elim (cases_lt at k) [
    | inl l ↦ let same : at + 1 ≡ k = omega arith in subst (λ n. IsBreak start stops n → ⊥)
        same unbroken
    | inr g ↦ h.unbroken k after g
  ];
}

pub passed_on : (start : State PadHistory) (stops : set.FinSet nat_cmp) (from mid at : ℕ) → Passed start stops from mid → Passed start stops
    mid at → Passed start stops from at
passed_on start stops from mid at h g = record {
  onward = omega (arith, h.onward, g.onward);
  going = λ k after below. elim (cases_lt k mid) [ inl l ↦ h.going k after l | inr m ↦ g.going k m below ];
  unbroken = λ k after below. elim (cases_lt mid k) [ inl m ↦ g.unbroken k m below | inr l ↦ h.unbroken k after l ];
}

pub broken_on : (start : State PadHistory) (stops : set.FinSet nat_cmp) (from mid at : ℕ) → Passed start stops from mid → Broken start stops
    mid at → Broken start stops from at
broken_on start stops from mid at h g = record {
  before = g.before;
  last = g.last;
  passed = passed_on start stops from mid g.before h
      g.passed;
  going = g.going;
  here = g.here;
}

-- What a console's turn answers

pub took : (old new : Console) (answer : Option Why) → is_some answer ≡ false → IsPassed old new answer → IsPassed old new None
took old new None e h = h
took old new (Some why) e h = absurd (true≢false e)

pub took_time : (old new : Console) (answer : Option Why) → is_some answer ≡ false → PassedTakesTime old new answer
    → clock_of new ≤ clock_of old + 5
took_time old new None e h = h.1
took_time old new (Some why) e h = absurd (true≢false e)

-- a run that is stuck
pub run_stuck : (start : State PadHistory) (stops : set.FinSet nat_cmp) (from goal turn : ℕ) (old new : Console) (answer : Option Why)
    → is_some answer ≡ true → IsPassed old new answer → turn < goal →
    IsAt start turn old → Passed start stops from turn → IsAt start turn new × ((turn < goal) × Passed start stops from turn × IsStuck start
    turn)
run_stuck start stops from goal turn old new None e h below at passed = absurd (true≢false (sym e))
run_stuck start stops from goal turn old new (Some why) e h below at passed =
    (stays_here start turn old new why at h, (below, passed, stuck_here start turn old new why at h))

-- a run with one turn more, at a breakpoint or not
pub run_breaks : (start : State PadHistory) (stops : set.FinSet nat_cmp) (from goal turn : ℕ) (old new : Console) → IsPassed old new None
    → turn < goal →
    IsAt start turn old → Passed start stops from turn → (b : Bool) → b ≡ true
    → ((at : ℕ) → IsAt start at new → MatchBool b (IsBreak start stops at) (IsBreak start stops at → ⊥)) →
    IsAt start (turn + 1) new × ((turn + 1 ≤ goal) × Broken start stops from (turn + 1))
run_breaks start stops from goal turn old new h below at passed true e here =
    let now = goes_one start turn old new at h in (
      now,
      (
        omega (arith, below),
        record {
          before = turn;
          last = refl;
          passed = passed;
          going = not_stuck start turn old new at h;
          here = here (turn + 1) now;
        },
      ),
    )
run_breaks start stops from goal turn old new h below at passed false e here = absurd (true≢false (sym e))

pub run_goes : (start : State PadHistory) (stops : set.FinSet nat_cmp) (from turn : ℕ) (old new : Console) → IsPassed old new None →
    IsAt start turn old → Passed start stops from turn → (b : Bool) → b ≡ false
    → ((at : ℕ) → IsAt start at new → MatchBool b (IsBreak start stops at) (IsBreak start stops at → ⊥)) →
    IsAt start (turn + 1) new × Passed start stops from (turn + 1)
run_goes start stops from turn old new h at passed true e here = absurd (true≢false e)
run_goes start stops from turn old new h at passed false e here =
    let now = goes_one start turn old new at h in (
      now,
      passed_one start stops from turn passed (not_stuck start turn old new at h)
          (here (turn + 1) now),
    )
