-- What a debugger does is what its session does.
use Rattle.std.proofs.Common.{◌≡◌, ℕ, ◌+◌, ◌<◌, ◌≤◌, nat_le, Bool, true, false, List, [], ◌∷◌, ◌++◌, ◌⊎◌, inl, inr, refl, sym, ◌∙◌, ap}
use Rattle.std.proofs.Common.{subst, arith}
use mathlib.Core.Bool.{true≢false}
use Rattle.std.proofs.lemmas.Bool.{cases_lt}
use Rattle.std.proofs.lemmas.Bool.Decides.{nat_tests, eqb_tells}
use Rattle.std.specs.Prelude.{Some, None, MatchBool}
use Rattle.std.specs.Ordering.{nat_cmp}
use Rattle.std.specs.FinSet as set
use Rattle.std.specs.FinMap as map
use Rattle.uz_hex.proofs.CellsLemmas.{get-insert_same, get-insert_other}
use Rattle.uz_core.specs.PadLine.{PadHistory}
use Rattle.uz_core.specs.Turn.{State}
use Rattle.uz_core.specs.Run.{HasNoTurn}
use Rattle.uz_debug.specs.declared.command.Command.{Command}
use Rattle.uz_debug.specs.declared.command.Reply.{Reply}
use Rattle.uz_debug.specs.declared.debugger.Debugger.{Debugger}
use Rattle.uz_debug.specs.declared.timeline.Timeline.{Timeline}
use Rattle.uz_debug.specs.declared.run.Halt.{Halt}
use Rattle.uz_debug.specs.declared.run.Halt.TheVariants as halt
use Rattle.uz_debug.specs.Checkpoints.{IsTimeline, HasState, turn_of}
use Rattle.uz_debug.specs.Timelines.{IsHalt, Passed, Broken}
use Rattle.uz_debug.specs.Sessions.{Session, session_at_reset, last_turn, IsAfter, IsStuck, IsArrived, IsEnd, TellsEnd, Acts, ActsInTurn}
use Rattle.uz_debug.specs.Debuggers.{Debugs, DoesAct, TellsHalt, session_of}
use Rattle.uz_debug.proofs.RunLemmas.{one_state}

pub match_true : {P : Type 0} (Q : Type 0) (b : Bool) → b ≡ true → P → MatchBool b P Q
match_true Q true e p = p
match_true Q false e p = absurd (true≢false (sym e))

pub in_limit : (n : ℕ) → n ≤ 100000000 → nat_le n last_turn ≡ true
in_limit n h = grind (arith, nat_tests)

pub not_far : (count turn : ℕ) → count ≤ turn → nat_le count turn ≡ true
not_far count turn h = grind (arith, nat_tests)

-- Where a run ended

-- no turn before it is an end
none_before : (start : State PadHistory) (stops : set.FinSet nat_cmp) (from count at : ℕ) → Passed start stops from at → at ≤ from + count
    → (k : ℕ) → from ≤ k → k < at → IsArrived start stops from count k ⊎ IsStuck start k → ⊥
none_before start stops from count at passed within k after below (inl (inl e)) = omega arith
none_before start stops from count at passed within k after below (inl (inr b)) = passed.unbroken k b.0 (omega arith) b.1
none_before start stops from count at passed within k after below (inr stuck) = passed.going k after below stuck

broken_before : (start : State PadHistory) (stops : set.FinSet nat_cmp) (from count at : ℕ) → Broken start stops from at → at ≤ from + count
    → (k : ℕ) → from ≤ k → k < at → IsArrived start stops from count k ⊎ IsStuck start k → ⊥
broken_before start stops from count at broken within k after below (inl (inl e)) = omega arith
broken_before start stops from count at broken within k after below (inl (inr b)) = broken.passed.unbroken k b.0
    (omega (arith, broken.last)) b.1
broken_before start stops from count at broken within k after below (inr stuck) = elim (cases_lt k broken.before) [
  | inl l ↦ broken.passed.going k after l stuck
  | inr g ↦ let same : k ≡ broken.before = omega (arith, broken.last) in broken.going (subst (IsStuck start) same stuck)
]

pub ends_run : (start : State PadHistory) (stops : set.FinSet nat_cmp) (from count at : ℕ) (h : Halt) → IsHalt start stops from
    (from + count) at h → IsEnd start stops from count at
ends_run start stops from count at halt.Goal (e, passed) =
    record { onward = passed.onward; ends = inl (inl e); first = none_before start stops from count at passed (omega arith) }
ends_run start stops from count at halt.Breakpoint (within, broken) =
    let onward : from ≤ at = omega (arith, broken.last, broken.passed.onward) in
    record {
      onward = onward;
      ends = inl (inr (omega (arith, broken.last, broken.passed.onward), broken.here));
      first = broken_before start stops from count at broken within;
    }
ends_run start stops from count at halt.Stuck (below, passed, stuck) =
    record { onward = passed.onward; ends = inr stuck; first = none_before start stops from count at passed (omega arith) }

pub tells_run : (start : State PadHistory) (stops : set.FinSet nat_cmp) (from count at : ℕ) (h : Halt) (answer : Reply) → IsHalt start stops
    from (from + count) at h → TellsHalt start at h answer → TellsEnd start stops from count at answer
tells_run start stops from count at halt.Goal answer (e, passed) tells = inl (inl e, tells)
tells_run start stops from count at halt.Breakpoint answer (within, broken) tells =
    inl (inr (omega (arith, broken.last, broken.passed.onward), broken.here), tells)
tells_run start stops from count at halt.Stuck answer (below, passed, stuck) tells = inr (not_there, tells stuck)
  where
    not_there : IsArrived start stops from count at → ⊥
    not_there (inl e) = omega arith
    not_there (inr b) = passed.unbroken at b.0 (omega arith) b.1

-- the console where no turn goes on
pub no_turn_there : (start : State PadHistory) (n : ℕ) (s : State PadHistory) → IsAfter start n s → IsStuck start n → HasNoTurn s
no_turn_there start n s after stuck = subst HasNoTurn (one_state start n stuck.0 s stuck.1 after) stuck.2

-- Slots

pub slots_kept : (start : State PadHistory) (m : map.FinMap nat_cmp ℕ) (slot turn : ℕ)
    → ((i t : ℕ) → map.get m i ≡ Some t → HasState start t) → HasState start turn →
    (i t : ℕ) → map.get (map.insert m slot turn) i ≡ Some t → HasState start t
slots_kept start m slot turn old here i t e = elim (eqb_tells i slot) [
  | inl s ↦ let same : Some turn ≡ Some t = sym (get-insert_same m slot turn i s.1) ∙ e in let turns : turn ≡ t = cc in
      subst (HasState start) turns here
  | inr o ↦ old i t (sym (get-insert_other m slot turn i o.1) ∙ e)
]

pub none_kept : (start : State PadHistory) (m : map.FinMap nat_cmp ℕ) → m ≡ map.empty → (i t : ℕ) → map.get m i ≡ Some t → HasState start t
none_kept start m e i t some = let no : None ≡ Some t = sym (ap (λ x. map.get x i) e ∙ map.get-empty nat_cmp i) ∙ some in absurd cc

-- One command more

pub acts_push : (start : State PadHistory) (old mid new : Session) (done : List (Command × Reply)) (act : Command × Reply)
    → ActsInTurn start old done mid → Acts start mid act.0 act.1 new → ActsInTurn start old (done ++ act ∷ []) new
acts_push start old mid new [] act acts one = (new, subst (λ s. Acts start s act.0 act.1 new) acts one, refl)
acts_push start old mid new (first ∷ done) act (next, does, acts) one = (next, does, acts_push start next mid new done act acts one)

pub does : (old new : Debugger) (said made : Command) (answer : Reply) → said ≡ made → DoesAct old made answer new → DoesAct old said answer
    new
does old new said made answer e h = subst (λ x. DoesAct old x answer new) (sym e) h

pub session_is : (debugger : Debugger) → turn_of debugger.timeline ≡ 0 → debugger.breakpoints ≡ set.empty → debugger.slots ≡ map.empty
    → session_of debugger ≡ session_at_reset
session_is debugger turn breakpoints slots =
    ap (λ n. let s : Session = record { turn = n; breakpoints = debugger.breakpoints; slots = debugger.slots } in s) turn ∙
    (ap (λ b. let s : Session = record { turn = 0; breakpoints = b; slots = debugger.slots } in s) breakpoints ∙
    ap (λ m. let s : Session = record { turn = 0; breakpoints = set.empty; slots = m } in s) slots)

pub save_session : (old : Debugger) (timeline : Timeline) (slots : map.FinMap nat_cmp ℕ) (slot : ℕ) → turn_of timeline ≡ turn_of
    old.timeline → slots ≡ map.insert old.slots slot (turn_of old.timeline) →
    (let s : Session = record { turn = turn_of timeline; breakpoints = old.breakpoints; slots = slots } in s) ≡ record (session_of old)
    { slots = map.insert old.slots slot (turn_of old.timeline) }
save_session old timeline slots slot turn is =
    ap (λ n. let s : Session = record { turn = n; breakpoints = old.breakpoints; slots = slots } in s) turn ∙
    ap (λ m. let s : Session = record { turn = turn_of old.timeline; breakpoints = old.breakpoints; slots = m } in s) is

pub kept_slots : (start : State PadHistory) (m m' : map.FinMap nat_cmp ℕ) → m ≡ m' → ((i t : ℕ) → map.get m' i ≡ Some t → HasState start t)
    → (i t : ℕ) → map.get m i ≡ Some t → HasState start t
kept_slots start m m' e h i t some = h i t (sym (ap (λ x. map.get x i) e) ∙ some)

pub begins : (start : State PadHistory) (debugger : Debugger) → IsTimeline start debugger.timeline → turn_of debugger.timeline ≡ 0
    → debugger.breakpoints ≡ set.empty → debugger.slots ≡ map.empty → Debugs start [] debugger
begins start debugger h turn breakpoints slots = record {
  session = session_is debugger turn breakpoints slots;
  keeps = record { timeline = h; slots = none_kept start debugger.slots slots };
}
