-- A state has at most one turn, and at most one run of so many clocks.
use Rattle.std.proofs.Common.{◌≡◌, ℕ, zero, suc, ◌<◌, ◌≤◌, true, false, List, ◌++◌, ◌⊎◌, sym, ◌∙◌, ap, subst, inl, inr, arith}
use Rattle.avr_decode.proofs.Unique.{unique}
use Rattle.uz_core.specs.declared.machine.Edge.{Edge}
use Rattle.uz_core.specs.PadLine.{PadHistory}
use Rattle.uz_core.specs.Space.{history_wiring}
use Rattle.uz_core.specs.Turn.{State, is_entry, after_instruction, instruction_edges, Turn}
use Rattle.uz_core.specs.Run.{Run, TurnBefore, HasNoTurn, edges_until, IsRunPart, IsClockRun, IsStoppedRun}

pub turn_is_unique : (s n1 n2 : State PadHistory) (e1 e2 : List Edge) → Turn history_wiring s e1 n1 → Turn history_wiring s e2 n2
    → (e1 ≡ e2) × (n1 ≡ n2)
turn_is_unique s n1 n2 e1 e2 (inl a) (inl b) = (a.emits ∙ sym b.emits, a.goes_to ∙ sym b.goes_to)
turn_is_unique s n1 n2 e1 e2 (inl a) (inr b) = let yes : is_entry s ≡ true = a.enters in let no : is_entry s ≡ false = b.enters in absurd cc
turn_is_unique s n1 n2 e1 e2 (inr a) (inl b) = let yes : is_entry s ≡ true = b.enters in let no : is_entry s ≡ false = a.enters in absurd cc
turn_is_unique s n1 n2 e1 e2 (inr a) (inr b) =
    let same : a.row ≡ b.row = unique _ a.row b.row a.reads b.reads in (
      a.emits ∙ (ap (λ i. instruction_edges history_wiring i s) same ∙ sym b.emits),
      a.goes_to ∙ (ap (λ i. after_instruction history_wiring i s) same ∙ sym b.goes_to),
    )

-- the last state of a whole run
abbrev IsEnd : ℕ → State PadHistory → Type 0
IsEnd limit last = (limit ≤ last.clock) ⊎ HasNoTurn last

-- no turn before the limit goes on from the last state of a whole run
at_end : (limit : ℕ) (s next : State PadHistory) (edges : List Edge) → IsEnd limit s → s.clock < limit → Turn history_wiring s edges next
    → ⊥
at_end limit s next edges (inl over) before turn = omega arith
at_end limit s next edges (inr stopped) before turn = stopped edges next turn

same_runs : (limit n m : ℕ) (s l1 l2 : State PadHistory) (e1 e2 : List Edge) → Run (TurnBefore limit) n s e1 l1 → IsEnd limit l1
    → Run (TurnBefore limit) m s e2 l2 → IsEnd limit l2 → (e1 ≡ e2) × (l1 ≡ l2)
same_runs limit zero zero s l1 l2 e1 e2 a ea b eb = (a.0 ∙ sym b.0, a.1 ∙ sym b.1)
same_runs limit zero (suc m) s l1 l2 e1 e2 a ea (first, mid, rest, (before, turn), run, cut) eb =
    absurd (at_end limit s mid first (subst (IsEnd limit) a.1 ea) before turn)
same_runs limit (suc n) zero s l1 l2 e1 e2 (first, mid, rest, (before, turn), run, cut) ea b eb =
    absurd (at_end limit s mid first (subst (IsEnd limit) b.1 eb) before turn)
same_runs limit (suc n) (suc m) s l1 l2 e1 e2 (first, mid, rest, (before, turn), run, cut) ea (
  first',
  mid',
  rest',
  (before', turn'),
  run',
  cut',
) eb =
    let one = turn_is_unique s mid mid' first first' turn turn' in
    let more = same_runs limit n m mid l1 l2 rest rest' run ea (subst (λ x. Run (TurnBefore limit) m x rest' l2) (sym one.1) run') eb in
    (cut ∙ (ap (λ x. x ++ rest) one.0 ∙ (ap (λ x. first' ++ x) more.0 ∙ sym cut')), more.1)

parts_agree : (limit : ℕ) (s l1 l2 : State PadHistory) (e1 e2 : List Edge) → IsRunPart limit s e1 l1 → IsEnd limit l1 → IsRunPart limit s e2
    l2 → IsEnd limit l2 → (e1 ≡ e2) × (l1 ≡ l2)
parts_agree limit s l1 l2 e1 e2 a ea b eb =
    let same = same_runs limit a.turns b.turns s l1 l2 a.all_edges b.all_edges a.run ea b.run eb in
    (a.in_time ∙ (ap (edges_until limit) same.0 ∙ sym b.in_time), same.1)

pub one_run : (limit : ℕ) (s l1 l2 : State PadHistory) (e1 e2 : List Edge) → IsClockRun limit s e1 l1 → IsClockRun limit s e2 l2 → (e1 ≡ e2)
    × (l1 ≡ l2)
one_run limit s l1 l2 e1 e2 a b = parts_agree limit s l1 l2 e1 e2 a.part (inl a.over) b.part (inl b.over)

pub one_stopped_run : (limit : ℕ) (s l1 l2 : State PadHistory) (e1 e2 : List Edge) → IsStoppedRun limit s e1 l1 → IsStoppedRun limit s e2 l2
    → (e1 ≡ e2) × (l1 ≡ l2)
one_stopped_run limit s l1 l2 e1 e2 a b = parts_agree limit s l1 l2 e1 e2 a.part (inr a.stopped) b.part (inr b.stopped)

pub over_or_stopped : (limit : ℕ) (s l1 l2 : State PadHistory) (e1 e2 : List Edge) → IsClockRun limit s e1 l1 → IsStoppedRun limit s e2 l2
    → ⊥
over_or_stopped limit s l1 l2 e1 e2 a b =
    let same = parts_agree limit s l1 l2 e1 e2 a.part (inl a.over) b.part (inr b.stopped) in
    let over : limit ≤ l2.clock = subst (λ (l : State PadHistory). limit ≤ l.clock) same.1 a.over in
    omega (arith, b.in_run)
