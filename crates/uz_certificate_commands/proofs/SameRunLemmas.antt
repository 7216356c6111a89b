-- A start has one run, and one first state that enters.
use Rattle.std.proofs.Common.{◌≡◌, inl, inr, ℕ, zero, suc, ◌+◌, ◌<◌, ◌≤◌, List, ◌++◌, sym, ap, ◌∙◌, subst, arith}
use Rattle.std.proofs.lemmas.Bool.{cases_lt}
use Rattle.uz_hex.specs.Cells.{word_of}
use Rattle.uz_schedule.specs.declared.certificate.Cert.{Cert}
use Rattle.uz_schedule.specs.declared.lines.Schedule.{Schedule}
use Rattle.uz_schedule.specs.Schedule.{length_of, start_of as line_start}
use Rattle.uz_core.specs.declared.machine.Edge.{Edge}
use Rattle.uz_core.specs.PadLine.{PadHistory}
use Rattle.uz_core.specs.Turn.{State}
use Rattle.uz_core.specs.Run.{Run, TurnBefore}
use Rattle.uz_console.specs.Approaches.{EntersFirst, NeverEnters}
use Rattle.uz_console.specs.Entering.{IsFirstEntry}
use Rattle.uz_console.proofs.RunLaws.{one_run, one_stopped_run, over_or_stopped, turn_is_unique}
use Rattle.uz_player.specs.Counting.{IsInLine}
use Rattle.uz_files.specs.declared.status.Status.TheVariants.{Done, NotEntered, Stopped}
use Rattle.uz_files.specs.Answers.{Answer}
use Rattle.uz_certificate_commands.specs.Runs.{IsFramedRun, entered_line}
use Rattle.uz_certificate_commands.specs.Runs.{framed, not_entered_line, numbers_of}
use Rattle.uz_files.specs.StopLines.{stopped_at_line}

-- The first state that enters

-- so many turns lead to one state
same_state : (limit n : ℕ) (s l1 l2 : State PadHistory) (e1 e2 : List Edge) → Run (TurnBefore limit) n s e1 l1 → Run (TurnBefore limit) n s
    e2 l2 → l1 ≡ l2
same_state limit zero s l1 l2 e1 e2 a b = a.1 ∙ sym b.1
same_state limit (suc n) s l1 l2 e1 e2 (first, mid, rest, turn, run, cut) (first', mid', rest', turn', run', cut') =
    let one = turn_is_unique s mid mid' first first' turn.1 turn'.1 in
    same_state limit n mid l1 l2 rest rest' run (subst (λ x. Run (TurnBefore limit) n x rest' l2) (sym one.1) run')

abbrev IsSamePlace : ℕ → ℕ → ℕ → ℕ → Type 0
IsSamePlace c p d q = (c ≡ d) × (p ≡ q)

entered_once : (cert : Cert) (limit : ℕ) (start : State PadHistory) (c p d q : ℕ) → EntersFirst cert limit start c p → EntersFirst cert
    limit start d q → IsSamePlace c p d q
entered_once cert limit start c p d q a b =
    elim (cases_lt a.turns b.turns) [
      | inl less ↦ absurd (b.none_before a.turns a.edges a.state less a.run p (a.meets).meets)
      | inr most ↦ elim (cases_lt b.turns a.turns) [
        | inl less ↦ absurd (a.none_before b.turns b.edges b.state less b.run q (b.meets).meets)
        | inr least ↦
            let same : a.turns ≡ b.turns = omega arith in
            let one : a.state ≡ b.state = same_state limit b.turns start a.state b.state a.edges b.edges
            (subst (λ n. Run (TurnBefore limit) n start a.edges a.state) same a.run) b.run in
            let here : IsFirstEntry cert b.state p = subst (λ s. IsFirstEntry cert s p) one a.meets in
            let low = here.first q (b.meets).meets in
            let high = (b.meets).first p here.meets in
            (sym a.clock_is ∙ (ap (λ (s : State PadHistory). s.clock) one ∙ b.clock_is), omega arith)
      ]
    ]

entered_never : (cert : Cert) (limit : ℕ) (start : State PadHistory) (c p : ℕ) → EntersFirst cert limit start c p → NeverEnters cert limit
    start → ⊥
entered_never cert limit start c p a never = never a.turns a.edges a.state a.run a.in_run p (a.meets).meets

-- a position lies in one line
lines_rise : (s : Schedule) (l m : ℕ) → l < m → line_start s l + length_of s l ≤ line_start s m
lines_rise s l zero less = absurd (omega arith)
lines_rise s l (suc m) less =
    elim (cases_lt l m) [
      | inl before ↦ (let h = lines_rise s l m before in omega arith)
      | inr same ↦ (let here : l ≡ m = omega arith in subst (λ k. line_start s l + length_of s l ≤ line_start s k + length_of s k) here
          (omega arith))
    ]

one_line_of : (s : Schedule) (p l m : ℕ) → IsInLine s p l → IsInLine s p m → l ≡ m
one_line_of s p l m a b =
    elim (cases_lt l m) [
      | inl less ↦ (let h = lines_rise s l m less in let from = b.from in let to = a.to in absurd (omega arith))
      | inr most ↦ elim (cases_lt m l) [
        | inl less ↦ (let h = lines_rise s m l less in let from = a.from in let to = b.to in absurd (omega arith))
        | inr least ↦ omega arith
      ]
    ]

-- One run

pub same_run : (frames : List ℕ) (cert : Cert) (clocks : ℕ) (start : State PadHistory) (a b : Answer) → IsFramedRun frames cert clocks start
    a → IsFramedRun frames cert clocks start b → a ≡ b
same_run frames cert clocks start a b (inl p) (inl q) =
    let edges = (one_run clocks start p.last q.last p.edges q.edges p.run q.run).0 in
    let place = entered_once cert clocks start p.clock p.position q.clock q.position p.enters q.enters in
    let line : p.line ≡ q.line = one_line_of cert.schedule q.position p.line q.line (subst (λ n. IsInLine cert.schedule n p.line) place.1
    p.in_line) q.in_line in
    p.told
    ∙ (ap (λ e. framed frames e Done (entered_line p.clock p.line ++ numbers_of e)) edges
    ∙ (ap (λ c. framed frames q.edges Done (entered_line c p.line ++ numbers_of q.edges)) place.0
    ∙ (ap (λ l. framed frames q.edges Done (entered_line q.clock l ++ numbers_of q.edges)) line
    ∙ sym q.told)))
same_run frames cert clocks start a b (inl p) (inr (inl q)) = absurd (entered_never cert clocks start p.clock p.position p.enters q.never)
same_run frames cert clocks start a b (inl p) (inr (inr q)) = absurd (over_or_stopped clocks start p.last q.last p.edges q.edges p.run
    q.run)
same_run frames cert clocks start a b (inr (inl p)) (inl q) = absurd (entered_never cert clocks start q.clock q.position q.enters p.never)
same_run frames cert clocks start a b (inr (inl p)) (inr (inl q)) =
    p.told ∙ (ap (λ e. framed frames e NotEntered not_entered_line) (one_run clocks start p.last q.last p.edges q.edges p.run q.run).0
    ∙ sym q.told)
same_run frames cert clocks start a b (inr (inl p)) (inr (inr q)) = absurd (over_or_stopped clocks start p.last q.last p.edges q.edges p.run
    q.run)
same_run frames cert clocks start a b (inr (inr p)) (inl q) = absurd (over_or_stopped clocks start q.last p.last q.edges p.edges q.run
    p.run)
same_run frames cert clocks start a b (inr (inr p)) (inr (inl q)) = absurd (over_or_stopped clocks start q.last p.last q.edges p.edges q.run
    p.run)
same_run frames cert clocks start a b (inr (inr p)) (inr (inr q)) =
    let same = one_stopped_run clocks start p.last q.last p.edges q.edges p.run q.run in
    p.told
    ∙ (ap (λ e. framed frames e Stopped (stopped_at_line p.last.core.pc (word_of p.last.image p.last.core.pc))) same.0
    ∙ (ap (λ (s : State PadHistory). framed frames q.edges Stopped (stopped_at_line s.core.pc (word_of s.image s.core.pc))) same.1
    ∙ sym q.told))
