-- What it is worth that the pulses of a frame are those of a field.
use Rattle.std.proofs.Common.{◌≡◌, ◌<◌, ◌⊎◌, inl, inr, ℕ, zero, suc, ◌+◌, ◌-◌, List, length, sym, subst, arith, true, nat_le}
use Rattle.std.specs.Prelude.{Option, Some, None}
use Rattle.std.proofs.lemmas.Bool.{and_parts, cases_eq, false≢true}
use Rattle.std.proofs.lemmas.Bool.Decides.{nat_tests}
use Rattle.uz_schedule.specs.declared.lines.Schedule.{Schedule}
use Rattle.uz_report.specs.declared.pulse_kind.PulseKind.{PulseKind}
use Rattle.uz_report.specs.Order.{are_wanted, first_broad, is_field, is_field_from, is_wanted, line_after, IsFieldFrom, IsSomeField}

-- each line below the count
each_wanted : (s : Schedule) (pulses : List PulseKind) (broad count i : ℕ) → are_wanted s pulses broad count ≡ true → i < count
    → is_wanted s pulses i (line_after pulses broad i) ≡ true
each_wanted s pulses broad zero i all below = absurd (omega arith)
each_wanted s pulses broad (suc count) i all below =
    let parts = and_parts (are_wanted s pulses broad count) (is_wanted s pulses count (line_after pulses broad count)) all in
    by_case (λ less. each_wanted s pulses broad count i parts.0 less) parts.1 (cases_eq i count)
  where
    by_case : (i < count → is_wanted s pulses i (line_after pulses broad i) ≡ true)
        → is_wanted s pulses count (line_after pulses broad count) ≡ true → ((i ≡ count) ⊎ (i ≡ count → ⊥)) → is_wanted s pulses i (line_after pulses broad i) ≡ true
    by_case before last (inl e) = subst (λ k. is_wanted s pulses k (line_after pulses broad k) ≡ true) (sym e) last
    by_case before last (inr other) = before (omega (arith, below, other))

field_from : (s : Schedule) (pulses : List PulseKind) (first : Option ℕ) → is_field_from s pulses first ≡ true
    → (start : ℕ) × IsFieldFrom s pulses start
field_from s pulses None is = absurd (false≢true is)
field_from s pulses (Some broad) is =
    (broad + (length pulses - 6), λ i below. each_wanted s pulses broad (length pulses) i is below)

-- 18 lines or more, and from one of them on those of a field
pub some_field : (s : Schedule) (pulses : List PulseKind) → is_field s pulses ≡ true → IsSomeField s pulses
unfolding is_field
some_field s pulses is =
    let parts = and_parts (nat_le 18 (length pulses)) (is_field_from s pulses (first_broad pulses (length pulses))) is in
    let many : nat_le 18 (length pulses) ≡ true = parts.0 in
    (grind (arith, nat_tests), field_from s pulses (first_broad pulses (length pulses)) parts.1)
