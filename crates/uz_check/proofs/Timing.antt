-- The timer of a handler and the place of its instance go on together.
use Rattle.uz_check.proofs.Common.{and_parts, ◌≡◌, ◌⊎◌, inl, inr, ℕ, suc, ◌+◌, ◌-◌, ◌<◌, ◌≤◌, Bool, true, false, refl, sym, ◌∙◌, ap, arith}
use Rattle.uz_check.proofs.Common.{◌&&◌, ◌||◌, nat_eq, nat_le, nat_lt, leb_tells, le-leb, lt-leb, leb-true, eqb-true, or-false, or-true}
use Rattle.uz_check.proofs.Common.{Handler, Schedule, Instance, length_of, Timer, is_counting, timer_after, Lines, clock_after, Exit}
use Rattle.uz_check.proofs.Common.{keeps_time, ends_line, TimerMeets, order_of}
use Rattle.uz_check.proofs.Timer.{count_within, count_over, count_counting, matched_within, matched_over}

-- the timer comes to the end of an instruction of c clocks as its line does: OCR1A is the line's last clock, or neither ends
-- before the instruction does
abbrev pub OnTime : ℕ → ℕ → ℕ → ℕ → Type 0
OnTime clock length top c = (suc top ≡ length) ⊎ ((clock + c ≤ top) × (clock + c < length))

pub on_time : (lines : Lines) (inst : Instance) (exit : Exit) → keeps_time lines inst exit ≡ true
    → OnTime inst.clock (lines.length inst.line) inst.top exit.clocks
on_time lines inst exit e = by_case (nat_eq (suc inst.top) (lines.length inst.line)) refl e
  where
    by_case : (b : Bool) → nat_eq (suc inst.top) (lines.length inst.line) ≡ b
        → (b || (nat_le (inst.clock + exit.clocks) inst.top && nat_lt (inst.clock + exit.clocks) (lines.length inst.line))) ≡ true
        → OnTime inst.clock (lines.length inst.line) inst.top exit.clocks
    by_case true is h = inl (eqb-true (suc inst.top) (lines.length inst.line) is)
    by_case false is h =
        let both = and_parts (nat_le (inst.clock + exit.clocks) inst.top) _ h in
        inr (
          leb-true (inst.clock + exit.clocks) inst.top both.0,
          leb-true (suc (inst.clock + exit.clocks)) (lines.length inst.line) both.1,
        )

pub record Timed (z : Schedule) (inst : Instance) (t : Timer) (c : ℕ) : Type 0 where
  pub count : (timer_after c t).count ≡ clock_after (order_of z) inst.line (inst.clock + c)
  pub matched : (timer_after c t).matched ≡ (inst.pending || ends_line (order_of z) inst.line (inst.clock + c))

-- before both ends
early : (z : Schedule) (inst : Instance) (t : Timer) (c : ℕ) → is_counting t ≡ true → TimerMeets Handler inst t → t.count + c ≤ t.top
    → inst.clock + c < length_of z inst.line → Timed z inst t c
early z inst t c counting timer within before =
    let count = count_counting t c counting ∙ (count_within t.count t.top c within ∙ ap (λ n. n + c) timer.0) in
    let flag = matched_within t c counting within ∙ timer.1 in
    let first = le-leb (suc (inst.clock + c)) (length_of z inst.line) before in
    let b = lt-leb (length_of z inst.line) (inst.clock + c) before in
    record { count = rw first count; matched = rw b (flag ∙ sym (or-false inst.pending)) }

pub timed : (z : Schedule) (inst : Instance) (t : Timer) (c : ℕ) → is_counting t ≡ true → TimerMeets Handler inst t
    → OnTime inst.clock (length_of z inst.line) inst.top c → inst.clock < length_of z inst.line → c < length_of z inst.line
    → Timed z inst t c
timed z inst t c counting timer (inr both) low few = early z inst t c counting timer (omega (arith, timer.0, timer.2, both.0)) both.1
timed z inst t c counting timer (inl full) low few =
    let top : suc t.top ≡ length_of z inst.line = ap suc timer.2 ∙ full in
    let first : t.count ≤ t.top = omega (arith, timer.0, top, low) in
    elim (leb_tells (suc (inst.clock + c)) (length_of z inst.line)) [
      | inl before ↦ early z inst t c counting timer (omega (arith, timer.0, top, before.1)) before.1
      | inr late ↦
          let past : t.top + 1 ≤ t.count + c = omega (arith, timer.0, top, late.1) in
          let count = count_counting t c counting ∙ count_over t.count t.top c first past (omega (arith, top, few)) in
          let flag = matched_over t c counting first past in
          let over : length_of z inst.line ≤ inst.clock + c = omega (arith, late.1) in
          let b = le-leb (length_of z inst.line) (inst.clock + c) over in
          let same : t.count + c - (t.top + 1) ≡ inst.clock + c - length_of z inst.line = omega (arith, timer.0, top) in
          record { count = rw late.0 (count ∙ same); matched = rw b (flag ∙ sym (or-true inst.pending)) }
    ]
