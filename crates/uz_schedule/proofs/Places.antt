-- Where a place of a line goes on with its position.
use Rattle.std.proofs.Common.{◌≡◌, inl, inr, ℕ, suc, ◌+◌, ◌-◌, ◌%◌, ◌<◌, sym, ◌∙◌, ap, length, arith}
use Rattle.std.proofs.Math.Nat.{add-mod_right}
use Rattle.std.proofs.lemmas.Bool.Decides.{eqb_tells, leb_tells}
use Rattle.uz_schedule.specs.declared.lines.Schedule.{Schedule}
use Rattle.uz_schedule.specs.Schedule.{length_of, start_of, frame_of, next_line, At, event_at, level_at}
use Rattle.uz_schedule.specs.Lines.{order_of, line_after, clock_after}
use Rattle.uz_schedule.proofs.Starts.{order_is, place_below}
use Rattle.uz_schedule.proofs.Modulo.{event_at_mod, mod_shift, level_mod}

pub at_more : (s : Schedule) (p l k c : ℕ) → At s p l k → At s (p + c) l (k + c)
at_more s p l k c e = mod_shift p (start_of s l + k) c (frame_of s) e ∙ ap (λ i. i % frame_of s) (omega arith)

next_start : (s : Schedule) (l k : ℕ) → (start_of s (next_line s l) + k) % frame_of s ≡ (start_of s l + (length_of s l + k)) % frame_of s
next_start s l k =
    elim (eqb_tells (suc l) (length s.lines)) [
      | inl t ↦
          let whole : (start_of s (length s.lines) + k) % frame_of s ≡ k % frame_of s = ap (λ i. i % frame_of s) (omega arith)
          ∙ add-mod_right k (frame_of s) in
          let here = ap (λ n. (start_of s n + k) % frame_of s) t.1 in
          rw t.0 (ap (λ i. i % frame_of s) (omega arith) ∙ (sym whole ∙ (sym here ∙ ap (λ i. i % frame_of s) (omega arith))))
      | inr t ↦ rw t.0 (ap (λ i. i % frame_of s) (omega arith))
    ]

-- a place by other names
pub at_same : (s : Schedule) (p l m k j : ℕ) → l ≡ m → k ≡ j → At s p l k → At s p m j
at_same s p l m k j e f h = h ∙ (ap (λ i. (start_of s i + k) % frame_of s) e ∙ ap (λ i. (start_of s m + i) % frame_of s) f)

pub at_next : (s : Schedule) (p l k : ℕ) → At s p l (length_of s l + k) → At s p (next_line s l) k
at_next s p l k e = e ∙ sym (next_start s l k)

pub at_after : (s : Schedule) (p l k : ℕ) → At s p l k → At s p (line_after (order_of s) l k) (clock_after (order_of s) l k)
at_after s p l k e =
    elim (leb_tells (suc k) (length_of s l)) [
      | inl t ↦ rw t.0 e
      | inr t ↦ rw t.0 (at_next s p l (k - length_of s l) (e ∙ ap (λ i. (start_of s l + i) % frame_of s) (omega (arith, t.1))))
    ]

pub event_here : (s : Schedule) (p l k : ℕ) → At s p l k → event_at s p ≡ event_at s (start_of s l + k)
event_here s p l k e = event_at_mod s p (start_of s l + k) e

pub level_here : (s : Schedule) (p l k : ℕ) → At s p l k → level_at s p ≡ level_at s (start_of s l + k)
level_here s p l k e = level_mod s p (start_of s l + k) e

pub place_inside : (s : Schedule) (l k : ℕ) → l < length s.lines → k < length_of s l → start_of s l + k < frame_of s
place_inside s l k h j = place_below s l k h j

-- where places go on, and what is there
pub ruleset places = (at_more, at_next, at_after, event_here, level_here, place_inside, order_is)
