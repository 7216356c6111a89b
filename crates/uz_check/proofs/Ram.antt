-- Addresses of RAM, 0x100 to 0x10FF: what is read, stored and seen there. And SREG with bit 7 set or cleared.
use Rattle.uz_check.proofs.Common.{le-ltb, eq-eqb, ◌≡◌, ℕ, ◌^◌, ◌<◌, true, false, nat_eq, ap, arith, bit_at, bit_is_set, with_bit, ◌≢◌, ◌-◌}
use Rattle.uz_check.proofs.Common.{◌/◌, ◌%◌, ◌≤◌, eqb, [], length, refl, sym, ◌∙◌, slice_index, slice_set, nat_tests, Byte, is_core_address}
use Rattle.uz_check.proofs.Common.{Timer, PadHistory, Space, PadWiring, plain_byte, with_plain_byte, after_byte, State, sync_level}
use Rattle.uz_check.proofs.Common.{edge_kinds, pushed}
use Rattle.std.proofs.lemmas.Nat.Bits.{bit_at-lt, bit_at_and, bit_at_or, bit_at_ones, bit_at_ones_above, bit_at-pow_same, bit_at-pow_other}
use Rattle.std.proofs.Common.{bit_and, bit_or}
use Rattle.std.proofs.lemmas.List.{length-set, get_or-set_same, get_or-set_other}
use Rattle.uz_core.specs.Timer.{is_timer_address, timer_after_read}
use Rattle.uz_core.specs.Space.{is_pin, byte_at}

pub other : (a n : ℕ) → n < a → eqb a n ≡ false
other a n h = grind (arith, nat_tests)

pub off_core : (a : ℕ) → 256 ≤ a → is_core_address a ≡ false
off_core a h = grind (arith, nat_tests)

off_timer : (a : ℕ) → 256 ≤ a → is_timer_address a ≡ false
off_timer a h = rw (
  other a 0x36 (omega arith),
  other a 0x6F (omega arith),
  other a 0x80 (omega arith),
  other a 0x81 (omega arith),
  other a 0x84 (omega arith),
  other a 0x85 (omega arith),
  other a 0x88 (omega arith),
  other a 0x89 (omega arith),
) refl

off_pins : (a : ℕ) → 256 ≤ a → is_pin a ≡ false
off_pins a h = rw (other a 0x23 (omega arith), other a 0x26 (omega arith), other a 0x29 (omega arith)) refl

pub ram_read : {P : Type 0} → (w : PadWiring P) (space : Space P) (a : ℕ) → 256 ≤ a → a ≤ 4351 → byte_at w space a ≡ plain_byte space a
ram_read w space a low high = rw (other a 0x20 (omega arith), off_pins a low, off_timer a low, le-ltb 0x10FF a high) refl

pub ram_stored : {P : Type 0} → (w : PadWiring P) (space : Space P) (a v : ℕ) → 256 ≤ a → a ≤ 4351 → after_byte w a v
    space ≡ with_plain_byte a v space
ram_stored w space a v low high = rw (
  other a 0x20 (omega arith),
  other a 0x22 (omega arith),
  off_pins a low,
  off_timer a low,
  le-ltb 0x10FF a high,
) refl

-- no register of the timer is read
pub ram_timer : (a late : ℕ) (t : Timer) → 256 ≤ a → timer_after_read a late t ≡ t
ram_timer a late t h = rw (other a 0x84 (omega arith)) refl

pub ram_level : {P : Type 0} → (space : Space P) (a v : ℕ) → 256 ≤ a → sync_level (with_plain_byte a v space) ≡ sync_level space
ram_level space a v h = ap (λ x. x % 2) (get_or-set_other space.bytes a 0x25 v 0 (λ e. omega (arith, e, h)))

pub ram_unseen : {P : Type 0} → (space : Space P) (a v : ℕ) → 256 ≤ a → edge_kinds (Byte a v) space (with_plain_byte a v space) ≡ []
ram_unseen space a v h =
    rw (
      eq-eqb (sync_level space) (sync_level (with_plain_byte a v space)) (sym (ram_level space a v h)),
      other a 0x28 (omega arith),
      other a 0x26 (omega arith),
      other a 0xB3 (omega arith),
    ) refl

-- The bytes after an entry

pub pushed_high : (s : State PadHistory) → s.core.sp - 1 < length s.space.bytes → slice_index (pushed s) (s.core.sp - 1) ≡ s.core.pc / 256
pushed_high s h =
    get_or-set_same (slice_set s.space.bytes s.core.sp (s.core.pc % 256)) (s.core.sp - 1) (s.core.pc / 256) 0
    (omega (arith, h, length-set s.space.bytes s.core.sp (s.core.pc % 256)))

pub pushed_low : (s : State PadHistory) → 1 ≤ s.core.sp → s.core.sp < length s.space.bytes → slice_index (pushed s) s.core.sp ≡ s.core.pc %
    256
pushed_low s some h =
    get_or-set_other (slice_set s.space.bytes s.core.sp (s.core.pc % 256)) (s.core.sp - 1) s.core.sp (s.core.pc / 256) 0
    (λ e. omega (arith, e, some))
    ∙ get_or-set_same s.space.bytes s.core.sp (s.core.pc % 256) 0 h

pub pushed_off : (s : State PadHistory) (a : ℕ) → a ≢ s.core.sp → a ≢ s.core.sp - 1 → slice_index (pushed s) a ≡ slice_index s.space.bytes a
pushed_off s a h g =
    get_or-set_other (slice_set s.space.bytes s.core.sp (s.core.pc % 256)) (s.core.sp - 1) a (s.core.pc / 256) 0 g
    ∙ get_or-set_other s.space.bytes s.core.sp a (s.core.pc % 256) 0 h

pub pushed_level : (s : State PadHistory) → 257 ≤ s.core.sp → slice_index (pushed s) 0x25 % 2 ≡ sync_level s.space
pushed_level s h = ap (λ x. x % 2) (pushed_off s 0x25 (λ e. omega (arith, e, h)) (λ e. omega (arith, e, h)))

-- SREG with bit 7 set or cleared

pub set_seven : (n : ℕ) → bit_is_set (with_bit 7 true n) 7 ≡ true
set_seven n =
    let e : bit_at (bit_or n (2 ^ 7)) 7 ≡ 1 = omega (arith, bit_at_or n (2 ^ 7) 7, bit_at-pow_same 7, bit_at-lt n 7) in
    ap (λ x. nat_eq x 1) e

pub clear_seven : (n : ℕ) → bit_is_set (with_bit 7 false n) 7 ≡ false
clear_seven n =
    let e : bit_at (bit_and n 127) 7 ≡ 0 = omega (arith, bit_at_and n 127 7, bit_at_ones_above 7 7 (omega arith)) in
    ap (λ x. nat_eq x 1) e

pub set_others : (n k : ℕ) → k < 7 → bit_is_set (with_bit 7 true n) k ≡ bit_is_set n k
set_others n k h =
    let e : bit_at (bit_or n (2 ^ 7)) k ≡ bit_at n k = omega (
      arith,
      bit_at_or n (2 ^ 7) k,
      bit_at-pow_other 7 k (λ e. omega (arith, e, h)),
      bit_at-lt n k,
    ) in
    ap (λ x. nat_eq x 1) e

pub clear_others : (n k : ℕ) → k < 7 → bit_is_set (with_bit 7 false n) k ≡ bit_is_set n k
clear_others n k h =
    let e : bit_at (bit_and n 127) k ≡ bit_at n k = omega (arith, bit_at_and n 127 k, bit_at_ones 7 k h, bit_at-lt n k) in
    ap (λ x. nat_eq x 1) e
