-- What a store does to RAM and to the level of sync, and which events it shows.
use Rattle.uz_rules.proofs.Common.{◌≡◌, ◌≢◌, ℕ, ◌+◌, ◌%◌, ◌^◌, ◌<◌, ◌≤◌, Bool, true, false, if◌then◌else◌, nat_eq, nat_lt, length, refl}
use Rattle.uz_rules.proofs.Common.{sym, ◌∙◌, ap, arith, slice_index, bit_xor, nat_tests, bit_at_lowest, BitCall as Bit, with_bit}
use Rattle.uz_rules.proofs.Common.{is_timer_address, PadWiring, Space, is_pin, byte_at, after_byte, after_store, takes_one_bit, sync_level}
use Rattle.uz_rules.proofs.Common.{bit_at_xor}
use Rattle.uz_rules.proofs.CoreKeeps.{set_same, set_other}
use Rattle.uz_rules.proofs.MemoryKeeps.{Wrote}

pub choose_if : {A : Type 0} → (P : A → Type 0) (b : Bool) (x y : A) → (b ≡ true → P x) → (b ≡ false → P y) → P (if b then x else y)
choose_if P true x y p q = p refl
choose_if P false x y p q = q refl

pub pin_low : (at : ℕ) → is_pin at ≡ true → at ≤ 0x29
pin_low at e = grind (arith, nat_tests)

pub timer_low : (at : ℕ) → is_timer_address at ≡ true → at ≤ 0x89
timer_low at e = grind (arith, nat_tests)

byte_other : {P : Type 0} (w : PadWiring P) (s : Space P) (at v a : ℕ) → 256 ≤ a → a ≢ at → slice_index (after_byte w at v s).bytes
    a ≡ slice_index s.bytes a
byte_other {P} w s at v a low other =
    let Same : Space P → Type 0 = λ t. slice_index t.bytes a ≡ slice_index s.bytes a in
    choose_if Same (nat_eq at 0x20) _ _ (λ t. set_other s.bytes 0x22 a _ (λ q. absurd (omega (arith, low, q))))
    (λ t. choose_if Same (nat_eq at 0x22) _ _ (λ t. set_other s.bytes 0x22 a _ (λ q. absurd (omega (arith, low, q))))
    (λ t. choose_if Same (is_pin at) _ _ (λ t. set_other s.bytes (at + 2) a _ (λ q. absurd (omega (arith, low, q, pin_low at t))))
    (λ t. choose_if Same (is_timer_address at) _ _ (λ t. refl)
    (λ t. choose_if Same (nat_lt 0x10FF at) _ _ (λ t. refl) (λ t. set_other s.bytes at a v other)))))

byte_same : {P : Type 0} (w : PadWiring P) (s : Space P) (at v : ℕ) → length s.bytes ≡ 4352 → 256 ≤ at → at ≤ 4351
    → slice_index (after_byte w at v s).bytes at ≡ v
byte_same {P} w s at v size low high =
    let Same : Space P → Type 0 = λ t. slice_index t.bytes at ≡ v in
    choose_if Same (nat_eq at 0x20) _ _ (λ t. absurd (grind (arith, nat_tests)))
    (λ t. choose_if Same (nat_eq at 0x22) _ _ (λ t. absurd (grind (arith, nat_tests)))
    (λ t. choose_if Same (is_pin at) _ _ (λ t. absurd (omega (arith, low, pin_low at t)))
    (λ t. choose_if Same (is_timer_address at) _ _ (λ t. absurd (omega (arith, low, timer_low at t)))
    (λ t. choose_if Same (nat_lt 0x10FF at) _ _ (λ t. absurd (grind (arith, nat_tests))) (λ t. set_same s.bytes at v (omega arith))))))

pub byte_wrote : {P : Type 0} (w : PadWiring P) (s : Space P) (at v : ℕ) → length s.bytes ≡ 4352 → Wrote at v s.bytes
    (after_byte w at v s).bytes
byte_wrote w s at v size = record { other = λ a low o. byte_other w s at v a low o; same = byte_same w s at v size }

-- a store of one bit among the ports leaves RAM
pub bit_kept : {P : Type 0} (w : PadWiring P) (s : Space P) (at b a : ℕ) (set : Bool) → at < 64 → 256 ≤ a
    → slice_index (after_store w (Bit at b set) s).bytes a ≡ slice_index s.bytes a
bit_kept {P} w s at b a set low high =
    let Same : Space P → Type 0 = λ t. slice_index t.bytes a ≡ slice_index s.bytes a in
    choose_if Same (takes_one_bit at) _ _
    (λ t. choose_if Same set _ s (λ t. byte_other w s at (2 ^ b) a high (λ q. absurd (omega (arith, low, high, q)))) (λ t. refl))
    (λ t. byte_other w s at (with_bit b set (byte_at w s at)) a high (λ q. absurd (omega (arith, low, high, q))))

-- The level of sync is bit 0 of PORTB, which a store to PORTB or PINB alone changes

pub level_other : {P : Type 0} (w : PadWiring P) (s : Space P) (at v : ℕ) → at ≢ 0x23 → at ≢ 0x25 → sync_level (after_byte w at v s)
    ≡ sync_level s
level_other {P} w s at v p q =
    let Same : Space P → Type 0 = λ t. sync_level t ≡ sync_level s in
    choose_if Same (nat_eq at 0x20) _ _ (λ t. ap (λ n. n % 2) (set_other s.bytes 0x22 0x25 _ (λ q. absurd (omega (arith, q)))))
    (λ t. choose_if Same (nat_eq at 0x22) _ _ (λ t. ap (λ n. n % 2) (set_other s.bytes 0x22 0x25 _ (λ q. absurd (omega (arith, q)))))
    (λ t. choose_if Same (is_pin at) _ _ (λ t. ap (λ n. n % 2) (set_other s.bytes (at + 2) 0x25 _ (λ q. p (omega (arith, q)))))
    (λ t. choose_if Same (is_timer_address at) _ _ (λ t. refl)
    (λ t. choose_if Same (nat_lt 0x10FF at) _ _ (λ t. refl) (λ t. ap (λ n. n % 2) (set_other s.bytes at 0x25 v (λ e. q (sym e))))))))

pub level_stored : {P : Type 0} (w : PadWiring P) (s : Space P) (v : ℕ) → length s.bytes ≡ 4352 → sync_level (after_byte w 0x25 v s) ≡ v % 2
level_stored w s v size = ap (λ n. n % 2) (set_same s.bytes 0x25 v (omega arith))

pub level_toggled : {P : Type 0} (w : PadWiring P) (s : Space P) (v : ℕ) → length s.bytes ≡ 4352 → sync_level (after_byte w 0x23 v s)
    ≡ (sync_level s + v % 2) % 2
level_toggled w s v size =
    ap (λ n. n % 2) (set_same s.bytes 0x25 (bit_xor (slice_index s.bytes 0x25) v) (omega arith))
    ∙ sym (bit_at_lowest (bit_xor (slice_index s.bytes 0x25) v))
    ∙ (bit_at_xor (slice_index s.bytes 0x25) v 0
    ∙ ap (λ n. n % 2) (let a = bit_at_lowest (slice_index s.bytes 0x25) in let b = bit_at_lowest v in omega (arith, a, b)))
