use Rattle.std.proofs.Common.{◌≡◌, ℕ, ◌+◌, ◌*◌, Bool, true, false, not, refl, ap, ◌∙◌, arith, bit_and, sym}
use Rattle.std.specs.Bool.{beq}
use Rattle.uz_core.specs.Arithmetic.{bit_value, exclusive_or, flags_cznvsh, flags_of}
use Rattle.uz_core.specs.declared.machine.Flags.{Flags}
use Rattle.uz_core.proofs.arithmetic.all_flags.Goals as goal

abbrev value : ℕ → ℕ → ℕ → ℕ → ℕ → ℕ → ℕ
value c z n v s h = c + z * 2 + n * 4 + v * 8 + s * 16 + h * 32

abbrev with_mask : ℕ → Flags
with_mask value = record { value = value; mask = 63 }

abbrev of_bits : Bool → Bool → Bool → Bool → Bool → ℕ
of_bits c z n v h = value (bit_value c) (bit_value z) (bit_value n) (bit_value v) (bit_value (exclusive_or n v)) (bit_value h)

-- what the six flags say, and that none is outside the mask, for each of the five that they are made of
said : (c z n v h : Bool) → (flags_of (with_mask (of_bits c z n v h)) ≡ flags_cznvsh c z n v h)
    × (bit_and (of_bits c z n v h) 63 ≡ of_bits c z n v h)
said true true true true true = (refl, refl)
said true true true true false = (refl, refl)
said true true true false true = (refl, refl)
said true true true false false = (refl, refl)
said true true false true true = (refl, refl)
said true true false true false = (refl, refl)
said true true false false true = (refl, refl)
said true true false false false = (refl, refl)
said true false true true true = (refl, refl)
said true false true true false = (refl, refl)
said true false true false true = (refl, refl)
said true false true false false = (refl, refl)
said true false false true true = (refl, refl)
said true false false true false = (refl, refl)
said true false false false true = (refl, refl)
said true false false false false = (refl, refl)
said false true true true true = (refl, refl)
said false true true true false = (refl, refl)
said false true true false true = (refl, refl)
said false true true false false = (refl, refl)
said false true false true true = (refl, refl)
said false true false true false = (refl, refl)
said false true false false true = (refl, refl)
said false true false false false = (refl, refl)
said false false true true true = (refl, refl)
said false false true true false = (refl, refl)
said false false true false true = (refl, refl)
said false false true false false = (refl, refl)
said false false false true true = (refl, refl)
said false false false true false = (refl, refl)
said false false false false true = (refl, refl)
said false false false false false = (refl, refl)

differs : (n v : Bool) → bit_value (not (beq n v)) ≡ bit_value (exclusive_or n v)
differs true true = refl
differs true false = refl
differs false true = refl
differs false false = refl

sum : (c : goal.After-bit_value-6) → value c.bit_value.result c.bit_value-2.result c.bit_value-3.result c.bit_value-4.result c.bit_value-5.result
    c.bit_value-6.result ≡ of_bits c.args.c c.args.z c.args.n c.args.v c.args.h
sum c = λ i. value (c.bit_value.ensures i) (c.bit_value-2.ensures i) (c.bit_value-3.ensures i) (c.bit_value-4.ensures i)
    ((c.bit_value-5.ensures ∙ differs c.args.n c.args.v) i) (c.bit_value-6.ensures i)

pub returns-clause-flags : goal.returns-clause-flags
returns-clause-flags c = ap (λ v. flags_of (with_mask v)) (sum c) ∙ (said c.args.c c.args.z c.args.n c.args.v c.args.h).0

pub returns-clause-mask : goal.returns-clause-mask
returns-clause-mask c = (omega arith, ap (λ v. bit_and v 63) (sum c) ∙ (said c.args.c c.args.z c.args.n c.args.v c.args.h).1 ∙ sym (sum c))
