-- The effect of every row is one that instructions have.
use Rattle.std.proofs.Common.{◌<◌, ℕ, ◌+◌, ◌*◌, Bool, true, false, if◌then◌else◌, nat_eq, refl, arith}
use Rattle.std.proofs.lemmas.Bool.Decides.{nat_tests}
use Rattle.avr_table.specs.declared.Instr.{Instr}
use Rattle.avr_table.specs.declared.Instr.TheVariants.{Add, Adc, Adiw, Sub, Subi, Sbc, Sbci, Sbiw, And, Andi, Or, Ori, Eor, Com, Neg, Inc}
use Rattle.avr_table.specs.declared.Instr.TheVariants.{Dec, Mul, Muls, Mulsu, Fmul, Fmuls, Fmulsu, Rjmp, Ijmp, Jmp, Rcall, Icall, Call, Ret}
use Rattle.avr_table.specs.declared.Instr.TheVariants.{Reti, Cpse, Cp, Cpc, Cpi, Sbrc, Sbrs, Sbic, Sbis, Brbs, Brbc, Mov, Movw, Ldi, LdX}
use Rattle.avr_table.specs.declared.Instr.TheVariants.{LdXInc, LdXDec, LdYInc, LdYDec, LdZInc, LdZDec, Ldd, Lds, StX, StXInc, StXDec}
use Rattle.avr_table.specs.declared.Instr.TheVariants.{StYInc, StYDec, StZInc, StZDec, Std, Sts, Lpm, LpmZ, LpmZInc, Spm, In, Out, Push}
use Rattle.avr_table.specs.declared.Instr.TheVariants.{Pop, Lsr, Ror, Asr, Swap, Bset, Bclr, Sbi, Cbi, Bst, Bld, Break, Nop, Sleep, Wdr}
use Rattle.uz_core.specs.Effects.{signed_offset, effect_of}
use Rattle.uz_core.specs.OperandRanges.{IsPair, IsUpperPair, IsPointer, AreMiddle, EffectFits}

one_of_two : (b : Bool) → IsPointer (if b then 28 else 30)
one_of_two true = (omega arith, (omega arith, refl))
one_of_two false = (omega arith, (omega arith, refl))

displaced : (y : ℕ) → IsPointer (if nat_eq y 1 then 28 else 30)
displaced y = one_of_two (nat_eq y 1)

is_x : IsPointer 26
is_x = (omega arith, (omega arith, refl))

is_y : IsPointer 28
is_y = (omega arith, (omega arith, refl))

is_z : IsPointer 30
is_z = (omega arith, (omega arith, refl))

upper_pair : (d : ℕ) → d < 4 → IsUpperPair (24 + 2 * d)
upper_pair d h = (omega arith, (omega arith, omega arith))

any_pair : (d : ℕ) → d < 16 → IsPair (2 * d)
any_pair d h = (omega arith, omega arith)

middle : (d r : ℕ) → d < 8 → r < 8 → AreMiddle (16 + d) (16 + r)
middle d r hd hr = (omega arith, omega arith, omega arith, omega arith)

offset_below : (half k : ℕ) → half < 4096 → k < 2 * half → signed_offset half k < 32768
offset_below half k h b = grind (arith, nat_tests)

pub effect_fits : (i : Instr) → EffectFits (effect_of i)
effect_fits (Add d r) = (omega (arith, d.in_range, r.in_range), omega (arith, d.in_range, r.in_range))
effect_fits (Adc d r) = (omega (arith, d.in_range, r.in_range), omega (arith, d.in_range, r.in_range))
effect_fits (Adiw d k) = (upper_pair d.value (omega (arith, d.in_range)), omega (arith, d.in_range, k.in_range))
effect_fits (Sub d r) = (omega (arith, d.in_range, r.in_range), omega (arith, d.in_range, r.in_range))
effect_fits (Subi d k) = (omega (arith, d.in_range, k.in_range), omega (arith, d.in_range, k.in_range))
effect_fits (Sbc d r) = (omega (arith, d.in_range, r.in_range), omega (arith, d.in_range, r.in_range))
effect_fits (Sbci d k) = (omega (arith, d.in_range, k.in_range), omega (arith, d.in_range, k.in_range))
effect_fits (Sbiw d k) = (upper_pair d.value (omega (arith, d.in_range)), omega (arith, d.in_range, k.in_range))
effect_fits (And d r) = (omega (arith, d.in_range, r.in_range), omega (arith, d.in_range, r.in_range))
effect_fits (Andi d k) = (omega (arith, d.in_range, k.in_range), omega (arith, d.in_range, k.in_range))
effect_fits (Or d r) = (omega (arith, d.in_range, r.in_range), omega (arith, d.in_range, r.in_range))
effect_fits (Ori d k) = (omega (arith, d.in_range, k.in_range), omega (arith, d.in_range, k.in_range))
effect_fits (Eor d r) = (omega (arith, d.in_range, r.in_range), omega (arith, d.in_range, r.in_range))
effect_fits (Com d) = omega (arith, d.in_range)
effect_fits (Neg d) = omega (arith, d.in_range)
effect_fits (Inc d) = omega (arith, d.in_range)
effect_fits (Dec d) = omega (arith, d.in_range)
effect_fits (Mul d r) = (omega (arith, d.in_range), omega (arith, r.in_range), tt)
effect_fits (Muls d r) = (omega (arith, d.in_range), omega (arith, r.in_range), (omega arith, omega arith))
effect_fits (Mulsu d r) = (
  omega (arith, d.in_range),
  omega (arith, r.in_range),
  middle d.value r.value (omega (arith, d.in_range))
      (omega (arith, r.in_range)),
)
effect_fits (Fmul d r) = (
  omega (arith, d.in_range),
  omega (arith, r.in_range),
  middle d.value r.value (omega (arith, d.in_range))
      (omega (arith, r.in_range)),
)
effect_fits (Fmuls d r) = (
  omega (arith, d.in_range),
  omega (arith, r.in_range),
  middle d.value r.value (omega (arith, d.in_range))
      (omega (arith, r.in_range)),
)
effect_fits (Fmulsu d r) = (
  omega (arith, d.in_range),
  omega (arith, r.in_range),
  middle d.value r.value (omega (arith, d.in_range))
      (omega (arith, r.in_range)),
)
effect_fits (Rjmp k) = offset_below 2048 k.value (omega arith) (omega (arith, k.in_range))
effect_fits Ijmp = tt
effect_fits (Jmp k) = omega (arith, k.in_range)
effect_fits (Rcall k) = offset_below 2048 k.value (omega arith) (omega (arith, k.in_range))
effect_fits Icall = tt
effect_fits (Call k) = omega (arith, k.in_range)
effect_fits Ret = tt
effect_fits Reti = tt
effect_fits (Cpse d r) = (omega (arith, d.in_range, r.in_range), omega (arith, d.in_range, r.in_range))
effect_fits (Cp d r) = (omega (arith, d.in_range, r.in_range), omega (arith, d.in_range, r.in_range))
effect_fits (Cpc d r) = (omega (arith, d.in_range, r.in_range), omega (arith, d.in_range, r.in_range))
effect_fits (Cpi d k) = (omega (arith, d.in_range, k.in_range), omega (arith, d.in_range, k.in_range))
effect_fits (Sbrc r b) = (omega (arith, r.in_range, b.in_range), omega (arith, r.in_range, b.in_range))
effect_fits (Sbrs r b) = (omega (arith, r.in_range, b.in_range), omega (arith, r.in_range, b.in_range))
effect_fits (Sbic a b) = ((omega arith, omega (arith, a.in_range)), omega (arith, b.in_range))
effect_fits (Sbis a b) = ((omega arith, omega (arith, a.in_range)), omega (arith, b.in_range))
effect_fits (Brbs s k) = (
  omega (arith, s.in_range, k.in_range),
  offset_below 64 k.value (omega arith)
      (omega (arith, s.in_range, k.in_range)),
)
effect_fits (Brbc s k) = (
  omega (arith, s.in_range, k.in_range),
  offset_below 64 k.value (omega arith)
      (omega (arith, s.in_range, k.in_range)),
)
effect_fits (Mov d r) = (omega (arith, d.in_range, r.in_range), omega (arith, d.in_range, r.in_range))
effect_fits (Movw d r) = (any_pair d.value (omega (arith, d.in_range)), any_pair r.value (omega (arith, r.in_range)))
effect_fits (Ldi d k) = (omega (arith, d.in_range, k.in_range), omega (arith, d.in_range, k.in_range))
effect_fits (LdX d) = (omega (arith, d.in_range), (is_x, omega arith))
effect_fits (LdXInc d) = (omega (arith, d.in_range), is_x)
effect_fits (LdXDec d) = (omega (arith, d.in_range), is_x)
effect_fits (LdYInc d) = (omega (arith, d.in_range), is_y)
effect_fits (LdYDec d) = (omega (arith, d.in_range), is_y)
effect_fits (LdZInc d) = (omega (arith, d.in_range), is_z)
effect_fits (LdZDec d) = (omega (arith, d.in_range), is_z)
effect_fits (Ldd d y q) = (
  omega (arith, d.in_range, y.in_range, q.in_range),
  (displaced y.value, omega (arith, d.in_range, y.in_range, q.in_range)),
)
effect_fits (Lds d k) = (omega (arith, d.in_range, k.in_range), omega (arith, d.in_range, k.in_range))
effect_fits (StX r) = ((is_x, omega arith), omega (arith, r.in_range))
effect_fits (StXInc r) = (is_x, omega (arith, r.in_range))
effect_fits (StXDec r) = (is_x, omega (arith, r.in_range))
effect_fits (StYInc r) = (is_y, omega (arith, r.in_range))
effect_fits (StYDec r) = (is_y, omega (arith, r.in_range))
effect_fits (StZInc r) = (is_z, omega (arith, r.in_range))
effect_fits (StZDec r) = (is_z, omega (arith, r.in_range))
effect_fits (Std y q r) = (
  (displaced y.value, omega (arith, y.in_range, q.in_range, r.in_range)),
  omega (arith, y.in_range, q.in_range, r.in_range),
)
effect_fits (Sts k r) = (omega (arith, k.in_range, r.in_range), omega (arith, k.in_range, r.in_range))
effect_fits Lpm = omega (arith)
effect_fits (LpmZ d) = omega (arith, d.in_range)
effect_fits (LpmZInc d) = omega (arith, d.in_range)
effect_fits Spm = tt
effect_fits (In d a) = (omega (arith, d.in_range, a.in_range), omega (arith, d.in_range, a.in_range))
effect_fits (Out a r) = (omega (arith, a.in_range, r.in_range), omega (arith, a.in_range, r.in_range))
effect_fits (Push r) = omega (arith, r.in_range)
effect_fits (Pop d) = omega (arith, d.in_range)
effect_fits (Lsr d) = omega (arith, d.in_range)
effect_fits (Ror d) = omega (arith, d.in_range)
effect_fits (Asr d) = omega (arith, d.in_range)
effect_fits (Swap d) = omega (arith, d.in_range)
effect_fits (Bset s) = omega (arith, s.in_range)
effect_fits (Bclr s) = omega (arith, s.in_range)
effect_fits (Sbi a b) = ((omega arith, omega (arith, a.in_range)), omega (arith, b.in_range))
effect_fits (Cbi a b) = ((omega arith, omega (arith, a.in_range)), omega (arith, b.in_range))
effect_fits (Bst d b) = (omega (arith, d.in_range, b.in_range), omega (arith, d.in_range, b.in_range))
effect_fits (Bld d b) = (omega (arith, d.in_range, b.in_range), omega (arith, d.in_range, b.in_range))
effect_fits Break = tt
effect_fits Nop = tt
effect_fits Sleep = tt
effect_fits Wdr = tt
