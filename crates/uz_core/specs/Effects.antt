-- What each instruction does: one line a row of the AVR Instruction Set Manual. Five digits name a register,
-- four and three one from 16 on; MOVW has pairs at 2d and 2r, ADIW and SBIW the pair at 24 + 2d.
use Rattle.std.specs.Prelude.{ℕ, ◌+◌, ◌-◌, ◌*◌, true, false, if◌then◌else◌, nat_eq, nat_lt}
use Rattle.avr_table.specs.declared.Instr.{Instr}
use Rattle.avr_table.specs.declared.Instr.TheVariants.{Add, Adc, Adiw, Sub, Subi, Sbc, Sbci, Sbiw, And, Andi, Or, Ori, Eor, Com, Neg, Inc}
use Rattle.avr_table.specs.declared.Instr.TheVariants.{Dec, Mul, Muls, Mulsu, Fmul, Fmuls, Fmulsu, Rjmp, Ijmp, Jmp, Rcall, Icall, Call, Ret}
use Rattle.avr_table.specs.declared.Instr.TheVariants.{Reti, Cpse, Cp, Cpc, Cpi, Sbrc, Sbrs, Sbic, Sbis, Brbs, Brbc, Mov, Movw, Ldi, LdX}
use Rattle.avr_table.specs.declared.Instr.TheVariants.{LdXInc, LdXDec, LdYInc, LdYDec, LdZInc, LdZDec, Ldd, Lds, StX, StXInc, StXDec}
use Rattle.avr_table.specs.declared.Instr.TheVariants.{StYInc, StYDec, StZInc, StZDec, Std, Sts, Lpm, LpmZ, LpmZInc, Spm, In, Out, Push}
use Rattle.avr_table.specs.declared.Instr.TheVariants.{Pop, Lsr, Ror, Asr, Swap, Bset, Bclr, Sbi, Cbi, Bst, Bld, Break, Nop, Sleep, Wdr}
use Rattle.uz_core.specs.Addresses.{IO_BASE}
use Rattle.uz_core.specs.declared.machine.Operand.TheVariants.{Register, Constant}
use Rattle.uz_core.specs.declared.machine.BinaryOp.TheVariants as binary
use Rattle.uz_core.specs.declared.machine.UnaryOp.TheVariants as unary
use Rattle.uz_core.specs.declared.machine.AddressMode.TheVariants.{Direct, Displacement, PostIncrement, PreDecrement}
use Rattle.uz_core.specs.declared.machine.SkipTest.TheVariants.{Equal, RegisterBit, IoBit}
use Rattle.uz_core.specs.declared.machine.JumpTarget.TheVariants.{Absolute, Relative, Indirect}
use Rattle.uz_core.specs.declared.machine.Effect.{Effect}
use Rattle.uz_core.specs.declared.machine.Effect.TheVariants.{NoOperation, CopyByte, CopyPair, Binary, Unary, AddToPair, Multiply, Load, Store}
use Rattle.uz_core.specs.declared.machine.Effect.TheVariants.{PushByte, PopByte, LoadProgram, WriteIoBit, WriteFlag, LoadBit, StoreBit, Branch}
use Rattle.uz_core.specs.declared.machine.Effect.TheVariants.{SkipIf, Jump, Return, Stop}

-- a number in two's complement, modulo the 32,768 words of the flash: one from `half` on is negative
abbrev pub signed_offset : ℕ → ℕ → ℕ
signed_offset half k = if nat_lt k half then k else 32768 + k - 2 * half

abbrev pub effect_of : Instr → Effect
-- Arithmetic and logic
effect_of (Add d r) = Binary (binary.Add false) d.value (Register r.value) false
effect_of (Adc d r) = Binary (binary.Add true) d.value (Register r.value) false
effect_of (Adiw d k) = AddToPair (24 + 2 * d.value) k.value false
effect_of (Sub d r) = Binary (binary.Subtract false) d.value (Register r.value) false
effect_of (Subi d k) = Binary (binary.Subtract false) (16 + d.value) (Constant k.value) false
effect_of (Sbc d r) = Binary (binary.Subtract true) d.value (Register r.value) false
effect_of (Sbci d k) = Binary (binary.Subtract true) (16 + d.value) (Constant k.value) false
effect_of (Sbiw d k) = AddToPair (24 + 2 * d.value) k.value true
effect_of (And d r) = Binary binary.And d.value (Register r.value) false
effect_of (Andi d k) = Binary binary.And (16 + d.value) (Constant k.value) false
effect_of (Or d r) = Binary binary.Or d.value (Register r.value) false
effect_of (Ori d k) = Binary binary.Or (16 + d.value) (Constant k.value) false
effect_of (Eor d r) = Binary binary.Xor d.value (Register r.value) false
effect_of (Com d) = Unary unary.Complement d.value
effect_of (Neg d) = Unary unary.Negate d.value
effect_of (Inc d) = Unary unary.Increment d.value
effect_of (Dec d) = Unary unary.Decrement d.value
effect_of (Mul d r) = Multiply d.value r.value false false false
effect_of (Muls d r) = Multiply (16 + d.value) (16 + r.value) true true false
effect_of (Mulsu d r) = Multiply (16 + d.value) (16 + r.value) true false false
effect_of (Fmul d r) = Multiply (16 + d.value) (16 + r.value) false false true
effect_of (Fmuls d r) = Multiply (16 + d.value) (16 + r.value) true true true
effect_of (Fmulsu d r) = Multiply (16 + d.value) (16 + r.value) true false true
-- Branches
effect_of (Rjmp k) = Jump (Relative (signed_offset 2048 k.value)) false
effect_of Ijmp = Jump Indirect false
effect_of (Jmp k) = Jump (Absolute k.value) false
effect_of (Rcall k) = Jump (Relative (signed_offset 2048 k.value)) true
effect_of Icall = Jump Indirect true
effect_of (Call k) = Jump (Absolute k.value) true
effect_of Ret = Return false
effect_of Reti = Return true
effect_of (Cpse d r) = SkipIf (Equal d.value r.value)
effect_of (Cp d r) = Binary (binary.Subtract false) d.value (Register r.value) true
effect_of (Cpc d r) = Binary (binary.Subtract true) d.value (Register r.value) true
effect_of (Cpi d k) = Binary (binary.Subtract false) (16 + d.value) (Constant k.value) true
effect_of (Sbrc r b) = SkipIf (RegisterBit r.value b.value false)
effect_of (Sbrs r b) = SkipIf (RegisterBit r.value b.value true)
effect_of (Sbic a b) = SkipIf (IoBit (IO_BASE + a.value) b.value false)
effect_of (Sbis a b) = SkipIf (IoBit (IO_BASE + a.value) b.value true)
effect_of (Brbs s k) = Branch s.value true (signed_offset 64 k.value)
effect_of (Brbc s k) = Branch s.value false (signed_offset 64 k.value)
-- Data transfer
effect_of (Mov d r) = CopyByte d.value (Register r.value)
effect_of (Movw d r) = CopyPair (2 * d.value) (2 * r.value)
effect_of (Ldi d k) = CopyByte (16 + d.value) (Constant k.value)
effect_of (LdX d) = Load d.value (Displacement 26 0)
effect_of (LdXInc d) = Load d.value (PostIncrement 26)
effect_of (LdXDec d) = Load d.value (PreDecrement 26)
effect_of (LdYInc d) = Load d.value (PostIncrement 28)
effect_of (LdYDec d) = Load d.value (PreDecrement 28)
effect_of (LdZInc d) = Load d.value (PostIncrement 30)
effect_of (LdZDec d) = Load d.value (PreDecrement 30)
effect_of (Ldd d y q) = Load d.value (Displacement (if nat_eq y.value 1 then 28 else 30) q.value)
effect_of (Lds d k) = Load d.value (Direct k.value)
effect_of (StX r) = Store (Displacement 26 0) r.value
effect_of (StXInc r) = Store (PostIncrement 26) r.value
effect_of (StXDec r) = Store (PreDecrement 26) r.value
effect_of (StYInc r) = Store (PostIncrement 28) r.value
effect_of (StYDec r) = Store (PreDecrement 28) r.value
effect_of (StZInc r) = Store (PostIncrement 30) r.value
effect_of (StZDec r) = Store (PreDecrement 30) r.value
effect_of (Std y q r) = Store (Displacement (if nat_eq y.value 1 then 28 else 30) q.value) r.value
effect_of (Sts k r) = Store (Direct k.value) r.value
effect_of Lpm = LoadProgram 0 false
effect_of (LpmZ d) = LoadProgram d.value false
effect_of (LpmZInc d) = LoadProgram d.value true
effect_of Spm = Stop
effect_of (In d a) = Load d.value (Direct (IO_BASE + a.value))
effect_of (Out a r) = Store (Direct (IO_BASE + a.value)) r.value
effect_of (Push r) = PushByte r.value
effect_of (Pop d) = PopByte d.value
-- Bits and bit tests
effect_of (Lsr d) = Unary unary.LogicalShiftRight d.value
effect_of (Ror d) = Unary unary.RotateRight d.value
effect_of (Asr d) = Unary unary.ArithmeticShiftRight d.value
effect_of (Swap d) = Unary unary.Swap d.value
effect_of (Bset s) = WriteFlag s.value true
effect_of (Bclr s) = WriteFlag s.value false
effect_of (Sbi a b) = WriteIoBit (IO_BASE + a.value) b.value true
effect_of (Cbi a b) = WriteIoBit (IO_BASE + a.value) b.value false
effect_of (Bst d b) = StoreBit d.value b.value
effect_of (Bld d b) = LoadBit d.value b.value
-- Control
effect_of Break = NoOperation
effect_of Nop = NoOperation
effect_of Sleep = NoOperation
effect_of Wdr = NoOperation
