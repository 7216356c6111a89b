-- The effects that instructions have, by the ranges and forms of their operands (AVR Instruction Set Manual).
use Rattle.std.specs.Prelude.{◌≡◌, ℕ, ◌+◌, ◌%◌, ◌<◌, ◌≤◌, Bool, true, false}
use Rattle.uz_core.specs.Addresses.{IO_BASE}
use Rattle.uz_core.specs.declared.machine.Operand.{Operand}
use Rattle.uz_core.specs.declared.machine.Operand.TheVariants.{Register, Constant}
use Rattle.uz_core.specs.declared.machine.AddressMode.{AddressMode}
use Rattle.uz_core.specs.declared.machine.AddressMode.TheVariants.{Direct, Displacement, PostIncrement, PreDecrement}
use Rattle.uz_core.specs.declared.machine.SkipTest.{SkipTest}
use Rattle.uz_core.specs.declared.machine.SkipTest.TheVariants.{Equal, RegisterBit, IoBit}
use Rattle.uz_core.specs.declared.machine.JumpTarget.{JumpTarget}
use Rattle.uz_core.specs.declared.machine.JumpTarget.TheVariants.{Absolute, Relative, Indirect}
use Rattle.uz_core.specs.declared.machine.Effect.{Effect}
use Rattle.uz_core.specs.declared.machine.Effect.TheVariants.{NoOperation, CopyByte, CopyPair, Binary, Unary, AddToPair, Multiply, Load, Store}
use Rattle.uz_core.specs.declared.machine.Effect.TheVariants.{PushByte, PopByte, LoadProgram, WriteIoBit, WriteFlag, LoadBit, StoreBit, Branch}
use Rattle.uz_core.specs.declared.machine.Effect.TheVariants.{SkipIf, Jump, Return, Stop}

-- a pair's low register: an even one
abbrev pub IsPair : ℕ → Type 0
IsPair d = (d < 31) × (d % 2 ≡ 0)

-- the pairs of ADIW and SBIW: 24, 26, 28 and 30
abbrev pub IsUpperPair : ℕ → Type 0
IsUpperPair d = (24 ≤ d) × IsPair d

-- the pointers X, Y and Z: 26, 28 and 30
abbrev pub IsPointer : ℕ → Type 0
IsPointer d = (26 ≤ d) × IsPair d

-- the data address of an I/O register that has bit instructions
abbrev pub IsBitAddress : ℕ → Type 0
IsBitAddress at = (IO_BASE ≤ at) × (at < IO_BASE + 32)

abbrev pub OperandFits : Operand → Type 0
OperandFits (Register r) = r < 32
OperandFits (Constant k) = k < 256

abbrev pub AddressModeFits : AddressMode → Type 0
AddressModeFits (Direct k) = k < 65536
AddressModeFits (Displacement p q) = IsPointer p × (q < 64)
AddressModeFits (PostIncrement p) = IsPointer p
AddressModeFits (PreDecrement p) = IsPointer p

abbrev pub SkipTestFits : SkipTest → Type 0
SkipTestFits (Equal d r) = (d < 32) × (r < 32)
SkipTestFits (RegisterBit r b set) = (r < 32) × (b < 8)
SkipTestFits (IoBit at b set) = IsBitAddress at × (b < 8)

abbrev pub JumpTargetFits : JumpTarget → Type 0
JumpTargetFits (Absolute k) = k < 32768
JumpTargetFits (Relative k) = k < 32768
JumpTargetFits Indirect = Unit {0}

-- registers 16 to 23
abbrev pub AreMiddle : ℕ → ℕ → Type 0
AreMiddle d r = (16 ≤ d) × (d < 24) × (16 ≤ r) × (r < 24)

-- The six products, by the signs of their factors and the shift: MUL has any registers, MULS those from 16 on, and
-- MULSU, FMUL, FMULS and FMULSU those from 16 to 23
abbrev pub IsProduct : ℕ → ℕ → Bool → Bool → Bool → Type 0
IsProduct d r false false false = Unit {0}
IsProduct d r true true false = (16 ≤ d) × (16 ≤ r)
IsProduct d r true false false = AreMiddle d r
IsProduct d r false false true = AreMiddle d r
IsProduct d r true true true = AreMiddle d r
IsProduct d r true false true = AreMiddle d r
IsProduct d r false true shifted = ⊥

abbrev pub EffectFits : Effect → Type 0
EffectFits NoOperation = Unit {0}
EffectFits (CopyByte d source) = (d < 32) × OperandFits source
EffectFits (CopyPair d r) = IsPair d × IsPair r
EffectFits (Binary op d source compare) = (d < 32) × OperandFits source
EffectFits (Unary op d) = d < 32
EffectFits (AddToPair d k subtract) = IsUpperPair d × (k < 64)
EffectFits (Multiply d r d_signed r_signed shifted) = (d < 32) × (r < 32) × IsProduct d r d_signed r_signed shifted
EffectFits (Load d from) = (d < 32) × AddressModeFits from
EffectFits (Store to r) = AddressModeFits to × (r < 32)
EffectFits (PushByte r) = r < 32
EffectFits (PopByte d) = d < 32
EffectFits (LoadProgram d increment) = d < 32
EffectFits (WriteIoBit at b set) = IsBitAddress at × (b < 8)
EffectFits (WriteFlag flag set) = flag < 8
EffectFits (LoadBit d b) = (d < 32) × (b < 8)
EffectFits (StoreBit d b) = (d < 32) × (b < 8)
EffectFits (Branch flag set offset) = (flag < 8) × (offset < 32768)
EffectFits (SkipIf test) = SkipTestFits test
EffectFits (Jump target call) = JumpTargetFits target
EffectFits (Return from_interrupt) = Unit {0}
EffectFits Stop = Unit {0}
