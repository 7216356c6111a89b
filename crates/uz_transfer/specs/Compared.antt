-- What the flags C, Z, N, V and S tell of main's last comparison or result, and what an instruction makes of it. By the rules of version 2,
-- and outside main, they tell nothing (this project's profile).
use Rattle.std.specs.Prelude.{Bool, false, if◌then◌else◌, nat_eq, nat_le, true, ℕ, ◌&&◌, ◌*◌, ◌+◌, ◌||◌}
use Rattle.uz_schedule.specs.Ends.{Ends, hull}
use Rattle.uz_schedule.specs.declared.facts.Against.{Against}
use Rattle.uz_schedule.specs.declared.facts.Against.TheVariants as against
use Rattle.uz_schedule.specs.declared.facts.Compared.{Compared}
use Rattle.uz_schedule.specs.declared.facts.Compared.TheVariants.{Byte, Nothing, Pair, PairResult, Result, Value}
use Rattle.uz_schedule.specs.declared.header.Head.{Head}
use Rattle.uz_schedule.specs.declared.kinds.Kind.{Kind}
use Rattle.uz_schedule.specs.declared.kinds.RuleVersion.{RuleVersion}
use Rattle.uz_schedule.specs.declared.kinds.RuleVersion.TheVariants.{Three}
use Rattle.uz_schedule.specs.declared.states.Instance.{Instance}
use Rattle.uz_core.specs.declared.machine.AddressMode.{AddressMode}
use Rattle.uz_core.specs.declared.machine.AddressMode.TheVariants.{PostIncrement, PreDecrement}
use Rattle.uz_core.specs.declared.machine.BinaryOp.{BinaryOp}
use Rattle.uz_core.specs.declared.machine.BinaryOp.TheVariants.{Subtract}
use Rattle.uz_core.specs.declared.machine.Effect.{Effect}
use Rattle.uz_core.specs.declared.machine.Effect.TheVariants.{AddToPair, Binary, CopyByte, CopyPair, Load, LoadBit, LoadProgram, Multiply}
use Rattle.uz_core.specs.declared.machine.Effect.TheVariants.{Jump, PopByte, PushByte, Return, Store, StoreBit, Unary, WriteFlag}
use Rattle.uz_core.specs.declared.machine.Operand.{Operand}
use Rattle.uz_core.specs.declared.machine.Operand.TheVariants.{Constant, Register}
use Rattle.uz_core.specs.declared.machine.UnaryOp.{UnaryOp}
use Rattle.uz_core.specs.declared.machine.UnaryOp.TheVariants.{Swap}
use Rattle.uz_transfer.specs.Kinds.{is_main}
use Rattle.uz_transfer.specs.Memory.{address_range}
use Rattle.uz_transfer.specs.Values.{exact_pair, span_of, value_at}

-- The registers that it names

abbrev pub is_operand : Against → ℕ → Bool
is_operand (against.Register r) q = nat_eq q r
is_operand (against.Constant k) q = false

abbrev pub names : Compared → ℕ → Bool
names Nothing q = false
names (Byte d source) q = nat_eq q d || is_operand source q
names (Pair d low high) q = nat_eq q d || (nat_eq q (d + 1) || (is_operand low q || nat_eq q high))
names (Result d k old) q = nat_eq q d
names (PairResult d k old) q = nat_eq q d || nat_eq q (d + 1)
names (Value d) q = nat_eq q d

-- what is left of it where register d is written
abbrev pub unless_named : ℕ → Compared → Compared
unless_named d c = if names c d then Nothing else c

-- and where the pair d is
abbrev pub unless_pair_named : ℕ → Compared → Compared
unless_pair_named d c = unless_named (d + 1) (unless_named d c)

-- a load or a store that steps its pointer writes it
abbrev pub past_pointer : AddressMode → Compared → Compared
past_pointer (PostIncrement p) c = unless_pair_named p c
past_pointer (PreDecrement p) c = unless_pair_named p c
past_pointer mode c = c

-- SREG may be at one of these addresses
abbrev pub may_be_sreg : Ends → Bool
may_be_sreg a = nat_le a.lo 0x5F && nat_le 0x5F a.hi

-- What sets it

abbrev pub against_operand : Operand → Against
against_operand (Register r) = against.Register r
against_operand (Constant k) = against.Constant k

-- CPC of the next register, behind CP or CPI
abbrev pub chained : ℕ → Operand → Compared → Compared
chained next (Register r) (Byte d low) = if nat_eq next (d + 1) then Pair d low r else Nothing
chained next source c = Nothing

-- SBCI of the next register, whose byte was in `now`, behind SUBI
abbrev pub borrowed : ℕ → ℕ → Ends → Compared → Compared
borrowed next k now (Result d low old) = if nat_eq next (d + 1) then PairResult d (low + 256 * k) (hull old now) else Nothing
borrowed next k now c = Nothing

-- by an operation on two bytes: CP and CPI, CPC, SUBI, SBCI, and those that set Z and N by their result alone
abbrev pub told_by : BinaryOp → ℕ → Operand → Bool → Instance → Compared
told_by (Subtract false) d source true inst = Byte d (against_operand source)
told_by (Subtract false) d (Constant k) false inst = Result d k (span_of (value_at inst.regs d))
told_by (Subtract false) d (Register r) false inst = Value d
told_by (Subtract true) d source true inst = chained d source inst.compared
told_by (Subtract true) d (Constant k) false inst = borrowed d k (span_of (value_at inst.regs d)) inst.compared
told_by (Subtract true) d (Register r) false inst = Nothing
told_by op d source true inst = Nothing
told_by op d source false inst = Value d

-- SWAP sets no flag
abbrev pub unary_told : UnaryOp → ℕ → Compared → Compared
unary_told Swap d c = unless_named d c
unary_told op d c = Value d

-- by an effect: what writes neither SREG nor a register that it names keeps it; pushes, calls and returns don't
abbrev pub told_after : Effect → Instance → Compared
told_after (CopyByte d source) inst = unless_named d inst.compared
told_after (CopyPair d r) inst = unless_pair_named d inst.compared
told_after (Binary op d source compare) inst = told_by op d source compare inst
told_after (Unary op d) inst = unary_told op d inst.compared
told_after (AddToPair d k subtract) inst = if subtract then PairResult d k (exact_pair inst d) else Nothing
told_after (Multiply d r d_signed r_signed shifted) inst = Nothing
told_after (Load d from) inst = unless_named d (past_pointer from inst.compared)
told_after (Store to r) inst = if may_be_sreg (address_range to inst) then Nothing else past_pointer to inst.compared
told_after (PushByte r) inst = Nothing
told_after (PopByte d) inst = unless_named d inst.compared
told_after (LoadProgram d increment) inst =
    unless_named d (if increment then unless_pair_named 30 inst.compared else inst.compared)
told_after (WriteFlag flag set) inst = Nothing
told_after (LoadBit d b) inst = unless_named d inst.compared
told_after (StoreBit d b) inst = Nothing
told_after (Jump target true) inst = Nothing
told_after (Return from_interrupt) inst = Nothing
told_after e inst = inst.compared

-- Where it is known

abbrev pub is_three : RuleVersion → Bool
is_three Three = true
is_three version = false

abbrev pub knows_comparisons : Head → Kind → Bool
knows_comparisons head kind = is_three head.version && is_main kind

abbrev pub compared_after : Head → Effect → Instance → Compared
compared_after head e inst = if knows_comparisons head inst.kind then told_after e inst else Nothing

abbrev pub with_compared : Compared → Instance → Instance
with_compared c inst = record inst { compared = c }
