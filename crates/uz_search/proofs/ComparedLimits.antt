-- What an instruction tells of a comparison stays within limits.
use Rattle.uz_search.proofs.Common.{◌≡◌, ℕ, ◌<◌, ◌+◌, ◌*◌, Bool, true, false, ◌&&◌, nat_eq, refl, if◌then◌else◌, arith, nat_tests}
use Rattle.uz_search.proofs.Common.{EffectFits, AddressMode, Direct, PostIncrement, PreDecrement, BinaryOp, Effect, AddToPair, Binary}
use Rattle.uz_search.proofs.Common.{CopyByte, CopyPair, Jump, Load, LoadBit, LoadProgram, Multiply, NoOperation, PopByte, PushByte, Store}
use Rattle.uz_search.proofs.Common.{StoreBit, Unary, WriteFlag, Operand, Constant, UnaryOp, Ends, hull, Compared, Byte, Nothing, PairResult}
use Rattle.uz_search.proofs.Common.{Value, Head, Kind, Main, Handler, Alone, Instance, is_main, address_range, exact_pair, span_of}
use Rattle.uz_search.proofs.Common.{value_at, ComparedKnown}
use Rattle.uz_core.specs.OperandRanges.{OperandFits}
use Rattle.uz_core.specs.declared.machine.Effect.TheVariants.{Return}
use Rattle.uz_core.specs.declared.machine.Operand.TheVariants.{Register}
use Rattle.uz_schedule.specs.declared.facts.Compared.TheVariants.{Pair, Result}
use Rattle.uz_search.specs.Limits.{ComparedIsThere}
use Rattle.uz_core.specs.declared.machine.BinaryOp.TheVariants.{And, Subtract}
use Rattle.uz_core.specs.declared.machine.UnaryOp.TheVariants.{Swap}
use Rattle.uz_schedule.specs.WellFormed.{AgainstFits}
use Rattle.uz_schedule.specs.declared.kinds.RuleVersion.{RuleVersion}
use Rattle.uz_schedule.specs.declared.kinds.RuleVersion.TheVariants.{Two, Three}
use Rattle.uz_transfer.specs.Compared.{against_operand, borrowed, chained, compared_after, is_three, may_be_sreg, names, past_pointer}
use Rattle.uz_transfer.specs.Compared.{told_after, told_by, unary_told, unless_named, unless_pair_named}
use Rattle.uz_search.proofs.Lists.{choose}

unnamed : (d : ℕ) (c : Compared) → ComparedIsThere c → ComparedIsThere (unless_named d c)
unnamed d c h = choose ComparedIsThere (names c d) Nothing c tt h

pair_unnamed : (d : ℕ) (c : Compared) → ComparedIsThere c → ComparedIsThere (unless_pair_named d c)
pair_unnamed d c h = unnamed (d + 1) (unless_named d c) (unnamed d c h)

pointer_unnamed : (mode : AddressMode) (c : Compared) → ComparedIsThere c → ComparedIsThere (past_pointer mode c)
pointer_unnamed (PostIncrement p) c h = pair_unnamed p c h
pointer_unnamed (PreDecrement p) c h = pair_unnamed p c h
pointer_unnamed (Direct k) c h = h
pointer_unnamed mode c h = h

source_there : (source : Operand) → OperandFits source → AgainstFits (against_operand source)
source_there (Register r) h = h
source_there (Constant k) h = omega (arith, h)

-- the register below another one isn't the last
below_last : (next d : ℕ) → next < 32 → nat_eq next (d + 1) ≡ true → d < 31
below_last next d few is = grind (arith, nat_tests)

chained_there : (next : ℕ) (source : Operand) (c : Compared) → next < 32 → OperandFits source → ComparedIsThere c
    → ComparedIsThere (chained next source c)
chained_there next (Register r) (Byte d low) few fits h = by (nat_eq next (d + 1)) refl
  where
    by : (b : Bool) → nat_eq next (d + 1) ≡ b → ComparedIsThere (if b then Pair d low r else Nothing)
    by true is = (below_last next d few is, h.1, fits)
    by false is = tt
chained_there next (Register r) Nothing few fits h = tt
chained_there next (Register r) (Pair d low high) few fits h = tt
chained_there next (Register r) (Result d k old) few fits h = tt
chained_there next (Register r) (PairResult d k old) few fits h = tt
chained_there next (Register r) (Value d) few fits h = tt
chained_there next (Constant k) c few fits h = tt

borrowed_there : (next k : ℕ) (now : Ends) (c : Compared) → next < 32 → k < 256 → ComparedIsThere c → ComparedIsThere (borrowed next k now c)
borrowed_there next k now (Result d low old) few byte h = by (nat_eq next (d + 1)) refl
  where
    by : (b : Bool) → nat_eq next (d + 1) ≡ b → ComparedIsThere (if b then PairResult d (low + 256 * k) (hull old now) else Nothing)
    by true is = (below_last next d few is, let l = h.1 in omega (arith, l, byte))
    by false is = tt
borrowed_there next k now Nothing few byte h = tt
borrowed_there next k now (Byte d source) few byte h = tt
borrowed_there next k now (Pair d low high) few byte h = tt
borrowed_there next k now (PairResult d j old) few byte h = tt
borrowed_there next k now (Value d) few byte h = tt

binary_there : (op : BinaryOp) (d : ℕ) (source : Operand) (compare : Bool) (x : Instance) → d < 32 → OperandFits source
    → ComparedIsThere x.compared → ComparedIsThere (told_by op d source compare x)
binary_there (Subtract false) d source true x few fits h = (few, source_there source fits)
binary_there (Subtract false) d (Constant k) false x few fits h = (few, omega (arith, fits))
binary_there (Subtract false) d (Register r) false x few fits h = few
binary_there (Subtract true) d source true x few fits h = chained_there d source x.compared few fits h
binary_there (Subtract true) d (Constant k) false x few fits h =
    borrowed_there d k (span_of (value_at x.regs d)) x.compared few fits h
binary_there (Subtract true) d (Register r) false x few fits h = tt
binary_there And d source true x few fits h = tt
binary_there And d source false x few fits h = few
binary_there op d source true x few fits h = tt
binary_there op d source false x few fits h = few

unary_there : (op : UnaryOp) (d : ℕ) (c : Compared) → d < 32 → ComparedIsThere c → ComparedIsThere (unary_told op d c)
unary_there Swap d c few h = unnamed d c h
unary_there op d c few h = few

told_there : (e : Effect) (x : Instance) → EffectFits e → ComparedIsThere x.compared → ComparedIsThere (told_after e x)
told_there (CopyByte d source) x fits h = unnamed d x.compared h
told_there (CopyPair d r) x fits h = pair_unnamed d x.compared h
told_there (Binary op d source compare) x fits h = binary_there op d source compare x fits.0 fits.1 h
told_there (Unary op d) x fits h = unary_there op d x.compared fits h
told_there (AddToPair d k subtract) x fits h = choose ComparedIsThere subtract (PairResult d k (exact_pair x d)) Nothing
    (fits.0.1.0, let few = fits.1 in omega (arith, few)) tt
told_there (Multiply d r d_signed r_signed shifted) x fits h = tt
told_there (Load d from) x fits h = unnamed d (past_pointer from x.compared) (pointer_unnamed from x.compared h)
told_there (Store to r) x fits h = choose ComparedIsThere (may_be_sreg (address_range to x)) Nothing (past_pointer to x.compared) tt
    (pointer_unnamed to x.compared h)
told_there (PushByte r) x fits h = tt
told_there (PopByte d) x fits h = unnamed d x.compared h
told_there (LoadProgram d increment) x fits h = unnamed d (if increment then unless_pair_named 30 x.compared else x.compared)
    (choose ComparedIsThere increment (unless_pair_named 30 x.compared) x.compared (pair_unnamed 30 x.compared h) h)
told_there (WriteFlag flag set) x fits h = tt
told_there (LoadBit d b) x fits h = unnamed d x.compared h
told_there (StoreBit d b) x fits h = tt
told_there (Jump target true) x fits h = tt
told_there (Jump target false) x fits h = h
told_there (Return from_interrupt) x fits h = tt
told_there NoOperation x fits h = h
told_there e x fits h = h

pub compared_known : (head : Head) (e : Effect) (x : Instance) → EffectFits e → ComparedKnown head.version x.kind x.compared
    → ComparedKnown head.version x.kind (compared_after head e x)
compared_known head e x fits h = by head.version x.kind h
  where
    by : (version : RuleVersion) (kind : Kind) → ComparedKnown version kind x.compared
        → ComparedKnown version kind (if is_three version && is_main kind then told_after e x else Nothing)
    by Two kind h = refl
    by Three Main h = told_there e x fits h
    by Three Handler h = refl
    by Three Alone h = refl

-- nothing is known of a comparison, whatever the rules
pub nothing_known : (version : RuleVersion) (kind : Kind) → ComparedKnown version kind Nothing
nothing_known Two kind = refl
nothing_known Three Main = tt
nothing_known Three Handler = refl
nothing_known Three Alone = refl
