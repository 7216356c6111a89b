use Rattle.std.proofs.Common.{arith, sym, subst}
use Rattle.uz_schedule.specs.Lines.{order_of}
use Rattle.uz_schedule.specs.Schedule.{response_clocks}
use Rattle.uz_paths.specs.Numbers.{IsFirstAfter}
use Rattle.uz_paths.proofs.NumberLemmas.{none_more, none_all, not_true}
use Rattle.uz_paths.proofs.vectors.vector_of.Goals as goal

pub loop-k-preserved : goal.loop-k-preserved
loop-k-preserved c =
    none_more (response_clocks c.args.response) (order_of c.args.schedule.now) c.args.rests.now c.loop-k.k c.index-rests-k.result
    c.args.at.now c.loop-k-test.true
    (λ first. not_true c.is_first_after.result
    (c.is_first_after.ensures.1 (subst (λ r. IsFirstAfter (response_clocks c.args.response) (order_of c.args.schedule.now) r
    c.args.at.now) (sym c.index-rests-k.is) first)) c.if-is_first_after.false)
    c.loop-k.invariant

pub returns : goal.returns
returns c = none_all (response_clocks c.args.response) (order_of c.args.schedule.now) c.args.rests.now c.loop-k.k c.args.at.now
    (omega (arith, c.loop-k-test.false)) c.loop-k.invariant
