use Rattle.std.proofs.Common.{arith}
use Rattle.uz_transfer.proofs.NumberLaws.{pushed_on}
use Rattle.uz_transfer.proofs.exits.indirect.Goals as goal

pub loop-pc-preserved : goal.loop-pc-preserved
loop-pc-preserved c = record {
  all = pushed_on c.loop-pc.exits.items c.push.new.self.items _ (λ pc. record { pc = pc; clocks = c.args.clocks }) c.loop-pc.pc
      c.hi-last.result (omega arith) c.loop-pc.invariant.all c.push.ensures.items;
  few = omega arith;
}
