use Rattle.std.proofs.Common.{arith}
use Rattle.std.proofs.lemmas.Grind.{common_steps}
use Rattle.uz_paths.proofs.HintLemmas.{ranges_more}
use Rattle.uz_paths.proofs.reading.start_registers.Goals as goal

pub loop-r-preserved : goal.loop-r-preserved
loop-r-preserved c =
    let more = ranges_more c.args.hints.now c.args.pc 0 c.loop-r.r in
    record {
      count = grind (arith, common_steps);
      first = grind (arith, common_steps, more);
    }
