use Rattle.std.proofs.Common.{◌≡◌, rules, arith}
use Rattle.uz_schedule.proofs.Starts.{start_next, length_within}
use Rattle.uz_schedule.proofs.lines.Schedule.start.Goals as goal

pub loop-before-preserved : goal.loop-before-preserved
loop-before-preserved c =
    let next = start_next c.args.self.now c.loop-before.before in
    let long = length_within c.args.self.now c.requires c.loop-before.before in
    let from : c.from-start.result ≡ c.length.result = search rules in
    record {
      is = omega (arith, next, from, c.length.ensures, c.loop-before.invariant.is);
      few = omega (arith, from, c.length.ensures, long.1, c.loop-before.invariant.few);
    }
