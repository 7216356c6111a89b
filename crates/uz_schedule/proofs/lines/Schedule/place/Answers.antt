use Rattle.std.proofs.Common.{◌≡◌, ◌<◌, rules, arith}
use Rattle.uz_schedule.proofs.Starts.{length_within}
use Rattle.uz_schedule.proofs.lines.Schedule.place.Goals as goal

pub returns-then-clock-length-clause-small : goal.returns-then-clock-length-clause-small
returns-then-clock-length-clause-small c =
    let long = length_within c.args.self.now c.requires c.loop-line.line in
    let from : c.from-length.result ≡ c.length.result = search rules in
    let below : c.loop-line.clock < c.from-length.result = search rules in
    omega (arith, from, c.length.ensures, long.1, below)
