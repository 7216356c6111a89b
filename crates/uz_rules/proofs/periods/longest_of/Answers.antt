use Rattle.uz_rules.proofs.Common.{rules, ◌<◌, length}
use Rattle.uz_rules.proofs.PeriodLaws.{longest_more}
use Rattle.uz_rules.proofs.periods.longest_of.Goals as goal

pub loop-place-preserved : goal.loop-place-preserved
loop-place-preserved c =
    let place = c.loop-place.place in
    let bound : place < length c.args.facts.now = search rules in
    let longer = c.longer-longest in
    longest_more c.args.facts.now place c.loop-place.longest.exponent c.byte_exponent.result longer.result.exponent
    c.index-facts-place.result bound c.index-facts-place.is longer.ensures.so_far longer.ensures.further c.byte_exponent.ensures
    c.loop-place.invariant
