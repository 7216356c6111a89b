use Rattle.uz_join.proofs.Common.{arith, cell_span}
use Rattle.uz_join.proofs.CoverageLemmas.{map_is}
use Rattle.uz_join.proofs.facts_at.say_cells_each.Goals as goal

pub returns : goal.returns
returns c =
    let past = c.loop-i-test.false in
    λ t. map_is (cell_span c.args.line c.args.count) c.args.facts.now c.args.spans.now c.requires
    (λ k d e within. c.loop-i.invariant k d e (omega arith))
