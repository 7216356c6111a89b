use Rattle.uz_check.proofs.Covered.{covered_even}
use Rattle.uz_check.proofs.implied_lines.are_even.Goals as goal

pub returns-then-line-reach : goal.returns-then-line-reach
returns-then-line-reach c = covered_even c.args.cert.now c.args.point.now c.args.reach c.args.line c.requires.reach c.if-reach-line.true
    c.if-line-reach.true
