use Rattle.uz_check.proofs.Common.{sym}
use Rattle.uz_check.proofs.InstanceMoves.{lengths_differ}
use Rattle.uz_check.proofs.lines.same_spans.Goals as goal

pub returns-then-a-b : goal.returns-then-a-b
returns-then-a-b c = sym (lengths_differ c.args.a.now c.args.b.now c.if-a-b.true)
