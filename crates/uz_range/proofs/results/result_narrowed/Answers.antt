use Rattle.uz_range.proofs.LeftLies.{result_lies}
use Rattle.uz_range.proofs.results.result_narrowed.Goals as goal

pub returns-clause-inside : goal.returns-clause-inside
returns-clause-inside c l =
    rw c.result_by_parts.ensures (result_lies c.args.half c.args.flag c.args.is_set c.args.old c.args.k c.args.now)
