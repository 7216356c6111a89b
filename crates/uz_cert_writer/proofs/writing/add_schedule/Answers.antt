use Rattle.uz_cert_writer.proofs.{Common.arith, Common.common_steps, Steps.lengths_count}
use Rattle.uz_cert_writer.proofs.writing.add_schedule.Goals as goal

pub add_kinds-requires-clause-lengths : goal.add_kinds-requires-clause-lengths
add_kinds-requires-clause-lengths c =
    grind (arith, common_steps, lengths_count c.args.schedule.now.kinds c.args.schedule.now.lengths c.requires.lengths)
