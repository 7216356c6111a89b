use Rattle.uz_program_commands.proofs.HintsLemmas.{none_told}
use Rattle.uz_program_commands.proofs.hints_command.tell_none.Goals as goal

pub returns : goal.returns
returns c = none_told c.args.why c.in_ok-why_none.field-0 c.requires c.in_ok-why_none.ensures
