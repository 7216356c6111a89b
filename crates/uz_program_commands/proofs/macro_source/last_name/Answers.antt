use Rattle.std.proofs.Common.{◌∙◌, arith}
use Rattle.uz_program_commands.proofs.MacroNames.{last_there}
use Rattle.uz_program_commands.proofs.macro_source.last_name.Goals as goal

pub returns-in-len1-up : goal.returns-in-len1-up
returns-in-len1-up c = c.as_str.ensures.value ∙ last_there c.args.names.now c.last-item.result (omega arith) c.last-item.is
