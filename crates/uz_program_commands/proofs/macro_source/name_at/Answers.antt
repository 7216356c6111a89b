use Rattle.uz_program_commands.proofs.MacroNames.{name_there, name_past}
use Rattle.uz_program_commands.proofs.macro_source.name_at.Goals as goal

pub returns-then-file-names : goal.returns-then-file-names
returns-then-file-names c = name_there c.args.names.now c.args.file c.index-names-file.result c.as_str.result.now c.if-file-names.true
    c.index-names-file.is c.as_str.ensures.value

pub returns-else-file-names : goal.returns-else-file-names
returns-else-file-names c = name_past c.args.names.now c.args.file c.if-file-names.false
