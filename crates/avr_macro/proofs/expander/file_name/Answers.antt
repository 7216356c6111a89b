use Rattle.avr_macro.proofs.Levels.{name_told, none_named}
use Rattle.avr_macro.proofs.expander.file_name.Goals as goal

pub returns-in_ok-from_str-in-Ok : goal.returns-in_ok-from_str-in-Ok
returns-in_ok-from_str-in-Ok c =
    name_told _ _ _ c.if-bytes-eq0.false c.in-Ok.ensures.cases.0 c.in-Ok.ensures.cases.1 c.in_ok-from_str-in-Ok.ensures.ok

pub returns-in-Err : goal.returns-in-Err
returns-in-Err c = none_named c.args.bytes.now c.if-bytes-eq0.false c.in-Err.ensures.cases.0
