use Rattle.uz_files.proofs.WriteLemmas.{appended_err, appended_ok, create_fails}
use Rattle.uz_files.proofs.writing.write_file.Goals as goal

pub returns-in-Ok-clause-ok : goal.returns-in-Ok-clause-ok
returns-in-Ok-clause-ok g c = appended_ok c.append.result _ _ _ _ c.args.name.now c.args.bytes.now c.in-Ok.ensures.ok c.in-Ok.ensures.open
    c.append.ensures.ok

pub returns-in-Ok-clause-err : goal.returns-in-Ok-clause-err
returns-in-Ok-clause-err g c = appended_err c.append.result _ _ _ _ c.args.name.now c.args.bytes.now c.in-Ok.ensures.ok c.in-Ok.ensures.open
    c.append.ensures.err

pub returns-in-Err-clause-err : goal.returns-in-Err-clause-err
returns-in-Err-clause-err g c = create_fails _ _ c.args.name.now c.args.bytes.now c.in-Err.ensures.err
