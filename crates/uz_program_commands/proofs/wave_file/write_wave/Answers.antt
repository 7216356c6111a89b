use Rattle.std.proofs.Common.{◌∙◌}
use Rattle.uz_program_commands.proofs.WaveFileLemmas.{head_cut, pad_cut, pad_written, samples_cut}
use Rattle.uz_program_commands.proofs.wave_file.write_wave.Goals as goal

pub returns-in-Err-clause-err : goal.returns-in-Err-clause-err
returns-in-Err-clause-err g c =
    head_cut c.args.wave.now c.head-head.result c.samples-all.result.now c.pad-pad.result.now
    (record { heads = c.head-head.ensures; alls = c.samples-all.ensures; pads = c.pad-pad.ensures }) _ c.args.name.now _ c.in-Err.ensures.err

pub returns-in-Err-append-clause-err : goal.returns-in-Err-append-clause-err
returns-in-Err-append-clause-err g c =
    samples_cut c.args.wave.now c.head-head.result c.samples-all.result.now c.pad-pad.result.now
    (record { heads = c.head-head.ensures; alls = c.samples-all.ensures; pads = c.pad-pad.ensures }) _ c.args.name.now _ _ _
    c.in-Ok.ensures.ok c.in-Ok.ensures.open c.in-Err-append.ensures.err

pub returns-in-Ok-append-clause-ok : goal.returns-in-Ok-append-clause-ok
returns-in-Ok-append-clause-ok g c =
    pad_written c.args.wave.now c.head-head.result c.samples-all.result.now c.pad-pad.result.now
    (record { heads = c.head-head.ensures; alls = c.samples-all.ensures; pads = c.pad-pad.ensures }) _ c.args.name.now
    c.append-in-Ok-append.result _ _ _ _ _ c.in-Ok.ensures.ok c.in-Ok.ensures.open c.in-Ok-append.ensures.ok
    (c.append.ensures.open_file ∙ c.in-Ok.ensures.open) c.append-in-Ok-append.ensures.ok

pub returns-in-Ok-append-clause-err : goal.returns-in-Ok-append-clause-err
returns-in-Ok-append-clause-err g c =
    pad_cut c.args.wave.now c.head-head.result c.samples-all.result.now c.pad-pad.result.now
    (record { heads = c.head-head.ensures; alls = c.samples-all.ensures; pads = c.pad-pad.ensures }) _ c.args.name.now
    c.append-in-Ok-append.result _ _ _ _ _ c.in-Ok.ensures.ok c.in-Ok.ensures.open c.in-Ok-append.ensures.ok
    (c.append.ensures.open_file ∙ c.in-Ok.ensures.open) c.append-in-Ok-append.ensures.err
