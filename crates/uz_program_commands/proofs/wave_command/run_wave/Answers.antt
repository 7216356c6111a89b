use Rattle.std.proofs.Common.{inl, inr, subst}
use Rattle.uz_files.proofs.FaultLemmas.{rose_same}
use Rattle.uz_program_commands.proofs.WaveLemmas.{wave_failed, wave_leaves, wave_stopped, wave_worth, wave_written}
use Rattle.uz_program_commands.specs.WaveValues.{IsTask}
use Rattle.uz_program_commands.proofs.wave_command.run_wave.Goals as goal

pub returns-in-Err-clause-outcome : goal.returns-in-Err-clause-outcome
returns-in-Err-clause-outcome g c =
    wave_failed _ _ _ _ _ c.args.input.now.hex.now c.args.input.now.pads.now c.args.input.now.irq c.args.input.now.clocks c.args.wav.now
    c.in-Err.failure
    c.give_up.result _ _
    c.prepare.ensures.files inr c.in-Err.ensures.fails c.give_up.ensures.comes

pub returns-in-Write-clause-outcome : goal.returns-in-Write-clause-outcome
returns-in-Write-clause-outcome g c =
    wave_written _ _ _ _ _ _ c.args.input.now.hex.now c.args.input.now.pads.now c.args.input.now.irq c.args.input.now.clocks c.args.wav.now
    c.in-Write.wave
    c.in-Write.line
    c.write_and_tell.result _ _ c.prepare.ensures.files
    (λ fault. elim fault [
      | inl rose ↦ inl (rose_same (g.H.Shelf.write_faults c.args.shelf.now) (g.H.Shelf.write_faults c.prepare.new.shelf)
          (g.H.Shelf.write_faults c.write_and_tell.new.shelf) c.prepare.ensures.write_faults rose)
      | inr rose ↦ inr rose
    ])
    (subst (IsTask (g.H.Shelf.files c.args.shelf.now) c.args.input.now.hex.now c.args.input.now.pads.now c.args.input.now.irq
    c.args.input.now.clocks)
    c.in-Write.is
    c.in-Ok.ensures.task) c.write_and_tell.ensures.comes

pub returns-in-Stop-clause-outcome : goal.returns-in-Stop-clause-outcome
returns-in-Stop-clause-outcome g c =
    wave_stopped _ _ _ _ _ c.args.input.now.hex.now c.args.input.now.pads.now c.args.input.now.irq c.args.input.now.clocks c.args.wav.now
    c.in-Stop.ending
    c.end_with.result _ _
    c.prepare.ensures.files inr
    (subst (IsTask (g.H.Shelf.files c.args.shelf.now) c.args.input.now.hex.now c.args.input.now.pads.now c.args.input.now.irq
    c.args.input.now.clocks)
    c.in-Stop.is
    c.in-Ok.ensures.task) c.end_with.ensures.comes

pub returns-in-Err-clause-heard : goal.returns-in-Err-clause-heard
returns-in-Err-clause-heard g c =
    wave_worth _ _ _ _ c.args.input.now.hex.now c.args.input.now.pads.now c.args.input.now.irq c.args.input.now.clocks c.args.wav.now _ _ _
    (returns-in-Err-clause-outcome g c)

pub returns-in-Write-clause-heard : goal.returns-in-Write-clause-heard
returns-in-Write-clause-heard g c =
    wave_worth _ _ _ _ c.args.input.now.hex.now c.args.input.now.pads.now c.args.input.now.irq c.args.input.now.clocks c.args.wav.now _ _ _
    (returns-in-Write-clause-outcome g c)

pub returns-in-Stop-clause-heard : goal.returns-in-Stop-clause-heard
returns-in-Stop-clause-heard g c =
    wave_worth _ _ _ _ c.args.input.now.hex.now c.args.input.now.pads.now c.args.input.now.irq c.args.input.now.clocks c.args.wav.now _ _ _
    (returns-in-Stop-clause-outcome g c)

pub returns-in-Write-clause-stopped : goal.returns-in-Write-clause-stopped
returns-in-Write-clause-stopped g c =
    wave_leaves _ _ _ _ c.args.input.now.hex.now c.args.input.now.pads.now c.args.input.now.irq c.args.input.now.clocks c.args.wav.now _ _ _
    (returns-in-Write-clause-outcome g c)
