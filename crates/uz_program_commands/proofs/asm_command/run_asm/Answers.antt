use Rattle.uz_shelf.specs.Faults.{Rose}
use Rattle.uz_files.proofs.WorkLemmas.{finished}
use Rattle.uz_program_commands.specs.AsmCommand.{AsmAnswers}
use Rattle.uz_program_commands.proofs.AsmLemmas.{asm_prepared, asm_worth}
use Rattle.uz_program_commands.proofs.asm_command.run_asm.Goals as goal

pub returns-clause-outcome : goal.returns-clause-outcome
returns-clause-outcome g c =
    let files = g.H.Shelf.files c.args.shelf.now in
    let loads = g.H.Shelf.load_faults c.args.shelf.now in
    finished (λ n. AsmAnswers files (Rose loads n) c.args.source.now c.args.hex.now) c.args.hex.now c.prepare-work.result files _ _ _ _ _ _ _
    _ _ _ _ _ c.prepare-work.ensures.files c.prepare-work.ensures.write_faults c.finish_work.ensures.load_faults
    (asm_prepared files _ c.args.source.now c.args.hex.now c.prepare-work.result c.prepare-work.ensures.work c.prepare-work.ensures.fails)
    c.finish_work.ensures.outcome

pub returns-clause-assembled : goal.returns-clause-assembled
returns-clause-assembled g c = λ done.
    asm_worth (g.H.Shelf.files c.args.shelf.now) _ _ c.args.source.now c.args.hex.now c.prepare-work.result c.prepare-work.ensures.work
    (c.finish_work.ensures.written done)
