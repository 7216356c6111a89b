use Rattle.uz_shelf.specs.Faults.{Rose}
use Rattle.uz_files.proofs.WorkLemmas.{finished}
use Rattle.uz_program_commands.specs.MacroCommands.{ExpandAnswers, IsExpanded}
use Rattle.uz_program_commands.proofs.MacroLemmas.{macro_prepared}
use Rattle.uz_program_commands.proofs.macro_commands.run_expand.Goals as goal

pub returns-clause-outcome : goal.returns-clause-outcome
returns-clause-outcome g c =
    let files = g.H.Shelf.files c.args.shelf.now in
    let loads = g.H.Shelf.load_faults c.args.shelf.now in
    finished (λ n. ExpandAnswers files (Rose loads n) c.args.source.now c.args.file.now) c.args.file.now c.prepare_expansion-work.result files
    _ _ _ _ _ _ _ _ _ _ _ _ c.prepare_expansion-work.ensures.files c.prepare_expansion-work.ensures.write_faults c.finish_work.ensures.load_faults
    (macro_prepared files _ c.args.source.now c.args.file.now (IsExpanded c.args.file.now) c.prepare_expansion-work.result c.prepare_expansion-work.ensures.work
    c.prepare_expansion-work.ensures.fails)
    c.finish_work.ensures.outcome
