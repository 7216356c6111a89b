use Rattle.uz_shelf.specs.Faults.{Rose}
use Rattle.uz_files.proofs.WorkLemmas.{finished}
use Rattle.uz_program_commands.specs.MacroCommands.{BuildAnswers, IsBuilt}
use Rattle.uz_program_commands.proofs.MacroLemmas.{build_worth, macro_prepared}
use Rattle.uz_program_commands.proofs.macro_commands.run_build.Goals as goal

pub returns-clause-outcome : goal.returns-clause-outcome
returns-clause-outcome g c =
    let files = g.H.Shelf.files c.args.shelf.now in
    let loads = g.H.Shelf.load_faults c.args.shelf.now in
    finished (λ n. BuildAnswers files (Rose loads n) c.args.source.now c.args.hex.now) c.args.hex.now c.prepare_build-work.result files
    _ _ _ _ _ _ _ _ _ _ _ _ c.prepare_build-work.ensures.files c.prepare_build-work.ensures.write_faults c.finish_work.ensures.load_faults
    (macro_prepared files _ c.args.source.now c.args.hex.now (IsBuilt c.args.hex.now) c.prepare_build-work.result c.prepare_build-work.ensures.work
    c.prepare_build-work.ensures.fails)
    c.finish_work.ensures.outcome

pub returns-clause-built : goal.returns-clause-built
returns-clause-built g c = λ done.
    build_worth (g.H.Shelf.files c.args.shelf.now) _ _ c.args.source.now c.args.hex.now c.prepare_build-work.result
    c.prepare_build-work.ensures.image (c.finish_work.ensures.written done)
