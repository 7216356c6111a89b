use Rattle.uz_shelf.specs.Faults.{Rose}
use Rattle.uz_files.proofs.WorkLemmas.{finished}
use Rattle.uz_certificate_commands.specs.MigrateCommand.{MigrateAnswers}
use Rattle.uz_certificate_commands.proofs.MigrateLemmas.{migrate_prepared, migrate_worth}
use Rattle.uz_certificate_commands.proofs.migrate_command.run_migrate.Goals as goal

pub returns-clause-outcome : goal.returns-clause-outcome
returns-clause-outcome g c =
    let files = g.H.Shelf.files c.args.shelf.now in
    let loads = g.H.Shelf.load_faults c.args.shelf.now in
    finished (λ n. MigrateAnswers files (Rose loads n) c.args.older.now c.args.newer.now) c.args.newer.now c.prepare-work.result files
    _ _ _ _ _ _ _ _ _ _ _ _ c.prepare-work.ensures.files c.prepare-work.ensures.write_faults c.finish_work.ensures.load_faults
    (migrate_prepared files _ c.args.older.now c.args.newer.now c.prepare-work.result c.prepare-work.ensures.work
    c.prepare-work.ensures.fails)
    c.finish_work.ensures.outcome

pub returns-clause-migrated : goal.returns-clause-migrated
returns-clause-migrated g c = λ done.
    migrate_worth c.migration_keeps_acceptance.ensures.kept c.migration_keeps_acceptance.ensures.rules (g.H.Shelf.files c.args.shelf.now) _ _ c.args.older.now c.args.newer.now c.prepare-work.result
    c.prepare-work.ensures.work (c.finish_work.ensures.written done)
