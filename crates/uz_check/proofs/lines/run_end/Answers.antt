use Rattle.uz_check.proofs.Common.{sym, ◌∙◌}
use Rattle.uz_check.proofs.Runs.{run_goes_on}
use Rattle.uz_check.proofs.lines.run_end.Goals as goal

pub returns-then-lines_alike : goal.returns-then-lines_alike
returns-then-lines_alike c = run_goes_on c.args.cert.now _ c.args.line c.args.after (sym c.if-lines_alike.true ∙ c.lines_alike.ensures)
    c.requires.after
