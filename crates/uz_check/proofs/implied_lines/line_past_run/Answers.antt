use Rattle.uz_check.proofs.Common.{◌-◌, arith}
use Rattle.uz_check.proofs.Covered.{implied_by_run}
use Rattle.uz_check.proofs.Runs.{run_of}
use Rattle.uz_check.proofs.implied_lines.line_past_run.Goals as goal

pub returns-clause-implied : goal.returns-clause-implied
returns-clause-implied c l low high =
    let cert = c.args.cert.now in
    let p = c.args.point.now in
    let reach = c.args.reach in
    let line = c.args.line in
    let run = run_of cert c.args.runs.now (line - 1) c.end_of_run-run.result c.requires.noted
    (omega (arith, c.requires.line, c.requires.box_fits, c.if-line-point.false)) c.end_of_run-run.ensures in
    implied_by_run cert p reach c.end_of_run-run.result line l c.requires.reach run c.if-not-reach.false
    (omega (arith, c.if-line-point.false))
    (omega (arith, c.if-line-reach.false)) low
    (omega (arith, low, high, c.max.ensures, c.min-end.ensures, c.min.ensures))
    (omega (arith, low, high, c.max.ensures, c.min-end.ensures, c.min.ensures, c.if-reach-line.false))
