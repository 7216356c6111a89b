use Rattle.uz_check.proofs.Common.{◌≡◌, ◌-◌, length, IsRun, RunsFrom}
use Rattle.uz_check.proofs.lines.alike_runs.Given as goal

-- the lines at the frame's end are noted, and the run of the first of them is known
abbrev pub invariant-each : goal.invariant-each
invariant-each l = record {
  all : length l.runs ≡ 525;
  run : IsRun l.cert (length l.cert.schedule.lines) (length l.cert.schedule.lines - l.back) l.end;
  each : RunsFrom l.cert l.runs (length l.cert.schedule.lines - l.back);
}
