use Rattle.std.proofs.Common.{◌≡◌, map, take}
use Rattle.uz_report.specs.Slacks.{slack_of}
use Rattle.uz_report.proofs.main_time.slacks.Given as goal

-- the slacks so far
abbrev pub invariant-loop-rest : goal.invariant-loop-rest
invariant-loop-rest l = l.all.items ≡ map (slack_of l.cert.schedule) (take l.rest-index l.cert.rests)
