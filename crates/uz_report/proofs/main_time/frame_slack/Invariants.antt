use Rattle.std.proofs.Common.{◌≡◌, ◌≤◌, ◌*◌, take}
use Rattle.std.specs.List.{sum_by}
use Rattle.uz_report.specs.Slacks.{least_after}
use Rattle.uz_report.proofs.main_time.frame_slack.Given as goal

-- the sum so far, of numbers of 16 bits
abbrev pub invariant-loop-rest : goal.invariant-loop-rest
invariant-loop-rest l = (l.least ≡ sum_by (least_after l.cert.schedule) (take l.rest-index l.cert.rests)) × (l.least ≤ 65535 * l.rest-index)
