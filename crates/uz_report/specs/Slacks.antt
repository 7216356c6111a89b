-- The clocks that a certificate leaves to the main program.
use Rattle.std.specs.Prelude.{ℕ, ◌+◌, ◌-◌, ◌*◌, List, length, map}
use Rattle.std.specs.List.{sum_by}
use Rattle.uz_schedule.specs.declared.lines.Schedule.{Schedule}
use Rattle.uz_schedule.specs.declared.states.Rest.{Rest}
use Rattle.uz_schedule.specs.declared.certificate.Cert.{Cert}
use Rattle.uz_schedule.specs.Schedule.{length_of}
use Rattle.uz_report.specs.declared.main_time.Slack.{Slack}

-- from the handler's return to the end of its line
abbrev pub least_after : Schedule → Rest → ℕ
least_after s rest = length_of s rest.line - rest.clock

abbrev pub slack_of : Schedule → Rest → Slack
slack_of s rest = record { line = rest.line; least = least_after s rest }

-- of each rest, in the certificate's order
abbrev pub slacks_of : Cert → List Slack
slacks_of cert = map (slack_of cert.schedule) cert.rests

-- the sum over all rests
abbrev pub frame_least : Cert → ℕ
frame_least cert = sum_by (least_after cert.schedule) cert.rests

-- an interrupt is taken up to 3 clocks after its line's end, while an instruction of main ends
abbrev pub latest : ℕ
latest = 3

abbrev pub frame_most : Cert → ℕ
frame_most cert = frame_least cert + latest * length cert.rests
