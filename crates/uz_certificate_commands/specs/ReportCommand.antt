-- `report HEX CERT`: both files are read in their order, and then the pair is checked. Of an accepted one a line tells for each
-- rest, and one for the frame, how many clocks the main program has, least and most.
use Rattle.std.specs.Prelude.{ℕ, ◌+◌, List, [], ◌∷◌, ◌++◌, codes, decimal, Option}
use Rattle.uz_shelf.specs.Files.{FileMap}
use Rattle.uz_schedule.specs.declared.certificate.Cert.{Cert}
use Rattle.uz_report.specs.declared.main_time.Slack.{Slack}
use Rattle.uz_report.specs.Slacks.{frame_least, frame_most, latest, slacks_of}
use Rattle.uz_report.specs.MainsTime.{MainsTimeTells}
use Rattle.uz_files.specs.Answers.{Answer}
use Rattle.uz_certificate_commands.specs.PairFiles.{PairAnswers, SpellPair}

abbrev pub range_text : ℕ → ℕ → List ℕ
range_text least most = codes " least " ++ decimal least ++ codes " most " ++ decimal most ++ codes "\n"

-- from the return on a line to the next entry
abbrev pub slack_line : Slack → List ℕ
slack_line slack = codes "line " ++ decimal slack.line ++ range_text slack.least (slack.least + latest)

abbrev pub slack_lines : List Slack → List ℕ
slack_lines [] = []
slack_lines (slack ∷ slacks) = slack_line slack ++ slack_lines slacks

abbrev pub report_text : Cert → List ℕ
report_text cert = slack_lines (slacks_of cert) ++ codes "frame" ++ range_text (frame_least cert) (frame_most cert)

abbrev pub ReportAnswers : Option FileMap → Type 0 → List ℕ → List ℕ → Answer → Type 0
ReportAnswers = PairAnswers report_text

-- What a `report` that is done is worth: of the image and the certificate that the two files spell, whatever the run from a state
-- that meets the certificate's entry condition as main, the handler's entries and returns take turns, main has so many clocks from
-- each return on a line to the next entry, and from a return to the same one a frame later, a return after each rest, so many in all
abbrev pub FilesReported : Option FileMap → List ℕ → List ℕ → Type 0
FilesReported files hex cert = SpellPair files hex cert MainsTimeTells
