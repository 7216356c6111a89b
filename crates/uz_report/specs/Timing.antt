-- What `timing` prints of a certificate: a block for each kind of line, the lines of the frame, and whether all is as NTSC has it.
use Rattle.std.specs.Prelude.{ℕ, zero, suc, List, ◌++◌, length, codes, decimal}
use Rattle.uz_schedule.specs.declared.lines.Schedule.{Schedule}
use Rattle.uz_schedule.specs.declared.certificate.Cert.{Cert}
use Rattle.uz_report.specs.KindText.{blocks_below}
use Rattle.uz_report.specs.FrameText.{frame_lines}
use Rattle.uz_report.specs.Findings.{findings}

abbrev pub last_line : ℕ → List ℕ
last_line zero = codes "ntsc ok\n"
last_line (suc n) = codes "ntsc out " ++ decimal (suc n) ++ codes "\n"

abbrev pub schedule_text : Schedule → List ℕ
schedule_text s = blocks_below s (length s.kinds) ++ frame_lines s ++ last_line (findings s)

abbrev pub timing_text : Cert → List ℕ
timing_text cert = schedule_text cert.schedule
