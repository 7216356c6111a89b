-- `timing HEX CERT`: both files are read in their order, and then the pair is checked. Of an accepted one the schedule is told as a
-- person reads it.
use Rattle.std.specs.Prelude.{ℕ, List, Option}
use Rattle.uz_shelf.specs.Files.{FileMap}
use Rattle.uz_report.specs.Timing.{timing_text}
use Rattle.uz_files.specs.Answers.{Answer}
use Rattle.uz_certificate_commands.specs.PairFiles.{PairAnswers}

abbrev pub TimingAnswers : Option FileMap → Type 0 → List ℕ → List ℕ → Answer → Type 0
TimingAnswers = PairAnswers timing_text
