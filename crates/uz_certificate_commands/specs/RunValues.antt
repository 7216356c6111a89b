-- The status and the lines of a run that is captured.
use Rattle.std.specs.Prelude.{ℕ, List, ◌++◌, Option, Some, None}
use Rattle.uz_player.specs.declared.counts.Counts.{Counts}
use Rattle.uz_player.specs.declared.recording.RunEnd.{RunEnd}
use Rattle.uz_player.specs.declared.recording.RunEnd.TheVariants as end
use Rattle.uz_files.specs.declared.status.Status.{Status}
use Rattle.uz_files.specs.declared.status.Status.TheVariants.{Done, NotEntered, Stopped}
use Rattle.uz_certificate_commands.specs.Runs.{edge_numbers, entered_line, not_entered_line, numbers_line}
use Rattle.uz_files.specs.StopLines.{stopped_at_line}

abbrev pub edge_counts : Counts → List ℕ
edge_counts counts = edge_numbers counts.sync counts.pixels counts.sounds

abbrev pub counts_text : Counts → List ℕ
counts_text counts = numbers_line counts.frames counts.rows counts.sync counts.pixels counts.sounds

-- the status and the lines of a run that is captured
abbrev pub over_status : Option (ℕ × ℕ) → Status
over_status None = NotEntered
over_status (Some at) = Done

abbrev pub over_text : Option (ℕ × ℕ) → Counts → List ℕ
over_text None counts = not_entered_line
over_text (Some at) counts = entered_line at.0 at.1 ++ counts_text counts

abbrev pub end_status : RunEnd → Counts → Status
end_status end.Over counts = over_status counts.entered
end_status (end.Stopped pc word) counts = Stopped

abbrev pub end_text : RunEnd → Counts → List ℕ
end_text end.Over counts = over_text counts.entered counts
end_text (end.Stopped pc word) counts = stopped_at_line pc word
