-- What a recorder has seen.
use Rattle.std.specs.Prelude.{◌≡◌, ℕ, ◌^◌, ◌<◌, ◌≤◌, List, [], ◌∷◌, ◌++◌, length, Option, Some, None}
use Rattle.uz_core.specs.declared.machine.Edge.{Edge}
use Rattle.uz_scan.specs.Pictures.{end_bytes, last_row, newest_first, records, row_bytes}
use Rattle.uz_scan.specs.Scanning as scanning
use Rattle.uz_player.specs.declared.recorder.Record.{Record}
use Rattle.uz_player.specs.declared.recorder.Record.TheVariants.{Row, End}
use Rattle.uz_player.specs.declared.recorder.Recorder.{Recorder}
use Rattle.uz_player.specs.Counting.{CountsEdges}

-- a recorder has seen these edges, in the order of time
pub record HasSeen (recorder : Recorder) (seen : List Edge) : Type 0 where
  pub scanner : scanning.StandsFor recorder.scanner (newest_first seen)
  pub counts : CountsEdges recorder.counts seen

-- the bytes of a record, with the samples of its row
abbrev pub record_bytes : Option Record → List ℕ → List ℕ
record_bytes None row = []
record_bytes (Some (Row line)) row = row_bytes line row
record_bytes (Some (End frame)) row = end_bytes frame

-- the samples are those of the last line that ended, whatever edges the recorder has seen
abbrev pub IsRowOf : Recorder → List ℕ → Type 0
IsRowOf recorder row = (edges : List Edge) → HasSeen recorder edges → row ≡ last_row (newest_first edges)

-- a recorder that has seen a list of edges has now seen one more, and gives the bytes that the records have more
pub record HasTaken (new : Recorder) (seen : List Edge) (edge : Edge) (given : Option Record) : Type 0 where
  pub seen_more : HasSeen new (seen ++ edge ∷ [])
  pub clock : scanning.clock_of new.scanner ≡ edge.clock
  pub records : records (newest_first (seen ++ edge ∷ [])) ≡ records (newest_first seen) ++ record_bytes given
      (last_row (newest_first (seen ++ edge ∷ [])))

abbrev pub Takes : Recorder → Recorder → Edge → Option Record → List Edge → Type 0
Takes old new edge given seen =
    HasSeen old seen → length seen < 2 ^ 63 → scanning.clock_of old.scanner ≤ edge.clock → HasTaken new seen edge given
