-- What is counted of a run.
use Rattle.std.specs.Prelude.{◌≡◌, ℕ, ◌+◌, ◌%◌, ◌^◌, ◌<◌, ◌≤◌, Bool, true, false, List, [], ◌∷◌, if◌then◌else◌, Option, Some, None}
use Rattle.uz_core.specs.declared.machine.Edge.{Edge}
use Rattle.uz_core.specs.declared.machine.EdgeKind.{EdgeKind}
use Rattle.uz_core.specs.declared.machine.EdgeKind.TheVariants.{Sync, Pixel, Sound, Enter, Leave}
use Rattle.uz_core.specs.PadLine.{PadHistory}
use Rattle.uz_core.specs.Turn.{State}
use Rattle.uz_schedule.specs.declared.certificate.Cert.{Cert}
use Rattle.uz_schedule.specs.declared.lines.Schedule.{Schedule}
use Rattle.uz_schedule.specs.Schedule.{length_of, start_of}
use Rattle.uz_console.specs.Approaches.{EntersFirst, NeverEnters}
use Rattle.uz_scan.specs.Pictures.{end_records, newest_first, row_records}
use Rattle.uz_player.specs.declared.counts.Counts.{Counts}

abbrev pub is_sync : EdgeKind → Bool
is_sync (Sync value) = true
is_sync (Pixel value) = false
is_sync (Sound value) = false
is_sync (Enter count) = false
is_sync Leave = false

abbrev pub is_pixel : EdgeKind → Bool
is_pixel (Sync value) = false
is_pixel (Pixel value) = true
is_pixel (Sound value) = false
is_pixel (Enter count) = false
is_pixel Leave = false

abbrev pub is_sound : EdgeKind → Bool
is_sound (Sync value) = false
is_sound (Pixel value) = false
is_sound (Sound value) = true
is_sound (Enter count) = false
is_sound Leave = false

-- how many edges of a list (newest first) are of a kind
abbrev pub count_of : (EdgeKind → Bool) → List Edge → ℕ
count_of is_kind [] = 0
count_of is_kind (e ∷ before) = if is_kind e.kind then count_of is_kind before + 1 else count_of is_kind before

-- the numbers with one more edge of a kind
abbrev pub with_kind : EdgeKind → Counts → Counts
with_kind (Sync value) c = record c { sync = (c.sync + 1) % 2 ^ 64 }
with_kind (Pixel value) c = record c { pixels = (c.pixels + 1) % 2 ^ 64 }
with_kind (Sound value) c = record c { sounds = (c.sounds + 1) % 2 ^ 64 }
with_kind (Enter count) c = c
with_kind Leave c = c

-- a position lies in a line of the frame
pub record IsInLine (schedule : Schedule) (position line : ℕ) : Type 0 where
  pub from : start_of schedule line ≤ position
  pub to : position < start_of schedule line + length_of schedule line

-- clock and line of the first state of a run that meets the entry condition
pub record IsEntered (cert : Cert) (limit : ℕ) (start : State PadHistory) (clock line : ℕ) : Type 0 where
  pub position : ℕ
  pub enters : EntersFirst cert limit start clock position
  pub in_line : IsInLine cert.schedule position line

-- None: no state of the run meets it
abbrev pub EntersAt : Cert → ℕ → State PadHistory → Option (ℕ × ℕ) → Type 0
EntersAt cert limit start None = NeverEnters cert limit start
EntersAt cert limit start (Some at) = IsEntered cert limit start at.0 at.1

-- the numbers of a run's edges, and of their records
pub record CountsEdges (counts : Counts) (edges : List Edge) : Type 0 where
  pub frames : counts.frames ≡ end_records (newest_first edges)
  pub rows : counts.rows ≡ row_records (newest_first edges)
  pub sync : counts.sync ≡ count_of is_sync (newest_first edges)
  pub pixels : counts.pixels ≡ count_of is_pixel (newest_first edges)
  pub sounds : counts.sounds ≡ count_of is_sound (newest_first edges)
