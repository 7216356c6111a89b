use Rattle.std.proofs.Common.{◌≡◌, ◌≤◌, [], List, ℕ}
use Rattle.std.specs.Prelude.{Option, Some}
use Rattle.uz_core.specs.PadLine.{PadHistory}
use Rattle.uz_core.specs.Turn.{State}
use Rattle.uz_player.specs.Playing.{Plays, ahead_of, cert_of, limit_of}
use Rattle.uz_shelf.specs.Files.{FileMap, WritesFile}
use Rattle.uz_player.proofs.CaptureLaws.{IsWrittenSoFar}
use Rattle.uz_player.proofs.recording.append_records.Given as goal

abbrev pub invariant-records : goal.invariant-records
invariant-records g l = record {
  written : (start : State PadHistory) (old : Option FileMap) (name : List ℕ) → Plays l.initial.player start [] → g.H.Shelf.open_file
      l.initial.shelf ≡ Some name → WritesFile old name [] (g.H.Shelf.files l.initial.shelf) →
      IsWrittenSoFar l.player start old name (g.H.Shelf.files l.shelf);
  open_file : g.H.Shelf.open_file l.shelf ≡ g.H.Shelf.open_file l.initial.shelf;
  load_faults : g.H.Shelf.load_faults l.shelf ≡ g.H.Shelf.load_faults l.initial.shelf;
  write_faults : g.H.Shelf.write_faults l.initial.shelf ≤ g.H.Shelf.write_faults l.shelf;
  cert : cert_of l.player ≡ cert_of l.initial.player;
  limit : limit_of l.player ≡ limit_of l.initial.player;
}

abbrev pub decreases-records : goal.decreases-records
decreases-records g l = ahead_of l.player
