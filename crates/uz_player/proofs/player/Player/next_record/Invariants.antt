use Rattle.std.proofs.Common.{◌≡◌, ◌≤◌, ◌-◌, length, List, ℕ}
use Rattle.uz_core.specs.PadLine.{PadHistory}
use Rattle.uz_core.specs.Turn.{State}
use Rattle.uz_player.specs.Playing.{Plays, ahead_of}
use Rattle.uz_player.proofs.player.Player.next_record.Given as goal

abbrev pub invariant-loop-self : goal.invariant-loop-self
invariant-loop-self l = record {
  plays : (start : State PadHistory) (handed : List ℕ) → Plays l.initial.self start handed → Plays l.self start handed;
  nearer : ahead_of l.self ≤ ahead_of l.initial.self;
  console : l.self.console ≡ l.initial.self.console;
  limit : l.self.limit ≡ l.initial.self.limit;
  cert : l.self.cert ≡ l.initial.self.cert;
  entered : l.self.recorder.counts.entered ≡ l.initial.self.recorder.counts.entered;
}

abbrev pub decreases-loop-self : goal.decreases-loop-self
decreases-loop-self l = length l.self.page.items - l.self.next
