use Rattle.std.proofs.Common.{◌≡◌, ◌≤◌, List, ℕ}
use Rattle.uz_core.specs.PadLine.{PadHistory}
use Rattle.uz_core.specs.Turn.{State}
use Rattle.uz_player.specs.Playing.{Plays, ahead_of, distance_of}
use Rattle.uz_player.proofs.player.Player.advance.Given as goal

abbrev pub invariant-turns : goal.invariant-turns
invariant-turns l = record {
  plays : (start : State PadHistory) (handed : List ℕ) → Plays l.initial.self start handed → Plays l.self start handed;
  nearer : ahead_of l.self ≤ ahead_of l.initial.self;
  limit : l.self.limit ≡ l.initial.self.limit;
  cert : l.self.cert ≡ l.initial.self.cert;
}

abbrev pub decreases-turns : goal.decreases-turns
decreases-turns l = distance_of l.self
