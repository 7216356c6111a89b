use Rattle.std.proofs.Common.{◌≡◌, ℕ, ◌++◌, List}
use Rattle.uz_player.specs.Frames.{Goes, ahead_of}
use Rattle.uz_player.proofs.play.Play.frame_until.Given as goal

abbrev pub invariant-records : goal.invariant-records
invariant-records l = (bytes : List ℕ) × (l.out.items ≡ l.initial.out.items ++ bytes) × Goes l.initial.self l.self bytes

abbrev pub decreases-records : goal.decreases-records
decreases-records l = ahead_of l.until l.self
