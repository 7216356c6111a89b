use Rattle.std.proofs.Common.{◌≤◌, []}
use Rattle.uz_player.specs.Frames.{Goes, ahead_of}
use Rattle.uz_player.proofs.play.Play.advance.Given as goal

abbrev pub invariant-turns : goal.invariant-turns
invariant-turns l = record { goes : Goes l.initial.self l.self []; nearer : ahead_of l.until l.self ≤ ahead_of l.until l.initial.self }

abbrev pub decreases-turns : goal.decreases-turns
decreases-turns l = ahead_of l.until l.self
