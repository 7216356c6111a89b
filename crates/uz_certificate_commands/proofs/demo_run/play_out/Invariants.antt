use Rattle.std.proofs.Common.{◌≡◌, []}
use Rattle.uz_core.specs.PadLine.{PadHistory}
use Rattle.uz_core.specs.Turn.{State}
use Rattle.uz_player.specs.Playing.{Plays, ahead_of, cert_of, limit_of}
use Rattle.uz_certificate_commands.specs.DemoValues.{IsPlaying}
use Rattle.uz_certificate_commands.proofs.demo_run.play_out.Given as goal

abbrev pub invariant-records : goal.invariant-records
invariant-records l = record {
  plays : (start : State PadHistory) → Plays l.initial.player start [] → IsPlaying l.player start;
  cert : cert_of l.player ≡ cert_of l.initial.player;
  limit : limit_of l.player ≡ limit_of l.initial.player;
}

abbrev pub decreases-records : goal.decreases-records
decreases-records l = ahead_of l.player
