-- A frame, from the state in which buttons are held.
use Rattle.std.proofs.Common.{◌≡◌, ℕ, List, ◌++◌, ap, subst, sym, ◌∙◌}
use Rattle.std.specs.Prelude.{IfOk, Result, Ok, Err}
use Rattle.uz_core.specs.declared.machine.Edge.{Edge}
use Rattle.uz_core.specs.PadLine.{PadHistory}
use Rattle.uz_core.specs.Turn.{State}
use Rattle.uz_pads.specs.declared.pads.Pad.{Pad}
use Rattle.uz_console.specs.Holding.{holding_state}
use Rattle.uz_player.specs.declared.frame.Frame.{Frame}
use Rattle.uz_player.specs.declared.play.Play.{Play}
use Rattle.uz_player.specs.Frames.{EndsIn, GoesOn, Holds, IsFrame, PlaysFrame, clock_of, end_of, left_of}

from_held : (old mid new : Play) (s : State PadHistory) (seen : List Edge) (bytes : List ℕ) → left_of mid ≡ left_of old
    → GoesOn mid new s seen bytes → GoesOn old new s seen bytes
from_held old mid new s seen bytes left g = record {
  turns = g.turns;
  edges = g.edges;
  last = g.last;
  run = g.run;
  scanned = g.scanned;
  kept = ap (λ es. es ++ g.edges) (sym left) ∙ g.kept;
  is_at = g.is_at;
  records = g.records;
}

plays_frame : (pad : Pad) (clocks until : ℕ) (old mid new : Play) (before after : List ℕ) (frame : Frame) → Holds pad 65536 old mid
    → until ≡ end_of (clock_of old) clocks → IsFrame until mid new before after frame → PlaysFrame pad clocks old new before after frame
plays_frame pad clocks until old mid new before after frame h e f = record {
  bytes = f.bytes;
  put = f.put;
  goes = λ s seen at few. from_held old mid new (holding_state pad 65536 s) seen f.bytes h.2 (f.goes (holding_state pad 65536 s) seen
      (h.0 s seen at few));
  ends = subst (λ n. EndsIn n new f.bytes frame) e f.ends;
}

pub frame_plays : {E : Type 0} → (pad : Pad) (clocks until : ℕ) (old mid new : Play) (before after : List ℕ) (result : Result Frame E)
    → Holds pad 65536 old mid → until ≡ end_of (clock_of old) clocks → IfOk result (λ frame. IsFrame until mid new before after frame)
    → IfOk result (λ frame. PlaysFrame pad clocks old new before after frame)
frame_plays pad clocks until old mid new before after (Ok frame) h e f = plays_frame pad clocks until old mid new before after frame h e f
frame_plays pad clocks until old mid new before after (Err error) h e f = f
