-- A console that holds buttons stands for the states in which they are held.
use Rattle.std.proofs.Common.{ℕ, ◌<◌, ◌≤◌, length, sym, ◌∙◌, ap}
use Rattle.uz_core.specs.PadLine.{PadHistory, latches}
use Rattle.uz_core.specs.Turn.{State}
use Rattle.uz_pads.specs.declared.pads.Pad.{Pad}
use Rattle.uz_pads.proofs.Holding.{holds, is_within}
use Rattle.uz_schedule.specs.Schedule.{response_clocks}
use Rattle.uz_console.specs.declared.console.Console.{Console}
use Rattle.uz_console.specs.Consoles.{StandsFor, state_of}
use Rattle.uz_console.specs.Holding.{IsHeld, holding_state, pads_left}

pub hold_stands : (old new : Console) (pad : Pad) (times : ℕ) → IsHeld pad times old new → (s : State PadHistory) → StandsFor old s
    → latches s.space.pads.levels ≤ length s.space.pads.pairs → StandsFor new (holding_state pad times s)
hold_stands old new pad times same s h l = record {
  image = h.image ∙ sym same.image;
  core = h.core ∙ sym same.core;
  bytes = h.bytes ∙ sym same.board.bytes;
  timer = h.timer ∙ sym same.board.timer;
  pads = holds (state_of old).space.pads (state_of new).space.pads pad times same.board.list same.board.state s.space.pads h.pads l;
  response = h.response ∙ ap response_clocks (sym same.response);
  is_owed = h.is_owed ∙ sym same.is_owed;
  clock = h.clock ∙ sym same.board.clock;
}

pub left_within : (c : Console) (s : State PadHistory) → StandsFor c s → 0 < pads_left c
    → latches s.space.pads.levels < length s.space.pads.pairs
left_within c s h l = is_within (state_of c).space.pads s.space.pads h.pads l
