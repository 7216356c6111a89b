use Rattle.uz_check.proofs.Positions.{line_clocks, line_begins, frame_is, places_are, event_is, level_is}
use Rattle.uz_check.proofs.scanline_laws.scanlines_by_position.Goals as goal

pub returns : goal.returns
returns c = record {
  lengths = line_clocks;
  starts = line_begins;
  frame = frame_is;
  places = places_are;
  events = event_is;
  levels = level_is;
}
