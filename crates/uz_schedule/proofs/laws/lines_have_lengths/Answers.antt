use Rattle.uz_schedule.proofs.Starts.{length_within, clocks_within, frame_some}
use Rattle.uz_schedule.proofs.laws.lines_have_lengths.Goals as goal

pub returns-clause-within : goal.returns-clause-within
returns-clause-within c = length_within

pub returns-clause-events : goal.returns-clause-events
returns-clause-events c = clocks_within

pub returns-clause-frame : goal.returns-clause-frame
returns-clause-frame c = frame_some
