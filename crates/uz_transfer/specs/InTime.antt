-- Whether the timer keeps time with the lines over a handler's instruction: what the reason Clock asks of it besides the rest clock.
use Rattle.std.specs.Prelude.{Bool, List, nat_eq, nat_le, nat_lt, not, suc, ◌&&◌, ◌+◌, ◌||◌}
use Rattle.uz_schedule.specs.Lines.{Lines, line_after, clock_after}
use Rattle.uz_schedule.specs.declared.states.Instance.{Instance}
use Rattle.uz_core.specs.Core.{returns_from_interrupt}
use Rattle.uz_core.specs.declared.machine.Effect.{Effect}
use Rattle.uz_transfer.specs.declared.step.Exit.{Exit}
use Rattle.uz_transfer.specs.Kinds.{is_handler}
use Rattle.uz_transfer.specs.Exits.{each_exit}
use Rattle.uz_transfer.specs.Timer.{stores_top, top_after}

-- the timer counts to the end clock as the line does: OCR1A, as it is before the instruction, is the line's last clock, or the end clock is
-- above neither. A store acts after the timer has counted
abbrev pub keeps_time : Lines → Instance → Exit → Bool
keeps_time lines inst exit =
    nat_eq (suc inst.top) (lines.length inst.line)
    || (nat_le (inst.clock + exit.clocks) inst.top && nat_lt (inst.clock + exit.clocks) (lines.length inst.line))

-- OCR1A isn't set below the timer's count, which is the clock of the line on which the store ends
abbrev pub sets_ahead : Lines → Effect → Instance → Exit → Bool
sets_ahead lines e inst exit =
    not (stores_top e inst) || nat_le (clock_after lines inst.line (inst.clock + exit.clocks)) (top_after e inst)

-- at a return OCR1A is the last clock of the line on which it ends
abbrev pub returns_with_top : Lines → Effect → Instance → Exit → Bool
returns_with_top lines e inst exit =
    not (returns_from_interrupt e) || nat_eq (suc inst.top) (lines.length (line_after lines inst.line (inst.clock + exit.clocks)))

abbrev pub is_in_time : Lines → Effect → Instance → Exit → Bool
is_in_time lines e inst exit = keeps_time lines inst exit && (sets_ahead lines e inst exit && returns_with_top lines e inst exit)

-- outside handlers the timer is free
abbrev pub clock_holds : Lines → Effect → Instance → List Exit → Bool
clock_holds lines e inst exits = not (is_handler inst.kind) || each_exit (λ exit. is_in_time lines e inst exit) exits
