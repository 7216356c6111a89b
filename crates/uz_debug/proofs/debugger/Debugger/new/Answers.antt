use Rattle.uz_schedule.specs.Schedule.{response_clocks}
use Rattle.uz_core.specs.Turn.{state_at_reset, history_at_reset}
use Rattle.uz_pads.specs.Pads.{pairs_of}
use Rattle.uz_debug.proofs.DebuggerLemmas.{begins}
use Rattle.uz_debug.proofs.debugger.Debugger.new.Goals as goal

pub returns : goal.returns
returns c =
    begins (state_at_reset c.args.image (history_at_reset (pairs_of c.args.pads.items)) (response_clocks c.args.irq))
    (record { timeline = c.in_ok-new.field-0; breakpoints = c.in_ok-none.field-0; slots = c.empty.result })
    c.in_ok-new.ensures.begins c.in_ok-new.ensures.turn c.in_ok-none.ensures c.empty.ensures
