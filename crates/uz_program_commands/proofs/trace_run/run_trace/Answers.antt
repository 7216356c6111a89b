use Rattle.std.proofs.Common.{inr}
use Rattle.uz_program_commands.proofs.TraceAnswerLemmas.{trace_failed}
use Rattle.uz_program_commands.proofs.trace_run.run_trace.Goals as goal

pub returns-in-Ok-clause-outcome : goal.returns-in-Ok-clause-outcome
returns-in-Ok-clause-outcome g c =
    c.trace_on.ensures.outcome _ _ _ _ _ _ c.args.input.now.hex.now c.args.input.now.pads.now c.args.input.now.irq
    c.reset_console.ensures.files
    c.in-Ok.ensures.starts

pub returns-in-Err-clause-outcome : goal.returns-in-Err-clause-outcome
returns-in-Err-clause-outcome g c =
    trace_failed _ _ _ _ _ c.args.input.now.hex.now c.args.input.now.pads.now c.args.input.now.irq c.args.input.now.clocks c.in-Err.failure
    c.give_up.result _ _
    c.reset_console.ensures.files inr c.in-Err.ensures.fails c.give_up.ensures.comes
