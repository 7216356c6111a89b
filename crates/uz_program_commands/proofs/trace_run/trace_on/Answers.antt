use Rattle.std.proofs.Common.{ap, inr, refl, Err}
use Rattle.uz_files.specs.declared.status.Status.TheVariants.{NoMemory}
use Rattle.uz_files.proofs.FaultLemmas.{rose_later}
use Rattle.uz_program_commands.proofs.TraceAnswerLemmas.{trace_lacks, trace_outcome, trace_unwritten}
use Rattle.uz_program_commands.proofs.trace_run.trace_on.Goals as goal

pub returns-in-Ok-clause-outcome : goal.returns-in-Ok-clause-outcome
returns-in-Ok-clause-outcome g c = λ files after load_old load_new write_old write_new hex pads irq same starts.
    trace_outcome files after _ _ _ hex pads irq c.args.clocks c.args.console.now c.in-Ok.run_end c.end_run.result _ _ _ same
    (λ fault. inr (rose_later (g.K.Sink.faults c.args.out.now) (g.K.Sink.faults c.print_run.new.out) (g.K.Sink.faults c.end_run.new.out)
    c.print_run.ensures.faults fault))
    starts c.in-Ok.ensures.ok c.end_run.ensures.comes

pub returns-in-Err-Failed-clause-outcome : goal.returns-in-Err-Failed-clause-outcome
returns-in-Err-Failed-clause-outcome g c = λ files after load_old load_new write_old write_new hex pads irq same starts.
    trace_unwritten files after _ _ hex pads irq c.args.clocks c.args.console.now _ _ _ same
    (inr (c.in-Err-Failed.ensures.failed (ap Err c.in-Err-Failed.field-0-is))) refl starts c.in-Err-Failed.ensures.err

pub returns-in-Err-Memory-clause-outcome : goal.returns-in-Err-Memory-clause-outcome
returns-in-Err-Memory-clause-outcome g c = λ files after load_old load_new write_old write_new hex pads irq same starts.
    trace_lacks files after _ _ hex pads irq c.args.clocks c.args.console.now NoMemory _ _ same refl starts c.in-Err-Memory.ensures.err
