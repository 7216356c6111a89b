use Rattle.std.proofs.Common.{ap, inl, inr, refl, Err}
use Rattle.uz_files.specs.declared.status.Status.TheVariants.{NoMemory}
use Rattle.uz_files.proofs.TextLemmas.{takes_none}
use Rattle.uz_certificate_commands.proofs.RunLemmas.{run_captured, run_lacks, run_unwritten}
use Rattle.uz_certificate_commands.proofs.play_run.play_on.Goals as goal

pub returns-in-Ok-clause-outcome : goal.returns-in-Ok-clause-outcome
returns-in-Ok-clause-outcome g c = λ start stands.
    run_captured c.args.cert c.args.clocks.count start _ _ c.args.frames.now _ c.end_play.result _ _ c.in-Ok.captured _ inr
    (c.in-Ok.ensures.ok start stands) c.end_play.ensures.comes

pub returns-in-Err-Failed-clause-outcome : goal.returns-in-Err-Failed-clause-outcome
returns-in-Err-Failed-clause-outcome g c = λ start stands.
    run_unwritten c.args.cert c.args.clocks.count start _ _ c.args.frames.now _ _ _ _ (c.in-Err-Failed.ensures.err start stands)
    (inl (c.in-Err-Failed.ensures.failed (ap Err c.in-Err-Failed.field-0-is))) refl refl

pub returns-in-Err-Memory-clause-outcome : goal.returns-in-Err-Memory-clause-outcome
returns-in-Err-Memory-clause-outcome g c = λ start stands.
    run_lacks c.args.cert c.args.clocks.count start _ _ c.args.frames.now _ NoMemory _ _
    (c.in-Err-Memory.ensures.err start stands) refl (takes_none (g.K.Sink.text c.args.out.now))
