use Rattle.std.proofs.Common.{ap, refl}
use Rattle.std.specs.Prelude.{Err}
use Rattle.uz_files.specs.declared.status.Status.TheVariants.{NoMemory}
use Rattle.uz_files.proofs.FaultLemmas.{rose_later}
use Rattle.uz_certificate_commands.proofs.DemoLemmas.{put_failed, put_lacks, run_after}
use Rattle.uz_certificate_commands.proofs.demo_run.play_demo.Goals as goal

pub returns-in-Ok-clause-outcome : goal.returns-in-Ok-clause-outcome
returns-in-Ok-clause-outcome g c = λ start files stands.
    run_after c.args.line.now c.args.cert start _ c.end_demo.result files _ _ _ c.run_out-captured.result _
    (rose_later (g.K.Sink.faults c.args.out.now) (g.K.Sink.faults c.put.new.self) (g.K.Sink.faults c.end_demo.new.out) c.put.ensures.faults)
    (c.run_out-captured.ensures start stands) c.in-Ok.ensures.ok c.end_demo.ensures.comes

pub returns-in-Err-Failed-clause-outcome : goal.returns-in-Err-Failed-clause-outcome
returns-in-Err-Failed-clause-outcome g c = λ start files stands.
    put_failed c.args.line.now c.args.cert start _ _ files _ (g.K.Sink.text c.put.new.self) _
    (c.in-Err-Failed.ensures.failed (ap Err c.in-Err-Failed.field-0-is)) refl c.in-Err-Failed.ensures.err

pub returns-in-Err-Memory-clause-outcome : goal.returns-in-Err-Memory-clause-outcome
returns-in-Err-Memory-clause-outcome g c = λ start files stands.
    put_lacks c.args.line.now c.args.cert start _ NoMemory files _ (g.K.Sink.text c.put.new.self) _ refl c.in-Err-Memory.ensures.err
