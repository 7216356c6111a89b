use Rattle.std.specs.Prelude.{Err, None}
use Rattle.std.proofs.Common.{inr}
use Rattle.uz_files.proofs.EndingLemmas.{holds_if_done}
use Rattle.uz_files.proofs.WorkLemmas.{work_failed, work_given, work_written}
use Rattle.uz_files.proofs.work.finish_work.Goals as goal

pub returns-in-Ok-clause-outcome : goal.returns-in-Ok-clause-outcome
returns-in-Ok-clause-outcome g c =
    work_given c.args.name.now c.args.prepared c.in-Ok.work c.write_work.result _ _ _ c.in-Ok.is c.write_work.ensures.outcome

pub returns-in-Ok-clause-written : goal.returns-in-Ok-clause-written
returns-in-Ok-clause-written g c = λ done.
    work_written c.args.name.now c.args.prepared c.in-Ok.work _ _ c.in-Ok.is (c.write_work.ensures.written done)

pub returns-in-Err-clause-outcome : goal.returns-in-Err-clause-outcome
returns-in-Err-clause-outcome g c =
    work_failed c.args.name.now c.args.prepared c.in-Err.failure c.give_up.result _ _ _ _ c.in-Err.is inr
    (c.give_up.ensures.comes (g.H.Shelf.files c.args.shelf.now))

pub returns-in-Err-clause-written : goal.returns-in-Err-clause-written
returns-in-Err-clause-written g c = λ done.
    absurd (holds_if_done ⊥ (Err c.in-Err.failure) c.give_up.result _ _ _ tt (c.give_up.ensures.comes None) done)
