use Rattle.std.proofs.Common.{◌⊎◌, ap, inl, inr, refl, subst, Err}
use Rattle.uz_shelf.specs.Faults.{Rose}
use Rattle.uz_files.specs.Answers.{WritesFile}
use Rattle.uz_files.specs.Writing.{WritesSome}
use Rattle.uz_files.specs.declared.status.Status.TheVariants.{NoMemory}
use Rattle.uz_files.proofs.TextLemmas.{takes_none}
use Rattle.uz_files.proofs.WorkLemmas.{work_cut, work_done, work_lacks}
use Rattle.uz_files.proofs.work.write_work.Goals as goal

pub returns-in-Ok-clause-outcome : goal.returns-in-Ok-clause-outcome
returns-in-Ok-clause-outcome g c =
    let written = subst (λ bytes. WritesFile (g.H.Shelf.files c.args.shelf.now) c.args.name.now bytes
    (g.H.Shelf.files c.write_file.new.shelf)) c.as_slice.ensures.value c.in-Ok.ensures.ok in
    work_done (g.H.Shelf.files c.args.shelf.now) (g.H.Shelf.files c.write_file.new.shelf) c.args.name.now c.args.work c.end_with.result
    (Rose (g.K.Sink.faults c.args.out.now) (g.K.Sink.faults c.end_with.new.out))
    (Rose (g.H.Shelf.write_faults c.args.shelf.now) (g.H.Shelf.write_faults c.write_file.new.shelf) ⊎ Rose (g.K.Sink.faults c.args.out.now)
    (g.K.Sink.faults c.end_with.new.out))
    (g.K.Sink.text c.args.out.now) (g.K.Sink.text c.end_with.new.out) inr written c.end_with.ensures.comes

pub returns-in-Err-Failed-clause-outcome : goal.returns-in-Err-Failed-clause-outcome
returns-in-Err-Failed-clause-outcome g c =
    let part = subst (λ bytes. WritesSome (g.H.Shelf.files c.args.shelf.now) c.args.name.now bytes (g.H.Shelf.files c.write_file.new.shelf))
    c.as_slice.ensures.value c.in-Err-Failed.ensures.err in
    work_cut (g.H.Shelf.files c.args.shelf.now) (g.H.Shelf.files c.write_file.new.shelf) c.args.name.now c.args.work _
    (Rose (g.H.Shelf.write_faults c.args.shelf.now) (g.H.Shelf.write_faults c.write_file.new.shelf) ⊎ Rose (g.K.Sink.faults c.args.out.now)
    (g.K.Sink.faults c.args.out.now)) (g.K.Sink.text c.args.out.now)
    (inl (c.in-Err-Failed.ensures.failed (ap Err c.in-Err-Failed.field-0-is))) refl part

pub returns-clause-outcome : goal.returns-clause-outcome
returns-clause-outcome g c =
    let part = subst (λ bytes. WritesSome (g.H.Shelf.files c.args.shelf.now) c.args.name.now bytes (g.H.Shelf.files c.write_file.new.shelf))
    c.as_slice.ensures.value c.in-Err-Memory.ensures.err in
    work_lacks (g.H.Shelf.files c.args.shelf.now) (g.H.Shelf.files c.write_file.new.shelf) c.args.name.now c.args.work NoMemory
    (Rose (g.H.Shelf.write_faults c.args.shelf.now) (g.H.Shelf.write_faults c.write_file.new.shelf) ⊎ Rose (g.K.Sink.faults c.args.out.now)
    (g.K.Sink.faults c.args.out.now))
    (g.K.Sink.text c.args.out.now) (g.K.Sink.text c.args.out.now) refl (takes_none (g.K.Sink.text c.args.out.now)) part

pub returns-in-Ok-clause-written : goal.returns-in-Ok-clause-written
returns-in-Ok-clause-written g c = λ done.
    subst (λ bytes. WritesFile (g.H.Shelf.files c.args.shelf.now) c.args.name.now bytes (g.H.Shelf.files c.write_file.new.shelf))
    c.as_slice.ensures.value c.in-Ok.ensures.ok
