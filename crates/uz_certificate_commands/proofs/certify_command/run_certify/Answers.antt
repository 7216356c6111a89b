use Rattle.std.proofs.Common.{◌⊎◌, ap, inl, inr, refl, subst, Ok, Err}
use Rattle.uz_shelf.specs.Faults.{Rose}
use Rattle.uz_files.specs.declared.status.Status.TheVariants.{NoMemory, Refused, Unwritten}
use Rattle.uz_files.specs.Answers.{WritesAll, WritesPart}
use Rattle.uz_certificate_commands.specs.CertifyValues.{IsFound, both_files}
use Rattle.uz_certificate_commands.proofs.CertifyLemmas.{certify_done, certify_failed, certify_lacks, certify_refused, certify_unwritten}
use Rattle.uz_certificate_commands.proofs.CertifyLemmas.{certify_worth}
use Rattle.uz_files.proofs.EndingLemmas.{holds_if_done}
use Rattle.uz_files.proofs.FaultLemmas.{rose_same}
use Rattle.uz_files.proofs.TextLemmas.{takes_none}
use Rattle.uz_certificate_commands.proofs.certify_command.run_certify.Goals as goal

pub returns-in-Err-clause-outcome : goal.returns-in-Err-clause-outcome
returns-in-Err-clause-outcome g c =
    certify_failed (g.H.Shelf.files c.args.shelf.now) (g.H.Shelf.files c.prepare.new.shelf) _
    (Rose (g.K.Sink.faults c.args.out.now) (g.K.Sink.faults c.give_up.new.out))
    (Rose (g.H.Shelf.write_faults c.args.shelf.now) (g.H.Shelf.write_faults c.prepare.new.shelf) ⊎ Rose (g.K.Sink.faults c.args.out.now)
    (g.K.Sink.faults c.give_up.new.out))
    c.args.source.now c.args.irq c.args.hex.now c.args.cert.now c.in-Err.failure c.give_up.result (g.K.Sink.text c.args.out.now)
    (g.K.Sink.text c.give_up.new.out)
    c.prepare.ensures.files inr c.in-Err.ensures.fails c.give_up.ensures.comes

pub returns-in-Refusal-clause-outcome : goal.returns-in-Refusal-clause-outcome
returns-in-Refusal-clause-outcome g c =
    let given = c.in-Ok.ensures.found in
    let refusal = subst (IsFound given.output.image c.args.irq given.output.hints) c.in-Refusal.is given.is in
    certify_refused (g.H.Shelf.files c.args.shelf.now) (g.H.Shelf.files c.prepare.new.shelf) _
    (Rose (g.K.Sink.faults c.args.out.now) (g.K.Sink.faults c.end_with.new.out))
    (Rose (g.H.Shelf.write_faults c.args.shelf.now) (g.H.Shelf.write_faults c.prepare.new.shelf) ⊎ Rose (g.K.Sink.faults c.args.out.now)
    (g.K.Sink.faults c.end_with.new.out))
    c.args.source.now c.args.irq c.args.hex.now c.args.cert.now (record { status = Refused; line = c.in-Refusal.line }) c.end_with.result
    (g.K.Sink.text c.args.out.now) (g.K.Sink.text c.end_with.new.out)
    c.prepare.ensures.files inr given.output given.spelled refusal refl c.end_with.ensures.comes

pub returns-in-Ok-write_both-clause-outcome : goal.returns-in-Ok-write_both-clause-outcome
returns-in-Ok-write_both-clause-outcome g c =
    let given = c.in-Ok.ensures.found in
    let pair = subst (IsFound given.output.image c.args.irq given.output.hints) c.in-Pair.is given.is in
    let first = subst (λ b. WritesAll (g.H.Shelf.files c.prepare.new.shelf)
    (both_files c.args.hex.now b c.args.cert.now c.as_slice-in-Pair.result.now) (g.H.Shelf.files c.write_both.new.shelf))
    c.as_slice.ensures.value c.in-Ok-write_both.ensures.ok in
    let written = subst (λ t. WritesAll (g.H.Shelf.files c.prepare.new.shelf) (both_files c.args.hex.now c.in-Pair.hex_bytes.items
    c.args.cert.now t) (g.H.Shelf.files c.write_both.new.shelf)) c.as_slice-in-Pair.ensures.value first in
    certify_done (g.H.Shelf.files c.args.shelf.now) (g.H.Shelf.files c.prepare.new.shelf) (g.H.Shelf.files c.write_both.new.shelf) _
    c.args.source.now c.args.irq c.args.hex.now c.args.cert.now c.in-Pair.hex_bytes.items c.in-Pair.cert_bytes.items
    c.in-Pair.line.items c.end_with-in-Ok-write_both.result c.prepare.ensures.files given.output given.spelled pair
    (Rose (g.K.Sink.faults c.args.out.now) (g.K.Sink.faults c.end_with-in-Ok-write_both.new.out))
    (Rose (g.H.Shelf.write_faults c.args.shelf.now) (g.H.Shelf.write_faults c.write_both.new.shelf) ⊎ Rose (g.K.Sink.faults c.args.out.now)
    (g.K.Sink.faults c.end_with-in-Ok-write_both.new.out))
    (g.K.Sink.text c.args.out.now) (g.K.Sink.text c.end_with-in-Ok-write_both.new.out) inr written c.end_with-in-Ok-write_both.ensures.comes

pub returns-in-Err-Failed-clause-outcome : goal.returns-in-Err-Failed-clause-outcome
returns-in-Err-Failed-clause-outcome g c =
    let given = c.in-Ok.ensures.found in
    let pair = subst (IsFound given.output.image c.args.irq given.output.hints) c.in-Pair.is given.is in
    let first = subst (λ b. WritesPart (g.H.Shelf.files c.prepare.new.shelf)
    (both_files c.args.hex.now b c.args.cert.now c.as_slice-in-Pair.result.now) (g.H.Shelf.files c.write_both.new.shelf))
    c.as_slice.ensures.value c.in-Err-Failed.ensures.err in
    let written = subst (λ t. WritesPart (g.H.Shelf.files c.prepare.new.shelf) (both_files c.args.hex.now c.in-Pair.hex_bytes.items
    c.args.cert.now t) (g.H.Shelf.files c.write_both.new.shelf)) c.as_slice-in-Pair.ensures.value first in
    certify_unwritten (g.H.Shelf.files c.args.shelf.now) (g.H.Shelf.files c.prepare.new.shelf) (g.H.Shelf.files c.write_both.new.shelf) _
    c.args.source.now c.args.irq c.args.hex.now c.args.cert.now c.in-Pair.hex_bytes.items c.in-Pair.cert_bytes.items
    c.in-Pair.line.items Unwritten c.prepare.ensures.files given.output given.spelled pair
    (Rose (g.H.Shelf.write_faults c.args.shelf.now) (g.H.Shelf.write_faults c.write_both.new.shelf) ⊎ Rose (g.K.Sink.faults c.args.out.now)
    (g.K.Sink.faults c.args.out.now)) (g.K.Sink.text c.args.out.now)
    (inl (rose_same (g.H.Shelf.write_faults c.args.shelf.now) (g.H.Shelf.write_faults c.prepare.new.shelf)
    (g.H.Shelf.write_faults c.write_both.new.shelf) c.prepare.ensures.write_faults
    (c.in-Err-Failed.ensures.failed (ap Err c.in-Err-Failed.field-0-is)))) refl written

pub returns-clause-outcome : goal.returns-clause-outcome
returns-clause-outcome g c =
    let given = c.in-Ok.ensures.found in
    let pair = subst (IsFound given.output.image c.args.irq given.output.hints) c.in-Pair.is given.is in
    let first = subst (λ b. WritesPart (g.H.Shelf.files c.prepare.new.shelf)
    (both_files c.args.hex.now b c.args.cert.now c.as_slice-in-Pair.result.now) (g.H.Shelf.files c.write_both.new.shelf))
    c.as_slice.ensures.value c.in-Err-Memory.ensures.err in
    let written = subst (λ t. WritesPart (g.H.Shelf.files c.prepare.new.shelf) (both_files c.args.hex.now c.in-Pair.hex_bytes.items
    c.args.cert.now t) (g.H.Shelf.files c.write_both.new.shelf)) c.as_slice-in-Pair.ensures.value first in
    certify_lacks (g.H.Shelf.files c.args.shelf.now) (g.H.Shelf.files c.prepare.new.shelf) (g.H.Shelf.files c.write_both.new.shelf) _
    c.args.source.now c.args.irq c.args.hex.now c.args.cert.now c.in-Pair.hex_bytes.items c.in-Pair.cert_bytes.items
    c.in-Pair.line.items NoMemory c.prepare.ensures.files given.output given.spelled pair
    (Rose (g.H.Shelf.write_faults c.args.shelf.now) (g.H.Shelf.write_faults c.write_both.new.shelf) ⊎ Rose (g.K.Sink.faults c.args.out.now)
    (g.K.Sink.faults c.args.out.now))
    (g.K.Sink.text c.args.out.now) (g.K.Sink.text c.args.out.now) refl (takes_none (g.K.Sink.text c.args.out.now)) written

pub returns-in-Err-clause-certified : goal.returns-in-Err-clause-certified
returns-in-Err-clause-certified g c = λ done apart. holds_if_done _ (Err c.in-Err.failure) c.give_up.result _ _ _ tt
    (c.give_up.ensures.comes (g.H.Shelf.files c.args.shelf.now)) done

pub returns-in-Refusal-clause-certified : goal.returns-in-Refusal-clause-certified
returns-in-Refusal-clause-certified g c = λ done apart.
    holds_if_done _ (Ok (record { status = Refused; line = c.in-Refusal.line })) c.end_with.result _ _ _ (λ refused. absurd (cc refused))
    (c.end_with.ensures.comes (g.H.Shelf.files c.args.shelf.now)) done

pub returns-in-Ok-write_both-clause-certified : goal.returns-in-Ok-write_both-clause-certified
returns-in-Ok-write_both-clause-certified g c = λ done apart.
    let given = c.in-Ok.ensures.found in
    let pair = subst (IsFound given.output.image c.args.irq given.output.hints) c.in-Pair.is given.is in
    let first = subst (λ b. WritesAll (g.H.Shelf.files c.prepare.new.shelf)
    (both_files c.args.hex.now b c.args.cert.now c.as_slice-in-Pair.result.now) (g.H.Shelf.files c.write_both.new.shelf))
    c.as_slice.ensures.value c.in-Ok-write_both.ensures.ok in
    let written = subst (λ t. WritesAll (g.H.Shelf.files c.prepare.new.shelf) (both_files c.args.hex.now c.in-Pair.hex_bytes.items
    c.args.cert.now t) (g.H.Shelf.files c.write_both.new.shelf)) c.as_slice-in-Pair.ensures.value first in
    certify_worth (g.H.Shelf.files c.args.shelf.now) (g.H.Shelf.files c.prepare.new.shelf) (g.H.Shelf.files c.write_both.new.shelf) ⊥
    c.args.source.now c.args.irq c.args.hex.now c.args.cert.now c.in-Pair.hex_bytes.items c.in-Pair.cert_bytes.items
    c.in-Pair.line.items c.end_with-in-Ok-write_both.result c.prepare.ensures.files given.output given.spelled pair
    c.soundness.ensures.certified c.text_is_unique.ensures.is_text_own apart written
