use Rattle.std.proofs.Common.{◌≢◌, ap, ◌∙◌, sym}
use Rattle.uz_files.specs.declared.status.Status.TheVariants.{Unread, BadInput, NoMemory}
use Rattle.uz_files.proofs.EndingLemmas.{comes_of_file, failure_line, failure_status}
use Rattle.uz_files.proofs.ending.give_up.Goals as goal

unread_some : Unread ≢ NoMemory
unread_some e = cc

bad_some : BadInput ≢ NoMemory
bad_some e = cc

pub returns-in-Unread-clause-comes : goal.returns-in-Unread-clause-comes
returns-in-Unread-clause-comes g c = λ files.
    comes_of_file c.args.failure.now Unread c.as_slice.result.now _ _ _ _ unread_some (ap failure_status c.in-Unread.is)
    (ap failure_line c.in-Unread.is ∙ sym c.as_slice.ensures.value) (c.end_fault.ensures.comes files)

pub returns-in-BadInput-clause-comes : goal.returns-in-BadInput-clause-comes
returns-in-BadInput-clause-comes g c = λ files.
    comes_of_file c.args.failure.now BadInput c.as_slice-in-BadInput.result.now _ _ _ _ bad_some (ap failure_status c.in-BadInput.is)
    (ap failure_line c.in-BadInput.is ∙ sym c.as_slice-in-BadInput.ensures.value) (c.end_fault-in-BadInput.ensures.comes files)
