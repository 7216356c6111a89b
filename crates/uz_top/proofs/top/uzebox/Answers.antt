use Rattle.std.proofs.Common.{map}
use Rattle.std.specs.Prelude.{string_bytes}
use Rattle.uz_shelf.specs.Faults.{Rose}
use Rattle.uz_files.specs.Answers.{ComesOf, LoadFault, WriteFault, one_line, outside}
use Rattle.uz_files.specs.declared.status.Status.TheVariants.{Usage}
use Rattle.uz_top.specs.Topics.{usage_line}
use Rattle.uz_top.specs.Words.{command_of}
use Rattle.uz_top.proofs.TellingLemmas.{complete_free, exact_free, same_outcome, tells_answer, tells_nothing, tells_outcome}
use Rattle.uz_top.proofs.top.uzebox.Goals as goal

pub returns-in-NoMemory-clause-answered : goal.returns-in-NoMemory-clause-answered
returns-in-NoMemory-clause-answered g c =
    tells_outcome g.K.Sink.may_lack (g.H.Shelf.files c.args.shelf.now) (g.H.Shelf.files c.answer.new.shelf)
    (g.K.Sink.faults c.args.out.now) (g.K.Sink.faults c.answer.new.out) (g.K.Sink.faults c.put_no_memory.new.out)
    (g.K.Sink.text c.args.out.now) (g.K.Sink.text c.answer.new.out) (g.K.Sink.text c.put_no_memory.new.out)
    c.in-NoMemory.ensures.faults c.put_no_memory.ensures.faults c.put_no_memory.ensures.text
    (command_of (map string_bytes c.args.words.now))
    (LoadFault (g.H.Shelf.load_faults c.args.shelf.now) (g.H.Shelf.load_faults c.answer.new.shelf))
    (Rose (g.H.Shelf.write_faults c.args.shelf.now) (g.H.Shelf.write_faults c.answer.new.shelf)) c.in-NoMemory.ensures.answered

pub returns-in-NoMemory-clause-usage_line : goal.returns-in-NoMemory-clause-usage_line
returns-in-NoMemory-clause-usage_line g c = λ none.
    tells_answer g.K.Sink.may_lack (g.H.Shelf.files c.args.shelf.now) (g.H.Shelf.files c.answer.new.shelf)
    (g.K.Sink.faults c.args.out.now) (g.K.Sink.faults c.answer.new.out) (g.K.Sink.faults c.put_no_memory.new.out)
    (g.K.Sink.text c.args.out.now) (g.K.Sink.text c.answer.new.out) (g.K.Sink.text c.put_no_memory.new.out)
    c.in-NoMemory.ensures.faults c.put_no_memory.ensures.faults c.put_no_memory.ensures.text (one_line Usage usage_line)
    (c.in-NoMemory.ensures.usage_line none)

pub returns-in-NoMemory-clause-exact : goal.returns-in-NoMemory-clause-exact
returns-in-NoMemory-clause-exact g c =
    exact_free (command_of (map string_bytes c.args.words.now)) (g.H.Shelf.files c.args.shelf.now) (g.H.Shelf.files c.answer.new.shelf)
    (LoadFault (g.H.Shelf.load_faults c.args.shelf.now) (g.H.Shelf.load_faults c.answer.new.shelf))
    (WriteFault (g.H.Shelf.write_faults c.args.shelf.now) (g.H.Shelf.write_faults c.answer.new.shelf)
    (g.K.Sink.faults c.args.out.now) (g.K.Sink.faults c.put_no_memory.new.out))
    (outside (g.H.Shelf.files c.args.shelf.now) (g.K.Sink.text c.args.out.now))
    (outside (g.H.Shelf.files c.answer.new.shelf) (g.K.Sink.text c.put_no_memory.new.out))

pub returns-in-NoMemory-clause-complete : goal.returns-in-NoMemory-clause-complete
returns-in-NoMemory-clause-complete g c =
    complete_free (command_of (map string_bytes c.args.words.now)) (g.H.Shelf.files c.args.shelf.now) (g.H.Shelf.files c.answer.new.shelf)
    (LoadFault (g.H.Shelf.load_faults c.args.shelf.now) (g.H.Shelf.load_faults c.answer.new.shelf))
    (WriteFault (g.H.Shelf.write_faults c.args.shelf.now) (g.H.Shelf.write_faults c.answer.new.shelf)
    (g.K.Sink.faults c.args.out.now) (g.K.Sink.faults c.put_no_memory.new.out))

pub returns-in_default-clause-answered : goal.returns-in_default-clause-answered
returns-in_default-clause-answered g c =
    same_outcome (command_of (map string_bytes c.args.words.now)) (g.H.Shelf.files c.args.shelf.now) (g.H.Shelf.files c.answer.new.shelf)
    (LoadFault (g.H.Shelf.load_faults c.args.shelf.now) (g.H.Shelf.load_faults c.answer.new.shelf))
    (WriteFault (g.H.Shelf.write_faults c.args.shelf.now) (g.H.Shelf.write_faults c.answer.new.shelf)
    (g.K.Sink.faults c.args.out.now) (g.K.Sink.faults c.answer.new.out)) _ c.answer.result (g.K.Sink.text c.args.out.now)
    (g.K.Sink.text c.answer.new.out) c.in_default.not-NoMemory c.answer.ensures.answered

pub returns-in_default-clause-usage_line : goal.returns-in_default-clause-usage_line
returns-in_default-clause-usage_line g c = λ none.
    tells_nothing (ComesOf (one_line Usage usage_line) (Rose (g.K.Sink.faults c.args.out.now) (g.K.Sink.faults c.answer.new.out))
    c.answer.result (outside (g.H.Shelf.files c.args.shelf.now) (g.K.Sink.text c.args.out.now))) c.answer.result _
    (g.H.Shelf.files c.answer.new.shelf) (g.K.Sink.text c.answer.new.out) c.in_default.not-NoMemory (c.answer.ensures.usage_line none)
