use Rattle.std.proofs.Common.{◌∙◌, ap}
use Rattle.uz_paths.specs.Splits.{SplitsFit}
use Rattle.uz_paths.proofs.FindLemmas.{facts_fine, ok_asked}
use Rattle.uz_paths.proofs.SplitLemmas.{registers_fit}
use Rattle.uz_paths.proofs.finding.find_split_as.Goals as goal

pub program_of-requires-clause-facts : goal.program_of-requires-clause-facts
program_of-requires-clause-facts c = facts_fine c.args.image.now c.args.irq c.args.hints.now c.in-Ok.reading c.in-Ok.ensures.read

pub find_by-requires-clause-splits : goal.find_by-requires-clause-splits
find_by-requires-clause-splits c =
    registers_fit c.in_ok-program.program c.args.splits.now c.requires.registers
    (c.in_ok-program.ensures.splits ∙ c.in-Ok-from_slice.ensures.items)
    (ap (λ h. h.version) c.in_ok-program.ensures.head ∙ c.in-Ok.ensures.version)

pub returns-clause-asked : goal.returns-clause-asked
returns-clause-asked c =
    ok_asked SplitsFit c.args.image.now c.args.irq c.args.hints.now c.in-Ok.reading c.in_ok-program.program c.in_ok-program.entry c.find_by.result
    c.in-Ok.ensures.read
    (c.in_ok-program.ensures.program c.args.image.now c.args.irq c.in-Ok.ensures.read)
    (registers_fit c.in_ok-program.program c.args.splits.now c.requires.registers
    (c.in_ok-program.ensures.splits ∙ c.in-Ok-from_slice.ensures.items)
    (ap (λ h. h.version) c.in_ok-program.ensures.head ∙ c.in-Ok.ensures.version)) c.in_ok-program.ensures.head
    c.in_ok-program.ensures.entry c.find_by.ensures.found
