use Rattle.std.proofs.Common.{◌∙◌, ap, inl}
use Rattle.std.specs.Prelude.{Err}
use Rattle.uz_search.specs.declared.found.NotFound.TheVariants.{Hint}
use Rattle.uz_paths.specs.Splits.{IsWhole}
use Rattle.uz_paths.proofs.FindLemmas.{complete_answer, facts_fine, ok_asked, ok_by, err_cause, no_hint, same_hint}
use Rattle.uz_paths.proofs.SplitLemmas.{none_fit}
use Rattle.uz_paths.proofs.finding.find_as.Goals as goal

pub program_of-requires-clause-facts : goal.program_of-requires-clause-facts
program_of-requires-clause-facts c = facts_fine c.args.image.now c.args.irq c.args.hints.now c.in-Ok.reading c.in-Ok.ensures.read

pub returns-clause-asked : goal.returns-clause-asked
returns-clause-asked c =
    ok_asked IsWhole c.args.image.now c.args.irq c.args.hints.now c.in-Ok.reading c.in_ok-program.program c.in_ok-program.entry c.find_by.result
    c.in-Ok.ensures.read
    (c.in_ok-program.ensures.program c.args.image.now c.args.irq c.in-Ok.ensures.read)
    (c.in_ok-program.ensures.splits ∙ c.new.ensures.items) c.in_ok-program.ensures.head
    c.in_ok-program.ensures.entry c.find_by.ensures.found

pub returns-clause-cause : goal.returns-clause-cause
returns-clause-cause c =
    err_cause c.args.version c.args.image.now c.args.irq c.args.hints.now c.in_ok-program.program c.find_by.result
    (c.in_ok-program.ensures.program c.args.image.now c.args.irq c.in-Ok.ensures.read)
    (ap (λ h. h.version) c.in_ok-program.ensures.head ∙ c.in-Ok.ensures.version)
    (c.in_ok-program.ensures.splits ∙ c.new.ensures.items) c.find_by.ensures.cause

pub returns-clause-version : goal.returns-clause-version
returns-clause-version c =
    ok_by c.args.version c.args.image.now c.in_ok-program.program c.in_ok-program.entry c.find_by.result
    (ap (λ h. h.version) c.in_ok-program.ensures.head ∙ c.in-Ok.ensures.version) c.find_by.ensures.found

pub returns-clause-hint : goal.returns-clause-hint
returns-clause-hint c = λ index refused. absurd (no_hint c.in-Ok.reading index (c.in-Ok.ensures.exact index refused))

pub returns-clause-complete : goal.returns-clause-complete
returns-clause-complete c =
    complete_answer c.args.version c.args.image.now c.args.irq c.args.hints.now c.find_by.result
    (err_cause c.args.version c.args.image.now c.args.irq c.args.hints.now c.in_ok-program.program c.find_by.result
    (c.in_ok-program.ensures.program c.args.image.now c.args.irq c.in-Ok.ensures.read)
    (ap (λ h. h.version) c.in_ok-program.ensures.head ∙ c.in-Ok.ensures.version)
    (c.in_ok-program.ensures.splits ∙ c.new.ensures.items) c.find_by.ensures.cause)

pub returns-in-Err-clause-complete : goal.returns-in-Err-clause-complete
returns-in-Err-clause-complete c = complete_answer c.args.version c.args.image.now c.args.irq c.args.hints.now (Err (Hint c.in-Err.index))
    c.in-Err.ensures.refused

pub returns-in-Err-clause-hint : goal.returns-in-Err-clause-hint
returns-in-Err-clause-hint c = λ index refused. inl (same_hint c.in-Err.index index (c.in-Err.ensures.exact index refused))

pub find_by-requires-clause-splits : goal.find_by-requires-clause-splits
find_by-requires-clause-splits c = none_fit c.in_ok-program.program (c.in_ok-program.ensures.splits ∙ c.new.ensures.items)
