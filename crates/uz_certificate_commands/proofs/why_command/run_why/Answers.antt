use Rattle.std.proofs.Common.{inr}
use Rattle.uz_certificate_commands.specs.WhyCommand.{HintsLead}
use Rattle.uz_files.proofs.EndingLemmas.{run_outcome, holds_if_done}
use Rattle.uz_certificate_commands.proofs.why_command.run_why.Goals as goal

pub returns-clause-outcome : goal.returns-clause-outcome
returns-clause-outcome g c =
    run_outcome _ _ c.prepare-ending.result c.finish.result _ _ _ _ _ _ inr c.prepare-ending.ensures.files
    c.prepare-ending.ensures.gives c.finish.ensures.comes

pub returns-clause-certified : goal.returns-clause-certified
returns-clause-certified g c =
    holds_if_done (HintsLead (g.H.Shelf.files c.args.shelf.now) c.args.hex.now c.args.hints.now c.args.irq) c.prepare-ending.result
    c.finish.result _ _ _
    c.prepare-ending.ensures.certified (c.finish.ensures.comes (g.H.Shelf.files c.args.shelf.now))
