use Rattle.uz_shelf.specs.Faults.{Rose}
use Rattle.uz_certificate_commands.specs.HintedValues.{hints_seen}
use Rattle.uz_certificate_commands.specs.WhyCommand.{WhyTells}
use Rattle.uz_certificate_commands.proofs.HintedLemmas.{fails_so}
use Rattle.uz_certificate_commands.proofs.WhyLemmas.{searched_gives, searched_leads}
use Rattle.uz_certificate_commands.proofs.why_command.prepare.Goals as goal

pub returns-in-Err-clause-gives : goal.returns-in-Err-clause-gives
returns-in-Err-clause-gives g c =
    fails_so (WhyTells c.args.irq) c.args.irq (g.H.Shelf.files c.args.shelf.now) (Rose (g.H.Shelf.load_faults c.args.shelf.now)
    (g.H.Shelf.load_faults c.read_hinted.new.shelf)) c.args.hex.now c.args.hints.now c.in-Err.failure c.in-Err.ensures.fails

pub returns-clause-gives : goal.returns-clause-gives
returns-clause-gives g c =
    searched_gives (g.H.Shelf.files c.args.shelf.now) c.args.hex.now c.args.hints.now c.args.irq c.in-Ok.read.image
    (hints_seen c.in-Ok.read.hints) c.in-Ok.ensures.spelled (Rose (g.H.Shelf.load_faults c.args.shelf.now)
    (g.H.Shelf.load_faults c.read_hinted.new.shelf)) c.search.result c.search.ensures.sought c.search.ensures.lacks

pub returns-clause-certified : goal.returns-clause-certified
returns-clause-certified g c =
    searched_leads (g.H.Shelf.files c.args.shelf.now) c.args.hex.now c.args.hints.now c.args.irq c.in-Ok.read.image
    (hints_seen c.in-Ok.read.hints) c.in-Ok.ensures.spelled c.soundness.ensures.certified c.search.result c.search.ensures.sought
