use Rattle.std.proofs.Common.{subst}
use Rattle.std.specs.Prelude.{IfOk}
use Rattle.uz_certificate_commands.specs.FindValues.{IsSoughtFor}
use Rattle.uz_certificate_commands.specs.HintedValues.{hints_seen}
use Rattle.uz_certificate_commands.proofs.FindLemmas.{found_for}
use Rattle.uz_certificate_commands.proofs.find_command.prepare.Goals as goal

pub returns-clause-found : goal.returns-clause-found
returns-clause-found g c =
    found_for (g.H.Shelf.files c.args.shelf.now) c.args.hex.now c.args.hints.now c.args.irq c.in-Ok.read.image
    (hints_seen c.in-Ok.read.hints) c.search.result c.in-Ok.ensures.spelled
    (subst (λ l. IfOk c.search.result (IsSoughtFor c.in-Ok.read.image c.args.irq l)) c.as_slice.ensures.value c.search.ensures.sought)
