use Rattle.std.proofs.Common.{subst, sym}
use Rattle.uz_core.specs.PadLine.{with_level}
use Rattle.uz_pads.specs.Pads.{StandsFor}
use Rattle.uz_pads.proofs.History.{stands_after}
use Rattle.uz_pads.proofs.pads.Pads.levels.Goals as goal

pub returns-clause-stands : goal.returns-clause-stands
returns-clause-stands c = λ history h. subst (λ p. StandsFor p (with_level c.args.porta history)) (sym c.take_level.ensures)
    (stands_after c.args.self.now history c.args.porta h)
