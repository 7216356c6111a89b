use Rattle.std.proofs.Common.{subst, sym}
use Rattle.uz_pads.proofs.History.{stands_again}
use Rattle.uz_pads.specs.Pads.{StandsFor}
use Rattle.uz_pads.specs.declared.pads.Pads.{Pads}
use Rattle.uz_pads.proofs.pads.Pads.set_state.Goals as goal

pub returns-clause-stands : goal.returns-clause-stands
returns-clause-stands c = λ list history h e. subst (λ (p : Pads). StandsFor p history) (sym c.take_state.ensures)
    (stands_again c.args.self.now c.args.state list history h e)
