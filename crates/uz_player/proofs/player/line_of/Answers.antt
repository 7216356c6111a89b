use Rattle.std.proofs.Common.{◌∙◌, arith}
use Rattle.std.proofs.Math.Nat.{mod-eq_of_lt}
use Rattle.uz_player.proofs.player.line_of.Goals as goal

pub returns-then-well_formed : goal.returns-then-well_formed
returns-then-well_formed c =
    λ fits inside.
    let clock = c.place.ensures.clock in
    let place = c.place.ensures.position ∙ mod-eq_of_lt inside in
    record { from = omega arith; to = omega arith }
