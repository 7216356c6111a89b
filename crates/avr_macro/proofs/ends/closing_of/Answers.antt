use Rattle.std.proofs.Common.{◌∙◌}
use Rattle.avr_macro.proofs.BlockEnds.{closing_found}
use Rattle.avr_macro.proofs.ends.closing_of.Goals as goal

pub returns : goal.returns
returns c =
    c.closing_at_place.ensures ∙ closing_found _ _ _ c.requires c.first_from-place.ensures.place.0 c.first_from-place.ensures.place.1
