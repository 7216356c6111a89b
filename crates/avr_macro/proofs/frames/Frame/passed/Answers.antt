use Rattle.std.proofs.Common.{refl}
use Rattle.avr_macro.proofs.Slices.{after_some}
use Rattle.avr_macro.proofs.Levels.{same_level}
use Rattle.avr_macro.proofs.frames.Frame.passed.Goals as goal

pub returns : goal.returns
returns c = same_level _ _ _ _ _ _ _ _ _ _ _ (after_some _ _ _ _ c.requires) refl c.place_after.ensures
