use Rattle.std.proofs.Common.{sym, subst}
use Rattle.uz_core.specs.OperandRanges.{EffectFits}
use Rattle.uz_core.proofs.EffectRanges.{effect_fits}
use Rattle.uz_core.proofs.effects.effect.Goals as goal

pub returns-clause-fits : goal.returns-clause-fits
returns-clause-fits c = subst EffectFits (sym c.effect_of_row.ensures) (effect_fits c.args.i.now)
