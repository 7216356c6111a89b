use Rattle.std.proofs.Common.{rules, ◌≡◌, ◌++◌, ◌∷◌, [], sym, subst}
use Rattle.uz_core.specs.Programs.{AreReadings}
use Rattle.uz_core.proofs.Readings.{appended}
use Rattle.uz_core.proofs.program.read_all.Goals as goal

pub loop-at-preserved : goal.loop-at-preserved
loop-at-preserved c =
    let items : c.push.new.self.items ≡ c.loop-at.readings.items ++ c.read_at.result ∷ [] = search rules in (
      search rules,
      subst (λ xs. AreReadings c.args.image.now xs) (sym items) (appended c.args.image.now c.loop-at.readings.items
          c.loop-at.at c.read_at.result c.loop-at.invariant.0 c.loop-at.invariant.1 c.read_at.ensures),
    )
