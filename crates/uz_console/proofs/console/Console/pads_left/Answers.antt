use Rattle.std.proofs.Common.{ℕ, ◌<◌, subst}
use Rattle.uz_console.proofs.HoldLaws.{left_within}
use Rattle.uz_console.proofs.console.Console.pads_left.Goals as goal

pub returns-clause-stands : goal.returns-clause-stands
returns-clause-stands c = λ s h l. left_within c.args.self.now s h (subst (λ (n : ℕ). 0 < n) c.pads_left.ensures l)
