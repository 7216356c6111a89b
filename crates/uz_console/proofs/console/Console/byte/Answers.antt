use Rattle.std.proofs.Common.{◌∙◌}
use Rattle.uz_console.proofs.TurnLemmas.{byte_is}
use Rattle.uz_console.proofs.console.Console.byte.Goals as goal

pub returns : goal.returns
returns c = record { own = c.own_byte.ensures; stands = λ s h. c.own_byte.ensures ∙ byte_is c.args.self.now s c.args.at h }
