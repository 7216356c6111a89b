use Rattle.std.proofs.Common.{length}
use Rattle.std.proofs.lemmas.List.Elements.{All-drop, All-take}
use Rattle.avr_text.specs.Tokens.{Lies}
use Rattle.avr_asm.proofs.first_pass.equ_effect.Goals as goal

pub expression-requires : goal.expression-requires
expression-requires c =
    let within = Lies (length c.args.line.now) in All-take within _ _ (All-drop within 2 c.args.arguments.now c.requires)
