use Rattle.std.proofs.lemmas.List.Elements.{All-drop, All-take}
use Rattle.avr_text.specs.Tokens.{Lies}
use Rattle.avr_asm.proofs.lines.body_of.Goals as goal

pub returns-in-len2-up-clause-lie : goal.returns-in-len2-up-clause-lie
returns-in-len2-up-clause-lie c =
    let within = Lies c.args.line_len in All-take within _ _ (All-drop within 2 c.args.tokens.now c.requires)
