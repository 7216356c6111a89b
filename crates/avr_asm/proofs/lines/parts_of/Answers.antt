use Rattle.std.proofs.Common.{◌∙◌, sym}
use Rattle.avr_asm.specs.Lines.{is_comma}
use Rattle.avr_asm.proofs.LineLemmas.{parts_lie, parts_some}
use Rattle.avr_asm.proofs.lines.parts_of.Goals as goal

pub returns-clause-parts : goal.returns-clause-parts
returns-clause-parts c = c.in_ok-parts.ensures ∙ sym (parts_some c.args.tokens.now c.if-tokens-eq0.false)

pub returns-clause-lie : goal.returns-clause-lie
returns-clause-lie c = parts_lie c.args.line_len is_comma c.args.tokens.now c.in_ok-parts.parts.items c.requires c.in_ok-parts.ensures
