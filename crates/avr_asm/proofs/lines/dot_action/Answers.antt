use Rattle.std.proofs.Common.{sym, ◌∙◌, ap, arith}
use Rattle.avr_asm.specs.Lines.{directive_or_none}
use Rattle.avr_asm.proofs.LineLemmas.{dot_told}
use Rattle.avr_asm.proofs.lines.dot_action.Goals as goal

pub text_of-requires : goal.text_of-requires
text_of-requires c = c.requires 0 _ (omega arith)

pub returns-in-Some : goal.returns-in-Some
returns-in-Some c =
    ap directive_or_none (sym c.in-Some.is) ∙ dot_told _ _ _ _ _ _ c.in-len1-up.len_at_least (sym c.is_name.ensures ∙ c.if-is_name.true)
    c.text_of.ensures c.directive_of.ensures

pub returns-in-None : goal.returns-in-None
returns-in-None c =
    ap directive_or_none (sym c.in-None.is) ∙ dot_told _ _ _ _ _ _ c.in-len1-up.len_at_least (sym c.is_name.ensures ∙ c.if-is_name.true)
    c.text_of.ensures c.directive_of.ensures
