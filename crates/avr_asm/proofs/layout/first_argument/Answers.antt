use Rattle.std.proofs.Common.{◌∙◌, arith}
use Rattle.avr_asm.proofs.LayoutLemmas.{arguments_told, first_there, first_missing}
use Rattle.avr_asm.proofs.layout.first_argument.Goals as goal

pub text_of-requires : goal.text_of-requires
text_of-requires c = c.arguments_of.ensures.lie 0 _ (omega arith)

pub returns-in-len1-up : goal.returns-in-len1-up
returns-in-len1-up c =
    c.text_of.ensures
    ∙ first_there c.args.line.now _ _ _ c.in-len1-up.len_at_least (arguments_told c.args.line.now c.args.tokens.now _ _ _
    c.body_of-body.ensures.body c.action_of.ensures c.arguments_of.ensures.arguments)

pub returns-in-empty : goal.returns-in-empty
returns-in-empty c = first_missing c.args.line.now _ _ (omega arith) (arguments_told c.args.line.now c.args.tokens.now _ _ _
    c.body_of-body.ensures.body c.action_of.ensures c.arguments_of.ensures.arguments)
