use Rattle.std.proofs.Common.{sym, subst}
use Rattle.avr_macro.specs.Moves.{if_move, macro_move, repeat_move, word_move}
use Rattle.avr_macro.specs.Steps.{Gives, seen_expander}
use Rattle.avr_macro.specs.Views.{seen_frame}
use Rattle.avr_macro.proofs.expander.Expander.directive.Goals as goal

pub returns-in-Macro-clause-gives : goal.returns-in-Macro-clause-gives
returns-in-Macro-clause-gives c = λ no.
    let level = seen_frame c.args.frame in
    let state = seen_expander c.args.self.now in
    let after = seen_expander c.macro_line.new.self in
    subst (λ w. Gives c.macro_line.result after (word_move w c.args.line.now level state)) (sym c.in-Macro.is)
    (subst (λ o. Gives c.macro_line.result after (macro_move o level state)) c.operands_of.ensures c.macro_line.ensures.gives)

pub returns-in-Repeat-clause-gives : goal.returns-in-Repeat-clause-gives
returns-in-Repeat-clause-gives c = λ no.
    let level = seen_frame c.args.frame in
    let state = seen_expander c.args.self.now in
    let after = seen_expander c.repeat_line.new.self in
    subst (λ w. Gives c.repeat_line.result after (word_move w c.args.line.now level state)) (sym c.in-Repeat.is)
    (subst (λ o. Gives c.repeat_line.result after (repeat_move o level state)) c.operands_of-in-Repeat.ensures
    c.repeat_line.ensures.gives)

pub returns-in-If-clause-gives : goal.returns-in-If-clause-gives
returns-in-If-clause-gives c = λ no.
    let level = seen_frame c.args.frame in
    let state = seen_expander c.args.self.now in
    let after = seen_expander c.if_line.new.self in
    subst (λ w. Gives c.if_line.result after (word_move w c.args.line.now level state)) (sym c.in-If.is)
    (subst (λ o. Gives c.if_line.result after (if_move o level state)) c.operands_of-in-If.ensures c.if_line.ensures.gives)

pub returns-in-Constant-clause-gives : goal.returns-in-Constant-clause-gives
returns-in-Constant-clause-gives c = λ no.
    subst (λ w. Gives c.constant_line.result (seen_expander c.constant_line.new.self)
    (word_move w c.args.line.now (seen_frame c.args.frame) (seen_expander c.args.self.now))) (sym c.in-Constant.is)
    c.constant_line.ensures.gives

pub returns-in-Other-clause-gives : goal.returns-in-Other-clause-gives
returns-in-Other-clause-gives c = λ no.
    subst (λ w. Gives c.other_line.result (seen_expander c.other_line.new.self)
    (word_move w c.args.line.now (seen_frame c.args.frame) (seen_expander c.args.self.now))) (sym c.in-Other.is)
    c.other_line.ensures.gives
