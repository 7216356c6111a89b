use Rattle.std.proofs.Common.{arith}
use Rattle.avr_asm.proofs.ShapeLemmas.{main_cell, handler_cell, no_cell}
use Rattle.avr_asm.proofs.first_pass.is_cell.Goals as goal

pub is_word-requires : goal.is_word-requires
is_word-requires c = c.requires 1 _ (omega arith)

pub is_word-requires-in-len5 : goal.is_word-requires-in-len5
is_word-requires-in-len5 c = c.requires 1 _ (omega arith)

pub returns-in-len4 : goal.returns-in-len4
returns-in-len4 c = main_cell c.args.line.now c.args.parts.now _ _ (omega arith) c.is_word.ensures

pub returns-in-len5 : goal.returns-in-len5
returns-in-len5 c = handler_cell c.args.line.now c.args.parts.now _ _ (omega arith) c.is_word-in-len5.ensures

pub returns-in_default : goal.returns-in_default
returns-in_default c = no_cell c.args.line.now c.args.parts.now (λ four. omega (arith, four)) (λ five. omega (arith, five))

pub returns-in_default-2 : goal.returns-in_default-2
returns-in_default-2 c = no_cell c.args.line.now c.args.parts.now (λ four. omega (arith, four)) (λ five. omega (arith, five))
