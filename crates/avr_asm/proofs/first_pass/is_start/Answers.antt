use Rattle.std.proofs.Common.{arith}
use Rattle.avr_asm.proofs.ShapeLemmas.{main_start, other_start, no_start}
use Rattle.avr_asm.proofs.first_pass.is_start.Goals as goal

pub is_word-requires : goal.is_word-requires
is_word-requires c = c.requires 0 _ (omega arith)

pub is_word-requires-else-is_word : goal.is_word-requires-else-is_word
is_word-requires-else-is_word c = c.requires 0 _ (omega arith)

pub returns-then-is_word : goal.returns-then-is_word
returns-then-is_word c = main_start c.args.line.now c.args.parts.now _ _ (omega arith) c.is_word.ensures c.if-is_word.true

pub returns-else-is_word : goal.returns-else-is_word
returns-else-is_word c =
    other_start c.args.line.now c.args.parts.now _ _ _ _ (omega arith) c.is_word.ensures c.if-is_word.false c.is_word-else-is_word.ensures

pub returns-in_default : goal.returns-in_default
returns-in_default c = no_start c.args.line.now c.args.parts.now (λ two. omega (arith, two))

pub returns-in_default-2 : goal.returns-in_default-2
returns-in_default-2 c = no_start c.args.line.now c.args.parts.now (λ two. omega (arith, two))
