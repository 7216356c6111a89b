use Rattle.std.proofs.Common.{sym, ◌∙◌, arith}
use Rattle.std.proofs.lemmas.List.Sums.{prefix_len-drop_all}
use Rattle.avr_text.specs.Characters.{is_word}
use Rattle.avr_text.proofs.Prefixes.{prefix_more, prefix_ends}
use Rattle.avr_text.proofs.pieces.word_len.Goals as goal

pub returns-then-not-is_word-clause-word : goal.returns-then-not-is_word-clause-word
returns-then-not-is_word-clause-word c =
    omega (
      arith,
      prefix_ends is_word c.args.text.now c.loop-n.n c.loop-n-test.true (sym c.is_word.ensures ∙ c.if-not-is_word.true),
      c.loop-n.invariant,
    )

pub loop-n-preserved : goal.loop-n-preserved
loop-n-preserved c =
    omega (
      arith,
      prefix_more is_word c.args.text.now c.loop-n.n c.loop-n-test.true (sym c.is_word.ensures ∙ c.if-not-is_word.false),
      c.loop-n.invariant,
    )

pub returns-clause-word : goal.returns-clause-word
returns-clause-word c = omega (arith, prefix_len-drop_all is_word c.args.text.now c.loop-n.n (omega arith), c.loop-n.invariant)
