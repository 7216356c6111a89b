use Rattle.std.proofs.Common.{sym, ◌∙◌, arith}
use Rattle.std.proofs.lemmas.List.Sums.{prefix_len-drop_all}
use Rattle.avr_text.specs.Characters.{goes_on_line}
use Rattle.avr_text.proofs.Prefixes.{prefix_more, prefix_ends}
use Rattle.avr_text.proofs.pieces.line_len.Goals as goal

pub returns-then-not-goes_on_line-clause-rest : goal.returns-then-not-goes_on_line-clause-rest
returns-then-not-goes_on_line-clause-rest c =
    omega (
      arith,
      prefix_ends goes_on_line c.args.text.now c.loop-n.n c.loop-n-test.true
          (sym c.goes_on_line.ensures ∙ c.if-not-goes_on_line.true),
      c.loop-n.invariant,
    )

pub loop-n-preserved : goal.loop-n-preserved
loop-n-preserved c =
    omega (
      arith,
      prefix_more goes_on_line c.args.text.now c.loop-n.n c.loop-n-test.true
          (sym c.goes_on_line.ensures ∙ c.if-not-goes_on_line.false),
      c.loop-n.invariant,
    )

pub returns-clause-rest : goal.returns-clause-rest
returns-clause-rest c = omega (arith, prefix_len-drop_all goes_on_line c.args.text.now c.loop-n.n (omega arith), c.loop-n.invariant)
