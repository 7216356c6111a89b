use Rattle.std.proofs.Common.{sym, ◌∙◌, arith}
use Rattle.uz_explanations.proofs.TurnLemmas.{again, not_again, none_again}
use Rattle.uz_explanations.proofs.turns.stretch.Goals as goal

pub returns-then-comes_again : goal.returns-then-comes_again
returns-then-comes_again c = again c.args.trail.now c.args.i c.loop-tried.tried _ c.loop-tried-test.true
    (sym c.comes_again.ensures ∙ c.if-comes_again.true) c.loop-tried.invariant

pub loop-tried-preserved : goal.loop-tried-preserved
loop-tried-preserved c = not_again c.args.trail.now c.args.i c.loop-tried.tried _ c.loop-tried-test.true
    (sym c.comes_again.ensures ∙ c.if-comes_again.false) c.loop-tried.invariant

pub returns : goal.returns
returns c = none_again c.args.trail.now c.args.i c.loop-tried.tried _ (omega (arith, c.loop-tried-test.false)) c.loop-tried.invariant
