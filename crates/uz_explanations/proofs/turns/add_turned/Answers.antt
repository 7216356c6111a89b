use Rattle.std.proofs.Common.{◌+◌, arith}
use Rattle.uz_explanations.specs.Turns.{lines_from}
use Rattle.uz_explanations.proofs.TurnLemmas.{trail_over}
use Rattle.uz_explanations.proofs.PieceLemmas.{element_put}
use Rattle.uz_explanations.proofs.turns.add_turned.Goals as goal

pub returns : goal.returns
returns c read is = trail_over c.args.image.now read c.args.labels.now c.args.trail.now _ _ c.loop-i.i c.loop-i.skip
    (omega (arith, c.loop-i-test.false)) (c.loop-i.invariant read is)

pub loop-i-preserved : goal.loop-i-preserved
loop-i-preserved c read is = element_put
    (λ ys. lines_from c.args.image.now read c.args.labels.now c.args.trail.now c.loop-i.i c.loop-i.skip ys)
    (λ ys. lines_from c.args.image.now read c.args.labels.now c.args.trail.now (c.loop-i.i + 1) c.in_ok-skip.skip ys)
    c.loop-i.text.items c.add_next.new.text.items _ c.args.trail.now c.loop-i.i c.loop-i-test.true
    (λ x rest at. c.in_ok-skip.ensures read x rest is at) (c.loop-i.invariant read is)
