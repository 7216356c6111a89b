use Rattle.std.proofs.Common.{◌∙◌, ◌++◌, ap, arith, sym}
use Rattle.std.proofs.lemmas.Option.{get_or_from_slice_get}
use Rattle.uz_explanations.specs.TrailLines.{trail_line}
use Rattle.uz_explanations.proofs.TurnLemmas.{skipped, own_line, turned, if_ok_weaker}
use Rattle.uz_explanations.proofs.turns.add_next.Goals as goal

pub returns-then-skip-gt0 : goal.returns-then-skip-gt0
returns-then-skip-gt0 c read x rest is at = skipped c.args.image.now read c.args.labels.now c.args.trail.now c.args.text.now.items c.args.i
    c.args.skip x rest (omega (arith, c.if-skip-gt0.true))

pub returns-then-n-gt0 : goal.returns-then-n-gt0
returns-then-n-gt0 c = if_ok_weaker c.add_again.result
    (λ next said read x rest is at. turned c.args.image.now read c.args.labels.now c.args.trail.now c.args.text.now.items
    c.add_again.new.text.items c.args.i c.args.skip c.stretch-n.result next x rest (omega (arith, c.if-skip-gt0.false)) c.stretch-n.ensures
    (omega (arith, c.if-n-gt0.true)) said.0 said.1)
    c.add_again.ensures

pub returns : goal.returns
returns c read x rest is at = own_line c.args.image.now read c.args.labels.now c.args.trail.now c.args.text.now.items
    c.add_trail_line.new.text.items c.args.i c.args.skip x rest (omega (arith, c.if-skip-gt0.false))
    (sym c.stretch-n.ensures ∙ omega (arith, c.if-n-gt0.false))
    (c.in_ok-add_trail_line.ensures read is
    ∙ ap (λ y. c.args.text.now.items ++ trail_line c.args.image.now c.args.labels.now (read y.pc) y)
    (c.index-trail-i.is ∙ get_or_from_slice_get c.args.trail.now c.args.i x _ at))
