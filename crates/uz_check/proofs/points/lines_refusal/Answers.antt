use Rattle.uz_check.proofs.Common.{◌-◌, suc, arith}
use Rattle.uz_check.proofs.Looked.{lines_more, one_more_line, line_of_box, first_not_implied}
use Rattle.uz_check.proofs.Totals.{box_of}
use Rattle.uz_check.proofs.points.lines_refusal.Goals as goal

pub lines-init : goal.lines-init
lines-init c =
    let visit = c.args.visit.now in
    let box = box_of visit.cert.now visit.id visit.point.now c.requires.fits c.requires.visit.point in
    record {
      begun = omega arith;
      within = omega (arith, box.line_order);
      none = λ j low high. absurd (omega (arith, low, high));
      few = omega arith;
      not_implied = λ some. first_not_implied visit.cert.now visit.point.now;
      keeps = c.requires.keeps;
    }

pub overflow_add-l : goal.overflow_add-l
overflow_add-l c =
    let visit = c.args.visit.now in
    let box = box_of visit.cert.now visit.id visit.point.now c.requires.fits c.requires.visit.point in
    let few = c.requires.fits.schedule.lines.few in
    omega (arith, c.lines-test.true, box.line, few)

pub returns-in-Some-clause-few : goal.returns-in-Some-clause-few
returns-in-Some-clause-few c =
    let visit = c.args.visit.now in
    let p = visit.point.now in
    let inv = c.lines.invariant in
    let part = line_of_box visit.cert.now p c.lines.l (suc p.c1 - p.c0) inv.begun c.lines-test.true (inv.not_implied c.lines-test.true) in
    let seen = c.line_refusal.ensures.few in
    omega (arith, part, inv.few, seen)

pub lines-preserved : goal.lines-preserved
lines-preserved c =
    let visit = c.args.visit.now in
    let cert = visit.cert.now in
    let p = visit.point.now in
    let box = box_of cert visit.id p c.requires.fits c.requires.visit.point in
    let l = c.lines.l in
    let inv = c.lines.invariant in
    let next = c.next_to_check-l.ensures in
    let one = one_more_line cert p l c.next_to_check-l.result (suc p.c1 - p.c0) inv.begun next.onward (inv.not_implied c.lines-test.true)
    next.implied in
    let seen = c.line_refusal.ensures.few in
    record {
      begun = omega (arith, inv.begun, next.onward);
      within = next.within;
      none = lines_more c.lines_fold.ensures visit.image.now cert visit.id l c.next_to_check-l.result p c.requires.fits.schedule
          c.requires.visit.point box.line next.within next.implied inv.none c.in_default.ensures.first;
      few = omega (arith, one, inv.few, seen);
      not_implied = next.not_implied;
      keeps = c.line_refusal.ensures.keeps;
    }

pub line_refusal-requires-clause-counts : goal.line_refusal-requires-clause-counts
line_refusal-requires-clause-counts c =
    let visit = c.args.visit.now in
    (box_of visit.cert.now visit.id visit.point.now c.requires.fits c.requires.visit.point).count

pub line_refusal-requires-clause-order : goal.line_refusal-requires-clause-order
line_refusal-requires-clause-order c =
    let visit = c.args.visit.now in
    (box_of visit.cert.now visit.id visit.point.now c.requires.fits c.requires.visit.point).count_order

pub next_to_check-l-requires-clause-box_fits : goal.next_to_check-l-requires-clause-box_fits
next_to_check-l-requires-clause-box_fits c =
    let visit = c.args.visit.now in
    (box_of visit.cert.now visit.id visit.point.now c.requires.fits c.requires.visit.point).line

pub next_to_check-l-requires-clause-reach : goal.next_to_check-l-requires-clause-reach
next_to_check-l-requires-clause-reach c = c.reach_of-reach.ensures
