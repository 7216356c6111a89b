use Rattle.uz_search.proofs.Common.{◌+◌, ◌<◌, length, ℕ, Option, None, subst, sym, arith, EventKind, place_on, shown_at, MarksOne}
use Rattle.uz_search.proofs.MarkingLemmas.{seen_more, own_more}
use Rattle.uz_search.proofs.marks.mark_all.Goals as goal

pub mark_one-requires : goal.mark_one-requires
mark_one-requires c =
    let k : ℕ = c.each.step + 1 in
    let below : c.each.step < c.args.most = c.each-test.true in
    subst (λ n. n < length c.each.marks) (sym c.place_on-place.ensures)
    (subst (λ n. place_on c.args.program.now c.args.at.now k < n) (sym c.each.auto.marks) (c.requires.there k (omega arith)))

pub each-preserved : goal.each-preserved
each-preserved c =
    let p = c.args.program.now in
    let x = c.args.at.now in
    let old = c.args.marks.now in
    let mid = c.each.marks in
    let new = c.mark_one.new.marks in
    let k : ℕ = c.each.step + 1 in
    let one : MarksOne mid (place_on p x k) (shown_at c.args.emit k) None new =
    subst (λ n. MarksOne mid n (shown_at c.args.emit k) None new) c.place_on-place.ensures
    (subst (λ (e : Option EventKind). MarksOne mid c.place_on-place.result e None new) c.shown_after.ensures
    c.in_default.ensures) in
    let below : c.each.step < c.args.most = c.each-test.true in
    record {
      kept = λ y e h. one.0 y e (c.each.invariant.kept y e h);
      own = own_more p x c.args.most c.args.emit old mid new c.each.step below c.each.invariant.own one;
      seen = seen_more p x c.args.most c.args.emit old mid new c.each.step c.each.invariant.seen one;
    }
