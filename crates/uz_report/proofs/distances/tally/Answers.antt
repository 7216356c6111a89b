use Rattle.std.proofs.Common.{◌≡◌, ◌<◌, ◌≤◌, ◌+◌, ℕ, ◌∙◌, sym, subst, take, slice_index_or, arith}
use Rattle.std.proofs.lemmas.List.{length-set}
use Rattle.uz_schedule.specs.Schedule.{scanline}
use Rattle.uz_report.specs.Shown.{times}
use Rattle.uz_report.proofs.Tallies.{counted, times_few, times_no}
use Rattle.uz_report.proofs.distances.tally.Goals.{then-place-from, else-place-from}
use Rattle.uz_report.proofs.distances.tally.Goals as goal

pub loop-distance-preserved : goal.loop-distance-preserved
loop-distance-preserved c =
    let i = c.loop-distance.distance-index in
    let all = c.args.all.now in
    let counted_all : (d : ℕ) → d < scanline → slice_index_or c.if-place-from.counts.items d 0 ≡ times d (take (i + 1) all) = λ d below.
    elim c.if-place-from.branch [
      | then-place-from w ↦ rw w.counts-is (counted c.loop-distance.counts.items all i c.from-place.result w.index_mut.result.now d
          c.loop-distance-test.true c.from-place.ensures (omega (
            arith,
            c.loop-distance.invariant.same,
            w.if-place-from.true,
            c.from-in-loop-distance.ensures,
          )) w.index_mut.ensures.value (c.loop-distance.invariant.so_far d below))
      | else-place-from w ↦ rw w.counts-is (c.loop-distance.invariant.so_far d below ∙ sym (times_no all i d c.loop-distance-test.true
          (λ e. absurd (omega (arith, below, e, c.from-place.ensures, w.if-place-from.false, c.from-in-loop-distance.ensures)))))
    ] in
    record {
      same = elim c.if-place-from.branch [
        | then-place-from w ↦ rw w.counts-is (length-set c.loop-distance.counts.items c.from-place.result (w.index_mut.result.now + 1)
            ∙ c.loop-distance.invariant.same)
        | else-place-from w ↦ rw w.counts-is c.loop-distance.invariant.same
      ];
      so_far = counted_all;
      few = λ d below. subst (λ n. n ≤ i + 1) (sym (counted_all d below)) (times_few all (i + 1) d);
    }
