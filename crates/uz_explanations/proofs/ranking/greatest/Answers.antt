use Rattle.std.proofs.Common.{◌-◌, refl, arith}
use Rattle.std.proofs.lemmas.List.{get_or_default}
use Rattle.uz_explanations.proofs.Ranks.{ranked_more}
use Rattle.uz_explanations.proofs.ranking.greatest.Goals as goal

pub down-preserved-in-Continue-1 : goal.down-preserved-in-Continue-1
down-preserved-in-Continue-1 c = record {
  within = omega (arith, c.down.invariant.within);
  so_far = ranked_more c.args.counts.now (c.down.pc - 1) c.down.pc _ _ c.down.crowds.items c.place.new.crowds.items
      (omega (arith, c.down-test.true, c.down.invariant.within)) (omega (arith, c.down-test.true))
      (get_or_default c.args.counts.now (c.down.pc - 1) _ _ (omega (arith, c.down-test.true, c.down.invariant.within))) refl
      c.if-count-gt0.true c.down.invariant.so_far c.in_ok-place.ensures;
}
