use Rattle.std.proofs.Common.{◌∙◌, subst}
use Rattle.uz_explanations.specs.Counting.{crowd}
use Rattle.uz_explanations.specs.Seen.{AreAllOf}
use Rattle.uz_explanations.proofs.CrowdLemmas.{count_split, crowd_split, none_left}
use Rattle.uz_explanations.proofs.gathering.values_at.Goals as goal

pub loop-left-preserved : goal.loop-left-preserved
loop-left-preserved c =
    let block = c.split_at.result.0.now in
    let later = c.split_at.result.1.now in
    record {
      kept = c.in_ok-note_block.ensures.1 (crowd c.args.pc later) (crowd c.args.pc c.args.instances.now)
          (subst (λ l. AreAllOf l (crowd c.args.pc c.args.instances.now) c.loop-left.values)
          (crowd_split c.args.pc c.min.result c.loop-left.rest.now block later c.split_at.ensures.front c.split_at.ensures.back)
          c.loop-left.invariant.kept);
      count = c.saturating_sub-left.ensures
          ∙ count_split c.args.pc c.min.result c.loop-left.rest.now block later c.split_at.ensures.front c.split_at.ensures.back
          c.loop-left.left c.in_ok-note_block.field-0 c.loop-left.invariant.count c.in_ok-note_block.ensures.0;
    }

pub returns : goal.returns
returns c = subst (λ l. AreAllOf l (crowd c.args.pc c.args.instances.now) c.loop-left.values)
    (none_left c.args.pc c.loop-left.left c.loop-left.rest.now c.loop-left-test.false c.loop-left.invariant.count) c.loop-left.invariant.kept
