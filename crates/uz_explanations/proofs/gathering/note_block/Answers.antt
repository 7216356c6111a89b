use Rattle.std.proofs.Common.{◌++◌, ◌∙◌, ap, subst, sym}
use Rattle.uz_explanations.specs.Seen.{AreAllOf}
use Rattle.uz_explanations.proofs.CrowdLemmas.{block_count}
use Rattle.uz_explanations.proofs.Keeping.{lent}
use Rattle.uz_explanations.proofs.gathering.note_block.Goals as goal

pub returns : goal.returns
returns c = (
  block_count c.args.pc c.len.result c.args.block.now c.in_ok-here.here.items (c.len.ensures ∙ c.in_ok-here.here.ok.0)
      c.in_ok-here.ensures,
  λ rest all before. c.in_ok-note_crowd.ensures rest all (subst (λ l. AreAllOf (l ++ rest) all c.args.values.now)
      (sym (ap lent c.as_slice.ensures.value ∙ c.in_ok-here.ensures)) before),
)
