use Rattle.std.proofs.Common.{ap, rules, ◌∙◌}
use Rattle.uz_debug.specs.Marks.{marked}
use Rattle.uz_debug.proofs.MarkLemmas.{counted_none, marked-replicate}
use Rattle.uz_debug.proofs.breakpoints.Breakpoints.none.Goals as goal

pub invariant_of-result : goal.invariant_of-result
invariant_of-result c = counted_none c.in_ok-vec.field-0.items (c.in_ok-vec.ensures.items_if_clones_equal (search rules))

pub returns : goal.returns
returns c = ap (marked 0) (c.in_ok-vec.ensures.items_if_clones_equal (search rules)) ∙ marked-replicate 32768 0
