use Rattle.uz_search.proofs.Common.{◌≡◌, ◌∙◌, sym, true, restored}
use Rattle.uz_search.proofs.Lists.{each_next}
use Rattle.uz_search.proofs.stuck.has_unrestored.Goals as goal

pub each-preserved : goal.each-preserved
each-preserved c = each_next (λ end. restored end ≡ true) c.args.ends.now c.each.end-index c.end-item.result c.each-test.true c.end-item.is
    c.each.invariant (sym c.restored.ensures ∙ c.if-not-restored.false)
