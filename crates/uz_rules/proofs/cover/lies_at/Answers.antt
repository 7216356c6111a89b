use Rattle.uz_rules.proofs.Common.{◌∙◌, ap, slice_index_or, slice_set, Range, Instance}
use Rattle.uz_rules.proofs.CoverLaws.{stands_again}
use Rattle.uz_rules.proofs.cover.lies_at.Goals as goal

-- what stood there stands there again
pub returns-clause-stays : goal.returns-clause-stays
returns-clause-stays c =
    let r = c.args.r in
    let at = c.args.at.now in
    let none = c.index-at-r.result in
    ap (λ (n : Instance). record n { regs = slice_set n.regs r (slice_index_or at.regs r none); pairs = at.pairs }) c.set_val.ensures
    ∙ stands_again at r (Range c.single.result) none
