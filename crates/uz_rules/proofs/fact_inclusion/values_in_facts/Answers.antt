use Rattle.uz_rules.proofs.Common.{rules, ◌≡◌, ◌<◌, ◌∙◌, ap, length, map, false, sym, get_or_default, Range, val_of, ends, value_at}
use Rattle.uz_rules.proofs.Common.{value_inside}
use Rattle.uz_rules.proofs.Below.{below_failed}
use Rattle.uz_rules.proofs.fact_inclusion.values_in_facts.Goals as goal

-- the byte that doesn't lie in what its fact says
pub returns-then-not-lies_in_fact_at : goal.returns-then-not-lies_in_fact_at
returns-then-not-lies_in_fact_at c =
    let i = c.loop-i.i in
    let vals = c.args.vals.now in
    let facts = map (val_of c.args.line c.args.count) c.args.facts.now in
    let bound : i < length vals = search rules in
    let element : c.index-vals-i.result ≡ value_at vals i =
    c.index-vals-i.is ∙ get_or_default vals i c.index-vals-i.result (Range (ends 0 255)) bound in
    let outside : value_inside (value_at vals i) (value_at facts i) ≡ false =
    ap (λ v. value_inside v (value_at facts i)) (sym element) ∙ (sym c.lies_in_fact_at.ensures ∙ c.if-not-lies_in_fact_at.true) in
    sym (below_failed (length vals) i (λ k. value_inside (value_at vals k) (value_at facts k)) bound outside)
