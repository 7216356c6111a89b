use Rattle.uz_rules.proofs.Common.{rules, ◌≡◌, ◌<◌, ◌∙◌, ap, length, map, false, sym, get_or_default, cell_span, ends, span_at}
use Rattle.uz_rules.proofs.Common.{range_inside}
use Rattle.uz_rules.proofs.Below.{below_failed}
use Rattle.uz_rules.proofs.fact_inclusion.spans_in_facts.Goals as goal

-- the cell that doesn't lie in what its fact says
pub returns-then-not-span_inside : goal.returns-then-not-span_inside
returns-then-not-span_inside c =
    let j = c.loop-j.j in
    let spans = c.args.spans.now in
    let facts = map (cell_span c.args.line c.args.count) c.args.facts.now in
    let bound : j < length spans = search rules in
    let element : c.index-spans-j.result ≡ span_at spans j =
    c.index-spans-j.is ∙ get_or_default spans j c.index-spans-j.result (ends 0 255) bound in
    let outside : range_inside (span_at spans j) (span_at facts j) ≡ false =
    ap (λ v. range_inside v (span_at facts j)) (sym element) ∙ (ap (range_inside c.index-spans-j.result) (sym c.cell_by.ensures)
    ∙ (sym c.span_inside.ensures ∙ c.if-not-span_inside.true)) in
    sym (below_failed (length spans) j (λ k. range_inside (span_at spans k) (span_at facts k)) bound outside)
