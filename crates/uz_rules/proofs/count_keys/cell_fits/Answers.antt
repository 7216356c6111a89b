use Rattle.uz_rules.proofs.Common.{rules, ◌≡◌, ◌<◌, ◌∙◌, length, map, get_or_default, cell_span, ends, span_at}
use Rattle.uz_rules.proofs.CountKeys.{span_fits}
use Rattle.uz_rules.proofs.count_keys.cell_fits.Goals as goal

pub returns-then-place-facts : goal.returns-then-place-facts
returns-then-place-facts c =
    let spans = c.args.spans.now in
    let facts = map (cell_span c.args.line c.args.count) c.args.facts.now in
    let v = c.index-spans-place in
    let bound : c.args.place < length spans = search rules in
    let element : v.result ≡ span_at spans c.args.place = v.is ∙ get_or_default spans c.args.place v.result (ends 0 255) bound in
    span_fits spans facts c.args.place v.result c.cell_by.result c.span_inside.result bound element c.cell_by.ensures c.span_inside.ensures
