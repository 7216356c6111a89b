use Rattle.uz_rules.proofs.Common.{rules, ◌≡◌, ◌<◌, ◌∙◌, length, map, get_or_default, Range, val_of, ends, value_at}
use Rattle.uz_rules.proofs.CountKeys.{value_fits}
use Rattle.uz_rules.proofs.count_keys.byte_fits.Goals as goal

pub returns-then-place-facts : goal.returns-then-place-facts
returns-then-place-facts c =
    let vals = c.args.vals.now in
    let facts = map (val_of c.args.line c.args.count) c.args.facts.now in
    let v = c.index-vals-place in
    let bound : c.args.place < length vals = search rules in
    let element : v.result ≡ value_at vals c.args.place = v.is ∙ get_or_default vals c.args.place v.result (Range (ends 0 255)) bound in
    value_fits vals facts c.args.place v.result c.value_by.result c.value_inside.result bound element c.value_by.ensures
    c.value_inside.ensures
