use Rattle.uz_rules.proofs.Common.{◌≡◌, ◌∙◌, sym, refl, true, is_beside}
use Rattle.uz_rules.proofs.AtCounts.{box_is, box_elsewhere}
use Rattle.uz_rules.proofs.successors.lies_in_box.Goals as goal

-- the level decides
pub returns-then-lies_at_some_count : goal.returns-then-lies_at_some_count
returns-then-lies_at_some_count c =
    let some = c.lies_at_some_count in
    let beside : is_beside c.args.point.now c.args.at.now ≡ true = sym c.is_beside.ensures ∙ c.if-is_beside.true in
    let counts = c.if-lies_at_some_count.true in
    let box = box_is c.args.cert.now c.args.id c.args.point.now c.args.at.now some.result c.requires.point some.ensures.found
    some.ensures.told in
    c.has_level.ensures ∙ sym (box ∙ rw (beside, counts) refl)

-- no count is found
pub returns-else-lies_at_some_count : goal.returns-else-lies_at_some_count
returns-else-lies_at_some_count c =
    let some = c.lies_at_some_count in
    let beside : is_beside c.args.point.now c.args.at.now ≡ true = sym c.is_beside.ensures ∙ c.if-is_beside.true in
    let counts = c.if-lies_at_some_count.false in
    let box = box_is c.args.cert.now c.args.id c.args.point.now c.args.at.now some.result c.requires.point some.ensures.found
    some.ensures.told in
    counts ∙ sym (box ∙ rw (beside, counts) refl)

-- the point stands elsewhere
pub returns-else-is_beside : goal.returns-else-is_beside
returns-else-is_beside c =
    let other = c.if-is_beside.false in
    other ∙ sym (box_elsewhere c.args.cert.now c.args.id c.args.point.now c.args.at.now c.requires.point (sym c.is_beside.ensures ∙ other))
