use Rattle.uz_rules.proofs.Common.{rules, ◌≡◌, length, slice_index_or, arith, get_or_default, AnyPair}
use Rattle.uz_rules.proofs.PeriodLaws.{pairs_longer}
use Rattle.uz_rules.proofs.periods.longest_of_pairs.Goals as goal

pub returns : goal.returns
returns c =
    let facts = c.args.facts.now in
    let size : length facts ≡ 3 = search rules in
    let x = slice_index_or facts 0 c.index-facts-0.result in
    let y = slice_index_or facts 1 c.index-facts-1.result in
    let z = slice_index_or facts 2 c.index-facts-2.result in
    let all = c.greater-2 in
    let two = c.greater in
    let of_two = all.ensures.second in
    let of_y = two.ensures.first in
    let of_z = two.ensures.second in
    pairs_longer facts x y z c.pair_exponent-of_x.result c.pair_exponent-of_y.result c.pair_exponent-of_z.result all.result
    (get_or_default facts 0 c.index-facts-0.result AnyPair (omega (arith, size)))
    (get_or_default facts 1 c.index-facts-1.result AnyPair (omega (arith, size)))
    (get_or_default facts 2 c.index-facts-2.result AnyPair (omega (arith, size))) all.ensures.first (omega (arith, of_y, of_two))
    (omega (arith, of_z, of_two)) c.pair_exponent-of_x.ensures c.pair_exponent-of_y.ensures c.pair_exponent-of_z.ensures
