use Rattle.uz_cert_writer.proofs.Common.{◌<◌, ◌≤◌, ◌+◌, ◌∷◌, [], length, drop, get_or, refl, arith, rules, codes, spaced, item, unless}
use Rattle.uz_cert_writer.proofs.Common.{pair_items}
use Rattle.uz_cert_lines.specs.Defaults.{is_any_pair}
use Rattle.uz_cert_writer.specs.Spelling.{pair_word, pair_item}
use Rattle.uz_cert_writer.proofs.Steps.{put, nothing_left, item_left, items_over}
use Rattle.uz_cert_writer.proofs.items.add_pairs.Goals as goal

pub loop-k-preserved : goal.loop-k-preserved
loop-k-preserved c =
    let few : c.loop-k.k < length c.args.facts.now = omega (arith, c.loop-k-test.true, c.type_inv.facts) in
    put c.loop-k.text.items c.add_pair.new.text.items
    (spaced (unless (is_any_pair c.index-facts-k.result) (item (get_or (codes "xyz") c.loop-k.k 0 ∷ []) (pair_word c.index-facts-k.result))
    []))
    (spaced (pair_items (drop (c.loop-k.k + 1) (codes "xyz")) (drop (c.loop-k.k + 1) c.args.facts.now)))
    (spaced (pair_items (drop c.loop-k.k (codes "xyz")) (drop c.loop-k.k c.args.facts.now)))
    _
    (search rules)
    (item_left (λ letter x. is_any_pair x) pair_item (codes "xyz") c.args.facts.now c.loop-k.k (get_or (codes "xyz") c.loop-k.k 0) 0
    c.index-facts-k.result c.index-facts-k.result c.loop-k-test.true few refl c.index-facts-k.is)
    c.loop-k.invariant

pub returns : goal.returns
returns c =
    let over : length c.args.facts.now ≤ c.loop-k.k = omega (arith, c.loop-k-test.false, c.type_inv.facts) in
    nothing_left _ _ _ (items_over (λ letter x. is_any_pair x) pair_item (codes "xyz") c.args.facts.now c.loop-k.k over) c.loop-k.invariant
