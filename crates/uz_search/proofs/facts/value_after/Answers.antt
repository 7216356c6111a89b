use Rattle.uz_search.proofs.Common.{◌≡◌, ◌≤◌, ap, arith, Ends, folded}
use Rattle.uz_search.proofs.PlaceLemmas.{byte_still}
use Rattle.uz_search.proofs.facts.value_after.Goals as goal

pub overflow_cast-lo : goal.overflow_cast-lo
overflow_cast-lo c =
    let small : c.between.result.hi ≤ 255 = omega (arith, ap (λ (e : Ends). e.hi) c.between.ensures, c.from-in-Range.ensures) in
    let low = byte_still c.args.chain.now c.between.result c.requires small in
    let same : c.end-end.result.hi ≡ (folded c.args.chain.now c.between.result).hi = ap (λ (e : Ends). e.hi) c.end-end.ensures in
    omega (arith, low, same, c.lo-in-Range.ensures.value, c.lo-in-Range.ensures.ordered)

pub overflow_cast-hi : goal.overflow_cast-hi
overflow_cast-hi c =
    let small : c.between.result.hi ≤ 255 = omega (arith, ap (λ (e : Ends). e.hi) c.between.ensures, c.from-in-Range.ensures) in
    let low = byte_still c.args.chain.now c.between.result c.requires small in
    let same : c.end-end.result.hi ≡ (folded c.args.chain.now c.between.result).hi = ap (λ (e : Ends). e.hi) c.end-end.ensures in
    omega (arith, low, same, c.hi-in-Range.ensures.value)
