use Rattle.uz_search.proofs.Common.{◌-◌, ◌≡◌, ◌∙◌, Some, arith, length, refl, slice_get, suc, sym, slice_get_read}
use Rattle.uz_search.proofs.ChainLemmas.{goes_in, goes_over, goes_past}
use Rattle.uz_search.proofs.chain.end_of.Goals as goal

pub each-smaller-then-passes : goal.each-smaller-then-passes
each-smaller-then-passes c =
    let is : slice_get c.args.nodes.now (c.each.left - 1) ≡ Some c.index-nodes-left.result =
    slice_get_read c.args.nodes.now (length c.args.nodes.now) (c.each.left - 1) c.index-nodes-left.result refl
    (omega (arith, c.each.invariant.few, c.each-test.true)) c.index-nodes-left.is in
    let below = (c.requires (c.each.left - 1) c.index-nodes-left.result is).rest in
    omega (arith, below, c.each-test.true)

pub each-preserved-then-passes : goal.each-preserved-then-passes
each-preserved-then-passes c =
    let is : slice_get c.args.nodes.now (c.each.left - 1) ≡ Some c.index-nodes-left.result =
    slice_get_read c.args.nodes.now (length c.args.nodes.now) (c.each.left - 1) c.index-nodes-left.result refl
    (omega (arith, c.each.invariant.few, c.each-test.true)) c.index-nodes-left.is in
    let below = (c.requires (c.each.left - 1) c.index-nodes-left.result is).rest in
    let next : c.each.left ≡ suc (c.each.left - 1) = omega (arith, c.each-test.true) in
    record {
      few = omega (arith, below, c.each.invariant.few);
      same = sym (goes_over c.args.nodes.now c.each.left (c.each.left - 1) c.index-nodes-left.result c.args.range next is c.requires
          (sym c.passes.ensures ∙ c.if-passes.true)) ∙ c.each.invariant.same;
    }

pub returns-then-is_within : goal.returns-then-is_within
returns-then-is_within c =
    let is : slice_get c.args.nodes.now (c.each.left - 1) ≡ Some c.index-nodes-left.result =
    slice_get_read c.args.nodes.now (length c.args.nodes.now) (c.each.left - 1) c.index-nodes-left.result refl
    (omega (arith, c.each.invariant.few, c.each-test.true)) c.index-nodes-left.is in
    let next : c.each.left ≡ suc (c.each.left - 1) = omega (arith, c.each-test.true) in
    sym (goes_in c.args.nodes.now c.each.left (c.each.left - 1) c.index-nodes-left.result c.args.range next is c.requires
    (sym c.is_within.ensures ∙ c.if-is_within.true)) ∙ c.each.invariant.same

pub each-preserved : goal.each-preserved
each-preserved c =
    let is : slice_get c.args.nodes.now (c.each.left - 1) ≡ Some c.index-nodes-left.result =
    slice_get_read c.args.nodes.now (length c.args.nodes.now) (c.each.left - 1) c.index-nodes-left.result refl
    (omega (arith, c.each.invariant.few, c.each-test.true)) c.index-nodes-left.is in
    let next : c.each.left ≡ suc (c.each.left - 1) = omega (arith, c.each-test.true) in
    record {
      few = omega (arith, c.each.invariant.few);
      same = sym (goes_past c.args.nodes.now c.each.left (c.each.left - 1) c.index-nodes-left.result c.args.range next is c.requires
          (sym c.is_within.ensures ∙ c.if-is_within.false)) ∙ c.each.invariant.same;
    }
