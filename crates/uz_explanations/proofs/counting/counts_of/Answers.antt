use Rattle.std.proofs.Common.{◌<◌, ◌+◌, ◌∙◌, ap, length, arith}
use Rattle.std.proofs.lemmas.List.{length-set, take_all}
use Rattle.uz_explanations.specs.Counting.{count_at, pc_end}
use Rattle.uz_explanations.proofs.Counts.{below_end, counted, counts_are, read_few}
use Rattle.uz_explanations.proofs.counting.counts_of.Goals as goal

pub index_mut-requires : goal.index_mut-requires
index_mut-requires c =
    let below = below_end c.args.instances.now c.loop-x.x-index c.x-item.result c.loop-x-test.true c.x-item.is in
    omega (arith, below, c.loop-x.invariant.same, c.from.ensures, c.loop-x.counts.ok.0)

pub overflow_add-index_mut : goal.overflow_add-index_mut
overflow_add-index_mut c =
    let below = below_end c.args.instances.now c.loop-x.x-index c.x-item.result c.loop-x-test.true c.x-item.is in
    let there : c.from.result < length c.loop-x.counts.items = omega (arith, below, c.loop-x.invariant.same, c.from.ensures) in
    let few = read_few c.loop-x.counts.items c.args.instances.now c.loop-x.x-index c.from.result c.index_mut.result.now there
    c.index_mut.ensures.value
    (c.loop-x.invariant.so_far c.from.result (omega (arith, below, c.from.ensures))) in
    omega (arith, few, c.loop-x-test.true, c.requires.few)

pub loop-x-preserved : goal.loop-x-preserved
loop-x-preserved c =
    let below = below_end c.args.instances.now c.loop-x.x-index c.x-item.result c.loop-x-test.true c.x-item.is in
    let there : c.from.result < length c.loop-x.counts.items = omega (arith, below, c.loop-x.invariant.same, c.from.ensures) in
    record {
      same = length-set c.loop-x.counts.items c.from.result (c.index_mut.result.now + 1) ∙ c.loop-x.invariant.same;
      so_far = λ pc within. counted c.loop-x.counts.items c.args.instances.now c.loop-x.x-index c.from.result c.index_mut.result.now pc
          c.x-item.result c.loop-x-test.true c.x-item.is c.from.ensures there c.index_mut.ensures.value
          (c.loop-x.invariant.so_far pc within);
    }

pub returns-clause-counts : goal.returns-clause-counts
returns-clause-counts c = counts_are c.loop-x.counts.items c.args.instances.now (pc_end c.args.instances.now) 0 c.loop-x.invariant.same
    (λ pc below. c.loop-x.invariant.so_far pc below
    ∙ ap (count_at pc) (take_all c.loop-x.x-index c.args.instances.now (omega (arith, c.loop-x-test.false)))
    ∙ ap (λ k. count_at k c.args.instances.now) (omega arith))
