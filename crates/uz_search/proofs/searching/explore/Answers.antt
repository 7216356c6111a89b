use Rattle.std.proofs.Common.{◌≤◌, subst}
use Rattle.uz_search.proofs.StepLemmas.{search_end}
use Rattle.uz_search.proofs.searching.explore.Goals as goal

pub returns-then-len-limit-clause-refusal : goal.returns-then-len-limit-clause-refusal
returns-then-len-limit-clause-refusal c =
    c.full.ensures c.args.image.now c.args.program.now c.work.invariant.so_far.tree

pub returns-in-Err-clause-refusal : goal.returns-in-Err-clause-refusal
returns-in-Err-clause-refusal c = c.in-Err.ensures.refusal c.args.limit

pub returns-clause-ended : goal.returns-clause-ended
returns-clause-ended c =
    let s = c.work.found in
    search_end c.args.image.now c.args.program.now s.nodes.keys s.parents.items s.marks.items s.returns.items c.work.done
    c.work.invariant.so_far (subst (λ n. n ≤ c.work.done) c.len.ensures.len c.work-test.false)
