use Rattle.std.proofs.Common.{◌∙◌, ◌+◌, ◌++◌, ap, drop, length}
use Rattle.uz_paths.specs.Rests.{rests_from}
use Rattle.uz_paths.proofs.RestLemmas.{few_kept, few_more, none_put, rest_put, rests_end}
use Rattle.uz_paths.proofs.rests.rests_of.Goals as goal
use Rattle.uz_paths.proofs.rests.rests_of.Goals.{in-Some+in_ok-push, in_default}

pub loop-line-preserved : goal.loop-line-preserved
loop-line-preserved c =
    elim c.match-noted.branch [
      | in-Some+in_ok-push w ↦
          let put = ap (λ v. v.items) w.rests-is ∙ w.in_ok-push.ensures.items in
          record {
            few = few_more c.loop-line.rests.items c.match-noted.rests.items c.loop-line.line _ put c.loop-line.invariant.few;
            left = rest_put c.args.returns.now c.loop-line.line _ c.loop-line.rests.items c.match-noted.rests.items _
                c.index-returns-line.result w.in-Some.noted w.rest_of.result c.loop-line-test.true c.index-returns-line.is w.in-Some.is put
                (w.len-vector.ensures ∙ c.loop-line.rests.ok.0) w.rest_of.ensures c.loop-line.invariant.left;
          }
      | in_default w ↦
          let same = ap (λ v. v.items) w.rests-is in
          record {
            few = few_kept c.loop-line.rests.items c.match-noted.rests.items c.loop-line.line same c.loop-line.invariant.few;
            left = (λ i. same i ++ rests_from (c.loop-line.line + 1) (length (same i)) (drop (c.loop-line.line + 1) c.args.returns.now))
                ∙ none_put c.args.returns.now c.loop-line.line c.loop-line.rests.items _ c.index-returns-line.result c.loop-line-test.true
                c.index-returns-line.is w.in_default.is c.loop-line.invariant.left;
          }
    ]

pub returns : goal.returns
returns c = rests_end c.args.returns.now c.loop-line.rests.items c.loop-line.line c.loop-line-test.false c.loop-line.invariant.left
