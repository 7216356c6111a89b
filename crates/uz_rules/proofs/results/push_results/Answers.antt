use Rattle.uz_rules.proofs.Common.{◌≡◌, ◌+◌, [], ◌∷◌, ◌++◌, length, take, sym, ◌∙◌, ap, arith, slice_index_or, take_more, order_of}
use Rattle.uz_rules.proofs.Common.{Instance, Exit, narrowed, at_exit, successor, if_there, results_of}
use Rattle.uz_rules.proofs.AfterLaws.{few_results, results_more, take_few}
use Rattle.uz_rules.proofs.results.push_results.Goals as goal

pub push_some-requires : goal.push_some-requires
push_some-requires c =
    let i = c.loop-exit.exit-index in
    let few = few_results (order_of c.args.schedule.now) c.args.at.now c.args.step.now (take i c.args.exits.now) in
    let taken = take_few i c.args.exits.now in
    let all = ap length c.loop-exit.invariant in
    omega (arith, few, taken, all, c.loop-exit-test.true, c.requires.few)

pub loop-exit-preserved : goal.loop-exit-preserved
loop-exit-preserved c =
    let lines = order_of c.args.schedule.now in
    let at = c.args.at.now in
    let step = c.args.step.now in
    let exits = c.args.exits.now in
    let i = c.loop-exit.exit-index in
    let none : Exit = record { pc = 0; clocks = 0 } in
    let exit : Exit = slice_index_or exits i none in
    let more : take (i + 1) exits ≡ take i exits ++ exit ∷ [] = take_more exits i none c.loop-exit-test.true in
    let known : c.result_at.result ≡ narrowed step.test exit (successor lines at step exit) = c.result_at.ensures
    ∙ ap (λ (d : Instance). narrowed step.test exit (at_exit lines at d step.emit step.clears exit)) c.copied-draft.ensures in
    c.push_some.ensures
    ∙ (ap (λ l. l ++ if_there c.result_at.result) c.loop-exit.invariant
    ∙ (ap (λ r. results_of lines at step (take i exits) ++ if_there r) known
    ∙ (sym (results_more lines at step (take i exits) exit) ∙ ap (results_of lines at step) (sym more))))
