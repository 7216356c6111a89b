use Rattle.uz_rules.proofs.Common.{◌≡◌, take, order_of, results_of}
use Rattle.uz_rules.proofs.results.push_results.Given as goal

-- the results so far
abbrev pub invariant-loop-exit : goal.invariant-loop-exit
invariant-loop-exit l = l.out.items ≡ results_of (order_of l.schedule) l.at l.step (take l.exit-index l.exits)
