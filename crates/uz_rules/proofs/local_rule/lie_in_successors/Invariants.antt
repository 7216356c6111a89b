use Rattle.uz_rules.proofs.Common.{◌≡◌, drop, order_of, narrowed, at_exit, each_exit, passes}
use Rattle.uz_rules.proofs.local_rule.lie_in_successors.Given as goal

-- what is left answers for all
abbrev pub invariant-loop-exit : goal.invariant-loop-exit
invariant-loop-exit l = each_exit (λ e. passes l.cert l.point.next.items l.point.split
    (narrowed l.way.test e (at_exit (order_of l.cert.schedule) l.at l.draft l.way.emitted l.way.clears e))) (drop l.exit-index l.exits)
    ≡ each_exit (λ e. passes l.cert l.point.next.items l.point.split
    (narrowed l.way.test e (at_exit (order_of l.cert.schedule) l.at l.initial.draft l.way.emitted l.way.clears e))) l.exits
