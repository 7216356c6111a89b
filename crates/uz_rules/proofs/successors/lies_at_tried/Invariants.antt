use Rattle.uz_rules.proofs.Common.{◌≡◌, ◌-◌, suc, any_from, facts_inside}
use Rattle.uz_rules.proofs.successors.lies_at_tried.Given as goal

-- what is left answers for all
abbrev pub invariant-loop-count : goal.invariant-loop-count
invariant-loop-count l =
    let here = facts_inside l.at l.point in
    any_from here l.count (suc l.last - l.count) ≡ any_from here l.first (suc l.last - l.first)
