use Rattle.uz_rules.proofs.Common.{◌≡◌, ◌-◌, suc, lies_in_any}
use Rattle.uz_rules.specs.Cover.{all_from, at_value}
use Rattle.uz_rules.proofs.cover.lies_at_each.Given as goal

-- what is left answers for all, and the result is what it was
abbrev pub invariant-loop-value : goal.invariant-loop-value
invariant-loop-value l =
    (all_from (λ v. lies_in_any l.cert l.next (at_value l.r v l.initial.at)) l.value (suc l.last - l.value)
    ≡ all_from (λ v. lies_in_any l.cert l.next (at_value l.r v l.initial.at)) l.first (suc l.last - l.first)) × (l.at ≡ l.initial.at)
