use Rattle.uz_rules.proofs.Common.{◌≡◌, ◌≤◌, ◌++◌, drop, length, varying_from}
use Rattle.uz_rules.proofs.varying.varying_places.Given as goal

-- those so far, and what is left
abbrev pub invariant-loop-place : goal.invariant-loop-place
invariant-loop-place l = record {
  few : length l.places.items ≤ l.place;
  first : l.places.items ++ varying_from l.place (drop l.place l.facts) ≡ varying_from 0 l.facts;
}
