use Rattle.std.proofs.Common.{◌≡◌, ◌≤◌, ℕ, drop, length}
use Rattle.std.specs.BTreeMap.{get}
use Rattle.std.specs.Ordering.{nat_cmp}
use Rattle.uz_search.specs.Widened.{facts_in}
use Rattle.uz_paths.specs.ProgramOf.{facts_for}
use Rattle.uz_paths.proofs.program.facts_of.Given as goal

-- those of the hints so far, which are the last ones
abbrev pub invariant-each : goal.invariant-each
invariant-each l = record {
  few : l.left ≤ length l.hints;
  kept : (pc : ℕ) → facts_in (get nat_cmp l.facts pc) ≡ facts_for pc (drop l.left l.hints);
}

abbrev pub decreases-each : goal.decreases-each
decreases-each l = l.left
