use Rattle.std.proofs.Common.{◌≡◌, ◌<◌, ℕ, Some, slice_get}
use Rattle.uz_schedule.specs.declared.states.Instance.{Instance}
use Rattle.uz_search.specs.Widened.{widened}
use Rattle.uz_paths.specs.Linked.{AddsSuccessors}
use Rattle.uz_paths.specs.Linking.{HasSuccessorBy}
use Rattle.uz_paths.proofs.linking.Linking.put_all.Given as goal

-- the results so far are named
abbrev pub invariant-loop-to : goal.invariant-loop-to
invariant-loop-to l = record {
  more : AddsSuccessors l.self.count l.to-index l.initial.successors.items l.successors.items;
  named : (j : ℕ) (y : Instance) → j < l.to-index → slice_get l.results j ≡ Some y → HasSuccessorBy l.self (widened l.self.program.now y)
      l.successors.items;
}
