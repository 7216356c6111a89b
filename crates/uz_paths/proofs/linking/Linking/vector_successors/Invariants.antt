use Rattle.std.proofs.Common.{◌≤◌, ◌<◌, ◌*◌, ℕ, length}
use Rattle.uz_paths.specs.Linked.{SuccessorsFit, first_after}
use Rattle.uz_paths.specs.Linking.{LeadsToResultsBy}
use Rattle.uz_paths.proofs.linking.Linking.vector_successors.Given as goal

-- the results of the first states so far are named, two of each at most
abbrev pub invariant-loop-c : goal.invariant-loop-c
invariant-loop-c l = record {
  few : length l.successors.items ≤ 2 * l.c;
  fits : SuccessorsFit l.self.count l.successors.items;
  named : (j : ℕ) → j < l.c → LeadsToResultsBy l.self (first_after l.self.program.now l.schedule l.rest j)
      l.successors.items;
}
