use Rattle.std.proofs.Common.{◌≡◌, ◌⊎◌, ◌<◌, ◌≤◌, ℕ, Some, length}
use Rattle.std.specs.Prelude.{slice_get}
use Rattle.uz_paths.proofs.program.shorten.Given as goal

-- the lines so far are of the shorter kind
abbrev pub invariant-loop-line : goal.invariant-loop-line
invariant-loop-line l = record {
  low : l.from ≤ l.line;
  count : length l.kinds ≡ length l.initial.kinds;
  named : (k : ℕ) → l.from ≤ k → k < l.line → slice_get l.kinds k ≡ Some 1;
  others : (k : ℕ) → (k < l.from) ⊎ (l.to < k) → slice_get l.kinds k ≡ slice_get l.initial.kinds k;
}
