use Rattle.std.proofs.Common.{◌≡◌, ◌<◌, ℕ, Some, drop, length, if◌then◌else◌}
use Rattle.std.specs.Prelude.{slice_get}
use Rattle.uz_paths.specs.Words.{is_half}
use Rattle.uz_paths.specs.ProgramOf.{kind_by}
use Rattle.uz_paths.proofs.program.kinds_by.Given as goal

-- the hints that are left name all lines that aren't of their kind yet
abbrev pub invariant-loop-hint : goal.invariant-loop-hint
invariant-loop-hint l = record {
  count : length l.kinds.items ≡ l.lines;
  each : (line : ℕ) → line < l.lines → (if is_half line (drop l.hint-index l.hints) then Some 1 else slice_get l.kinds.items line)
      ≡ Some (kind_by l.hints line);
}
