-- Consoles at turns of a run from reset, and runs from one turn to another.
use Rattle.std.specs.Prelude.{◌≡◌, ℕ, ◌+◌, ◌<◌, ◌≤◌, Option, Some, None}
use Rattle.std.specs.Ordering.{nat_cmp}
use Rattle.std.specs.FinSet as set
use Rattle.std.proofs.Common.{Bor}
use Rattle.uz_core.specs.PadLine.{PadHistory}
use Rattle.uz_core.specs.Turn.{State}
use Rattle.uz_console.specs.declared.console.Console.{Console}
use Rattle.uz_console.specs.Consoles.{StandsFor}
use Rattle.uz_debug.specs.declared.run.Halt.{Halt}
use Rattle.uz_debug.specs.declared.run.Halt.TheVariants as halt
use Rattle.uz_debug.specs.Sessions.{IsAfter, IsBreak, IsStuck}

-- a console that is so many turns after a start
abbrev pub IsAt : State PadHistory → ℕ → Console → Type 0
IsAt start turn console = (s : State PadHistory) × IsAfter start turn s × StandsFor console s

-- the breakpoints that are heeded
abbrev pub stops_of : Option (Bor (set.FinSet nat_cmp)) → set.FinSet nat_cmp
stops_of None = set.empty
stops_of (Some stops) = stops.now

-- A run that has come from one turn to another: each turn was made, and no breakpoint stands behind the first
pub record Passed (start : State PadHistory) (stops : set.FinSet nat_cmp) (from at : ℕ) : Type 0 where
  pub onward : from ≤ at
  pub going : (k : ℕ) → from ≤ k → k < at → IsStuck start k → ⊥
  pub unbroken : (k : ℕ) → from < k → k ≤ at → IsBreak start stops k → ⊥

-- A run that has come to a breakpoint, by one turn more
pub record Broken (start : State PadHistory) (stops : set.FinSet nat_cmp) (from at : ℕ) : Type 0 where
  pub before : ℕ
  pub last : at ≡ before + 1
  pub passed : Passed start stops from before
  pub going : IsStuck start before → ⊥
  pub here : IsBreak start stops at

-- how a run ended at a turn
abbrev pub IsHalt : State PadHistory → set.FinSet nat_cmp → ℕ → ℕ → ℕ → Halt → Type 0
IsHalt start stops from goal at halt.Goal = (at ≡ goal) × Passed start stops from at
IsHalt start stops from goal at halt.Breakpoint = (at ≤ goal) × Broken start stops from at
IsHalt start stops from goal at halt.Stuck = (at < goal) × Passed start stops from at × IsStuck start at
