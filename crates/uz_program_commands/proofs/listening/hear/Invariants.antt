use Rattle.std.proofs.Common.{◌++◌, List, drop, take, ℕ}
use Rattle.uz_core.specs.declared.machine.Edge.{Edge}
use Rattle.uz_console.specs.Runs.{AreTimed}
use Rattle.uz_report.specs.Waves.{Holds, clock_of}
use Rattle.uz_scan.specs.Pictures.{NeverFalls, newest_first}
use Rattle.uz_program_commands.proofs.listening.hear.Given as goal

abbrev pub invariant-loop-edge : goal.invariant-loop-edge
invariant-loop-edge l = record {
  heard : (before : List Edge) → Holds l.initial.wave (newest_first before) → Holds l.wave (newest_first (before ++ take l.edge-index
      l.edges));
  falls : NeverFalls (clock_of l.wave) (drop l.edge-index l.edges);
  timed : (to : ℕ) → AreTimed (clock_of l.initial.wave) to l.edges → AreTimed (clock_of l.wave) to (drop l.edge-index l.edges);
}
