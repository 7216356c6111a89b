use Rattle.std.proofs.Common.{◌≡◌, take}
use Rattle.uz_core.specs.Run.{edges_until}
use Rattle.uz_console.proofs.approach.all_in_time.Given as goal

-- the edges so far are in time
abbrev pub invariant-loop-edge : goal.invariant-loop-edge
invariant-loop-edge l = edges_until l.limit (take l.edge-index l.edges) ≡ take l.edge-index l.edges
