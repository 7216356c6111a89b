use Rattle.std.proofs.Common.{◌≡◌, ◌≤◌, length, take}
use Rattle.uz_core.specs.Run.{edges_until}
use Rattle.uz_console.proofs.approach.in_time.Given as goal

-- those of the edges so far that are in time, which are no more than the edges so far
abbrev pub invariant-loop-edge : goal.invariant-loop-edge
invariant-loop-edge l = record {
  kept : l.kept.items ≡ edges_until l.limit (take l.edge-index l.edge-items);
  room : length l.kept.items ≤ l.edge-index;
}
