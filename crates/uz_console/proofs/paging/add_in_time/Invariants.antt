use Rattle.std.proofs.Common.{◌≡◌, ◌≤◌, ◌+◌, ◌++◌, length, take}
use Rattle.uz_core.specs.Run.{edges_until}
use Rattle.uz_console.proofs.paging.add_in_time.Given as goal

-- those of the edges so far that are in time come after the page's, and are no more than the edges so far
abbrev pub invariant-loop-edge : goal.invariant-loop-edge
invariant-loop-edge l = record {
  added : l.page.items ≡ l.initial.page.items ++ edges_until l.limit (take l.edge-index l.edges);
  room : length l.page.items ≤ length l.initial.page.items + l.edge-index;
}
