use Rattle.std.proofs.Common.{◌≡◌, ◌≤◌, ◌++◌, take, drop}
use Rattle.uz_scan.specs.Pictures.{NeverFalls, end_records, newest_first, records, row_records}
use Rattle.uz_scan.specs.Scanning.{StandsFor, clock_of}
use Rattle.uz_scan.proofs.whole.picture.Given as goal

abbrev pub invariant-loop-edge : goal.invariant-loop-edge
invariant-loop-edge l = record {
  stands : StandsFor l.scanner (newest_first (take l.edge-index l.edges));
  clocks : NeverFalls (clock_of l.scanner) (drop l.edge-index l.edges);
  records : l.out.items ≡ l.initial.out.items ++ records (newest_first (take l.edge-index l.edges));
  rows : l.rows ≡ row_records (newest_first (take l.edge-index l.edges));
  few_rows : l.rows ≤ l.edge-index;
  few_ends : l.ends ≤ l.edge-index;
  ends : l.ends ≡ end_records (newest_first (take l.edge-index l.edges));
}
