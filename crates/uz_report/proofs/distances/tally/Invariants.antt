use Rattle.std.proofs.Common.{◌≡◌, ◌<◌, ◌≤◌, ℕ, length, slice_index_or, take}
use Rattle.uz_schedule.specs.Schedule.{scanline}
use Rattle.uz_report.specs.Shown.{times}
use Rattle.uz_report.proofs.distances.tally.Given as goal

-- how often each came so far
abbrev pub invariant-loop-distance : goal.invariant-loop-distance
invariant-loop-distance l = record {
  same : length l.counts.items ≡ scanline;
  so_far : (d : ℕ) → d < scanline → slice_index_or l.counts.items d 0 ≡ times d (take l.distance-index l.all);
  few : (d : ℕ) → d < scanline → slice_index_or l.counts.items d 0 ≤ l.distance-index;
}
