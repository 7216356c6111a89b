use Rattle.std.proofs.Common.{◌≡◌, ◌+◌, ◌++◌, length, replicate}
use Rattle.uz_pads.proofs.pad_list.put_times.Given as goal

abbrev pub invariant-loop-left : goal.invariant-loop-left
invariant-loop-left l = record {
  list : l.list.items ++ replicate l.left l.pad ≡ l.initial.list.items ++ replicate l.times l.pad;
  size : length l.list.items + l.left ≡ length l.initial.list.items + l.times;
}

abbrev pub decreases-loop-left : goal.decreases-loop-left
decreases-loop-left l = l.left
