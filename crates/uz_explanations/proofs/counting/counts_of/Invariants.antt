use Rattle.std.proofs.Common.{◌≡◌, ◌<◌, ℕ, length, slice_index_or, take}
use Rattle.uz_explanations.specs.Counting.{count_at, pc_end}
use Rattle.uz_explanations.proofs.counting.counts_of.Given as goal

-- how many stand at each program counter so far
abbrev pub invariant-loop-x : goal.invariant-loop-x
invariant-loop-x l = record {
  same : length l.counts.items ≡ pc_end l.instances;
  so_far : (pc : ℕ) → pc < pc_end l.instances → slice_index_or l.counts.items pc 0 ≡ count_at pc (take l.x-index l.instances);
}
