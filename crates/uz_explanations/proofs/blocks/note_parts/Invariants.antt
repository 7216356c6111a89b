use Rattle.std.proofs.Common.{◌≡◌, ◌≤◌, ◌<◌, ℕ, length}
use Rattle.uz_explanations.specs.Differing.{values}
use Rattle.uz_explanations.specs.Putting.{keep_all}
use Rattle.uz_explanations.specs.Seen.{seen_at}
use Rattle.uz_explanations.proofs.Keeping.{lent}
use Rattle.uz_explanations.proofs.blocks.note_parts.Given as goal

-- what is said of the parts so far is kept, the others are as they were
abbrev pub invariant-loop-number : goal.invariant-loop-number
invariant-loop-number g l = record {
  size : length l.seen.items ≡ length l.initial.seen.items;
  done : (j : ℕ) → j < l.number → seen_at g.T.Said.value l.seen.items j
      ≡ keep_all (seen_at g.T.Said.value l.initial.seen.items j) (values g.P.Parts.class j (lent l.here));
  left : (j : ℕ) → l.number ≤ j → seen_at g.T.Said.value l.seen.items j ≡ seen_at g.T.Said.value l.initial.seen.items j;
}
