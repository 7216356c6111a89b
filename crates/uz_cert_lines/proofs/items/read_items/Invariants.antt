use Rattle.std.proofs.Common.{◌≡◌, length}
use Rattle.uz_cert_lines.specs.Items.{items_from, read_items}
use Rattle.uz_cert_lines.proofs.items.read_items.Given as goal

-- what is left leads where all of it does
abbrev pub invariant-loop-word : goal.invariant-loop-word
invariant-loop-word l = record {
  same : items_from l.shape l.cells l.words.ended l.facts l.words.list ≡ read_items l.shape l.cells l.fn.words;
}

abbrev pub decreases-loop-word : goal.decreases-loop-word
decreases-loop-word l = length l.words.list
