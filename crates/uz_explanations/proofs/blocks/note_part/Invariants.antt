use Rattle.std.proofs.Common.{◌≡◌, drop, map}
use Rattle.std.specs.Prelude.{option_map}
use Rattle.uz_explanations.specs.Differing.{values}
use Rattle.uz_explanations.specs.Putting.{keep_all, noted}
use Rattle.uz_explanations.proofs.Keeping.{lent}
use Rattle.uz_explanations.proofs.blocks.note_part.Given as goal

-- with those that are left; and the value that came last is kept
abbrev pub invariant-loop-x : goal.invariant-loop-x
invariant-loop-x g l = record {
  kept : keep_all (map g.T.Said.value l.seen.values.items) (values g.P.Parts.class l.number (lent (drop l.x-index l.here)))
      ≡ keep_all (map g.T.Said.value l.initial.seen.values.items) (values g.P.Parts.class l.number (lent l.here));
  last : noted (map g.T.Said.value l.seen.values.items) (option_map g.T.Said.value l.last) ≡ map g.T.Said.value l.seen.values.items;
}
