use Rattle.std.proofs.Common.{◌∙◌, map}
use Rattle.std.specs.Prelude.{option_map}
use Rattle.uz_explanations.specs.Differing.{values}
use Rattle.uz_explanations.specs.Putting.{keep_all}
use Rattle.uz_explanations.proofs.Keeping.{full_stays, lent, noted_last, part_next}
use Rattle.uz_explanations.proofs.blocks.note_part.Goals as goal

pub returns-then-len-ge-MOST_VALUES : goal.returns-then-len-ge-MOST_VALUES
returns-then-len-ge-MOST_VALUES g c = full_stays g.T.Said.value c.args.seen.now.values.items c.len.result
    (values g.P.Parts.class c.args.number (lent c.args.here.now)) (c.len.ensures ∙ c.args.seen.now.values.ok.0)
    c.if-len-ge-MOST_VALUES.true

pub loop-x-preserved : goal.loop-x-preserved
loop-x-preserved g c = record {
  kept = part_next g.P.Parts.class c.args.number c.args.here.now c.loop-x.x-index c.x-item.result
      (map g.T.Said.value c.loop-x.seen.values.items) (map g.T.Said.value c.note_said.new.seen.values.items)
      (keep_all (map g.T.Said.value c.args.seen.now.values.items) (values g.P.Parts.class c.args.number (lent c.args.here.now)))
      (option_map g.T.Said.value c.said-said.result) c.loop-x-test.true c.x-item.is c.said-said.ensures c.in_ok-note_said.ensures
      c.loop-x.invariant.kept;
  last = noted_last (map g.T.Said.value c.loop-x.seen.values.items) (map g.T.Said.value c.note_said.new.seen.values.items)
      (option_map g.T.Said.value c.said-said.result) c.in_ok-note_said.ensures;
}
