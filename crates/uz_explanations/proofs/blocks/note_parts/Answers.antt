use Rattle.std.proofs.Common.{◌<◌, ◌∙◌, arith, length}
use Rattle.std.proofs.lemmas.List.{length-set}
use Rattle.uz_explanations.specs.Differing.{values}
use Rattle.uz_explanations.specs.Putting.{keep_all}
use Rattle.uz_explanations.proofs.Keeping.{lent}
use Rattle.uz_explanations.proofs.SeenLemmas.{all_kept, done_next, left_next}
use Rattle.uz_explanations.proofs.blocks.note_parts.Goals as goal

pub loop-number-preserved : goal.loop-number-preserved
loop-number-preserved g c =
    let below : c.loop-number.number < length c.loop-number.seen.items = omega (
      arith,
      c.loop-number-test.true,
      c.min-number-end.ensures,
      c.loop-number.invariant.size,
      c.len.ensures,
      c.args.seen.now.ok.0,
    ) in
    record {
      size = length-set c.loop-number.seen.items c.loop-number.number c.note_part.new.seen ∙ c.loop-number.invariant.size;
      done = done_next g.T.Said.value (λ k seen. keep_all seen (values g.P.Parts.class k (lent c.args.here.now))) c.args.seen.now.items
          c.loop-number.seen.items c.loop-number.number c.index_mut.result.now c.note_part.new.seen below c.index_mut.ensures.value
          c.in_ok-note_part.ensures c.loop-number.invariant.done c.loop-number.invariant.left;
      left = left_next g.T.Said.value c.args.seen.now.items c.loop-number.seen.items c.loop-number.number c.note_part.new.seen
          c.loop-number.invariant.left;
    }

pub returns : goal.returns
returns g c = all_kept g.T.Said.value g.P.Parts.class c.args.seen.now.items c.loop-number.seen.items (lent c.args.here.now)
    c.loop-number.number c.min-number-end.result c.most_parts.result c.loop-number.invariant.size
    (omega (arith, c.min-number-end.ensures, c.len.ensures, c.args.seen.now.ok.0)) (omega (arith, c.loop-number-test.false))
    c.most_parts.ensures c.loop-number.invariant.done c.loop-number.invariant.left
