use Rattle.std.proofs.Common.{ap, ◌∙◌}
use Rattle.avr_asm.specs.declared.output.Hint.TheVariants.{Start}
use Rattle.uz_schedule.specs.declared.kinds.Kind.TheVariants.{Main}
use Rattle.uz_paths.proofs.HintLemmas.{room_at, count_more, left_more}
use Rattle.std.proofs.Common.{length, drop, ◌+◌}
use Rattle.uz_paths.specs.Cells.{with_cells}
use Rattle.uz_paths.proofs.cells.cells_of.Goals as goal

pub put_hint-requires : goal.put_hint-requires
put_hint-requires c = room_at c.args.hints.now c.loop-hint.cells.items c.loop-hint.hint-index (Start Main 0) c.requires
    c.loop-hint-test.true c.loop-hint.invariant.count

pub loop-hint-preserved : goal.loop-hint-preserved
loop-hint-preserved c = record {
  count = ap length c.put_hint.ensures ∙ count_more c.args.hints.now c.loop-hint.cells.items c.loop-hint.hint-index (Start Main 0)
      c.loop-hint-test.true c.loop-hint.invariant.count;
  left = ap (λ ts. with_cells ts (drop (c.loop-hint.hint-index + 1) c.args.hints.now)) c.put_hint.ensures
      ∙ (left_more c.args.hints.now c.loop-hint.cells.items c.loop-hint.hint-index (Start Main 0) c.loop-hint-test.true
      ∙ c.loop-hint.invariant.left);
}
