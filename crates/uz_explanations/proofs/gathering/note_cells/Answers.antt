use Rattle.std.proofs.Common.{map}
use Rattle.uz_schedule.specs.declared.kinds.Kind.TheVariants.{Main, Handler, Alone}
use Rattle.uz_explanations.specs.declared.parts.Class.TheVariants.{Cell}
use Rattle.uz_explanations.specs.Seen.{cell_value}
use Rattle.uz_explanations.proofs.Keeping.{lent}
use Rattle.uz_explanations.proofs.SeenLemmas.{of_block}
use Rattle.uz_explanations.proofs.gathering.note_cells.Goals as goal

pub returns : goal.returns
returns c rest all before = record {
  main = of_block cell_value (Cell Main) 16 c.args.values.now.main.items c.note_parts.new.seen.items (lent c.args.here.now) rest all
      c.in_ok-note_parts.ensures before.main;
  handler = of_block cell_value (Cell Handler) 16 c.args.values.now.handler.items c.note_parts-2.new.seen.items (lent c.args.here.now) rest
      all c.in_ok-note_parts-2.ensures before.handler;
  alone = of_block cell_value (Cell Alone) 16 c.args.values.now.alone.items c.note_parts-3.new.seen.items (lent c.args.here.now) rest all
      c.in_ok-note_parts-3.ensures before.alone;
}
