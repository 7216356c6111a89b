use Rattle.uz_explanations.specs.declared.parts.Class.TheVariants.{Register, Pair, Flag, Slot}
use Rattle.uz_explanations.specs.declared.parts.Value.TheVariants as what
use Rattle.uz_explanations.proofs.Keeping.{lent}
use Rattle.uz_explanations.proofs.SeenLemmas.{of_block}
use Rattle.uz_explanations.proofs.gathering.note_crowd.Goals as goal

pub returns : goal.returns
returns c rest all before = record {
  registers = of_block what.Byte Register 32 c.args.values.now.registers.items c.note_parts.new.seen.items (lent c.args.here.now) rest all
      c.in_ok-note_parts.ensures before.registers;
  pairs = of_block what.Pair Pair 3 c.args.values.now.pairs.items c.note_parts-2.new.seen.items (lent c.args.here.now) rest all
      c.in_ok-note_parts-2.ensures before.pairs;
  flags = of_block what.Flag Flag 7 c.args.values.now.flags.items c.note_parts-3.new.seen.items (lent c.args.here.now) rest all
      c.in_ok-note_parts-3.ensures before.flags;
  slots = of_block what.Byte Slot 32 c.args.values.now.slots.items c.note_parts-4.new.seen.items (lent c.args.here.now) rest all
      c.in_ok-note_parts-4.ensures before.slots;
  cells = c.in_ok-note_cells.ensures rest all before.cells;
}
