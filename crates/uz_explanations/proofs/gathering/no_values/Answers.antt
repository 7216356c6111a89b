use Rattle.uz_explanations.specs.declared.parts.Class.TheVariants.{Register, Pair, Flag, Slot}
use Rattle.uz_explanations.specs.declared.parts.Value.TheVariants as what
use Rattle.uz_explanations.proofs.SeenLemmas.{of_start}
use Rattle.uz_explanations.proofs.gathering.no_values.Goals as goal

pub returns : goal.returns
returns c all = record {
  registers = of_start what.Byte Register 32 c.in_ok-registers.registers.items all c.in_ok-registers.ensures.0 c.in_ok-registers.ensures.1;
  pairs = of_start what.Pair Pair 3 c.in_ok-pairs.pairs.items all c.in_ok-pairs.ensures.0 c.in_ok-pairs.ensures.1;
  flags = of_start what.Flag Flag 7 c.in_ok-flags.flags.items all c.in_ok-flags.ensures.0 c.in_ok-flags.ensures.1;
  slots = of_start what.Byte Slot 32 c.in_ok-slots.slots.items all c.in_ok-slots.ensures.0 c.in_ok-slots.ensures.1;
  cells = c.in_ok-cells.ensures all;
}
