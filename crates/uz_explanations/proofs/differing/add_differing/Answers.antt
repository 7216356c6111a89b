use Rattle.std.proofs.Common.{[]}
use Rattle.uz_explanations.specs.Counting.{crowd}
use Rattle.uz_explanations.specs.declared.parts.Class.TheVariants.{Register, Pair, Flag, Slot}
use Rattle.uz_explanations.specs.declared.parts.Value.TheVariants as what
use Rattle.uz_explanations.proofs.Lines.{all_parts}
use Rattle.uz_explanations.proofs.SeenLemmas.{of_lent}
use Rattle.uz_explanations.proofs.differing.add_differing.Goals as goal

pub returns : goal.returns
returns c =
    let all = crowd c.args.pc c.args.instances.now in
    let are = c.in_ok-values.ensures in
    let v = c.in_ok-values.values in
    all_parts _ _ _ _ _ _ all
    (c.in_ok-add_class.ensures all 32 (of_lent what.Byte Register 32 v.registers.items _ [] all c.as_slice.ensures.value are.registers))
    (c.in_ok-add_class-2.ensures all 3 (of_lent what.Pair Pair 3 v.pairs.items _ [] all c.as_slice-2.ensures.value are.pairs))
    (c.in_ok-add_class-3.ensures all 7 (of_lent what.Flag Flag 7 v.flags.items _ [] all c.as_slice-3.ensures.value are.flags))
    (c.in_ok-add_class-4.ensures all 32 (of_lent what.Byte Slot 32 v.slots.items _ [] all c.as_slice-4.ensures.value are.slots))
    (c.in_ok-add_cells.ensures all are.cells)
