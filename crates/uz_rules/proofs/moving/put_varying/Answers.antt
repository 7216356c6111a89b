use Rattle.uz_rules.proofs.Common.{◌<◌, All, sym, subst}
use Rattle.uz_rules.proofs.MovingLaws.{registers_below, all_put}
use Rattle.uz_rules.proofs.moving.put_varying.Goals as goal

pub put_registers-requires : goal.put_registers-requires
put_registers-requires c =
    subst (All (λ i. i < 32)) (sym c.as_slice.ensures.value) (registers_below c.args.point.now c.args.varying.now c.requires.varying)

pub returns : goal.returns
returns c =
    all_put c.args.point.now c.args.varying.now c.args.line c.args.count c.args.clock c.args.level c.args.at.now c.put_registers.new.at
    c.put_slots.new.at c.put_cells.new.at c.put_pairs.new.at c.as_slice.result.now c.as_slice-2.result.now c.as_slice-3.result.now
    c.as_slice.ensures.value c.as_slice-2.ensures.value c.as_slice-3.ensures.value c.put_registers.ensures c.put_slots.ensures
    c.put_cells.ensures c.put_pairs.ensures
