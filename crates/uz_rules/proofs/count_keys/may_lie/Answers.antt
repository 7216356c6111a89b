use Rattle.uz_rules.proofs.Common.{rules, ◌≡◌, length}
use Rattle.uz_rules.proofs.CountKeys.{registers_tell, slots_tell, cells_tell}
use Rattle.uz_rules.proofs.count_keys.may_lie.Goals as goal

pub returns-in-Register : goal.returns-in-Register
returns-in-Register c h =
    let size : length c.args.at.now.regs ≡ 32 = search rules in
    c.byte_fits.ensures (registers_tell c.args.at.now c.args.point.now c.args.count size h)

pub returns-in-Slot : goal.returns-in-Slot
returns-in-Slot c h = c.byte_fits-in-Slot.ensures (slots_tell c.args.at.now c.args.point.now c.args.count _ _ c.as_slice.ensures.value
    c.as_slice-in-Slot.ensures.value h)

pub returns-in-Cell : goal.returns-in-Cell
returns-in-Cell c h = c.cell_fits.ensures (cells_tell c.args.at.now c.args.point.now c.args.count _ _ c.as_slice-in-Cell.ensures.value
    c.as_slice-in-Cell-2.ensures.value h)
