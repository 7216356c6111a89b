use Rattle.std.proofs.Common.{[]}
use Rattle.uz_schedule.specs.declared.kinds.Kind.TheVariants.{Main, Handler, Alone}
use Rattle.uz_explanations.specs.declared.parts.Class.TheVariants.{Cell}
use Rattle.uz_explanations.specs.Differing.{parts_text}
use Rattle.uz_explanations.specs.Seen.{cell_value}
use Rattle.uz_explanations.proofs.Lines.{three_more}
use Rattle.uz_explanations.proofs.SeenLemmas.{of_lent}
use Rattle.uz_explanations.proofs.differing.add_cells.Goals as goal

pub returns : goal.returns
returns c all are = three_more _ _ _ _ (parts_text (Cell Main) 16 all) (parts_text (Cell Handler) 16 all) (parts_text (Cell Alone) 16 all)
    (c.in_ok-add_class.ensures all 16 (of_lent cell_value (Cell Main) 16 c.args.values.now.main.items _ [] all c.as_slice.ensures.value are.main))
    (c.in_ok-add_class-2.ensures all 16 (of_lent cell_value (Cell Handler) 16 c.args.values.now.handler.items _ [] all
    c.as_slice-2.ensures.value are.handler))
    (c.in_ok-add_class-3.ensures all 16 (of_lent cell_value (Cell Alone) 16 c.args.values.now.alone.items _ [] all
    c.as_slice-3.ensures.value are.alone))
