use Rattle.std.proofs.Common.{sym, ◌∙◌, ap}
use Rattle.avr_asm.proofs.HintLemmas.{cell_from, cell_told}
use Rattle.avr_asm.proofs.hints.handler_cell.Goals as goal

pub returns-in-Ok : goal.returns-in-Ok
returns-in-Ok c =
    ap cell_from (sym c.in-Ok.is) ∙ cell_told _ _ _ _ c.ranged.result _
    c.both.result c.ranged.ensures c.byte-first.ensures c.part.ensures.part c.both.ensures

pub returns-in-Err : goal.returns-in-Err
returns-in-Err c =
    ap cell_from (sym c.in-Err.is) ∙ cell_told _ _ _ _ c.ranged.result _
    c.both.result c.ranged.ensures c.byte-first.ensures c.part.ensures.part c.both.ensures
