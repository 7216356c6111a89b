use Rattle.std.proofs.Common.{sym, ◌∙◌, ap, arith}
use Rattle.avr_asm.proofs.HintLemmas.{half_from, half_told}
use Rattle.avr_asm.proofs.hints.half_of.Goals as goal

pub short-requires : goal.short-requires
short-requires c = c.requires 0 _ (omega arith)

pub short-requires-in-len2 : goal.short-requires-in-len2
short-requires-in-len2 c = c.requires 1 _ (omega arith)

pub returns-in-Ok : goal.returns-in-Ok
returns-in-Ok c =
    ap half_from (sym c.in-Ok.is)
    ∙ half_told c.args.line.now c.args.symbols.now c.args.parts.now _ _ _ _ _ (omega arith) c.short.ensures c.short-in-len2.ensures
    c.both.ensures

pub returns-in-Err : goal.returns-in-Err
returns-in-Err c =
    ap half_from (sym c.in-Err.is)
    ∙ half_told c.args.line.now c.args.symbols.now c.args.parts.now _ _ _ _ _ (omega arith) c.short.ensures c.short-in-len2.ensures
    c.both.ensures
