use Rattle.std.proofs.Common.{sym, ◌∙◌, ap, map}
use Rattle.avr_asm.proofs.HintLemmas.{stack_from, stack_told}
use Rattle.avr_asm.proofs.hints.stack_of.Goals as goal

pub returns-in-Ok : goal.returns-in-Ok
returns-in-Ok c =
    ap stack_from (sym c.in-Ok.is)
    ∙ stack_told c.args.line.now c.args.symbols.now (map (λ p. p.now) c.args.parts.now) c.shorts.result c.bytes.result c.both.result
    c.shorts.ensures c.bytes.ensures c.both.ensures

pub returns-in-Err : goal.returns-in-Err
returns-in-Err c =
    ap stack_from (sym c.in-Err.is)
    ∙ stack_told c.args.line.now c.args.symbols.now (map (λ p. p.now) c.args.parts.now) c.shorts.result c.bytes.result c.both.result
    c.shorts.ensures c.bytes.ensures c.both.ensures
