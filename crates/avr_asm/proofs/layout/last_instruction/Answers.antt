use Rattle.std.proofs.Common.{arith}
use Rattle.avr_asm.proofs.LayoutLemmas.{here_last, none_here, none_at_end, none_last_from}
use Rattle.avr_asm.proofs.layout.last_instruction.Goals as goal

pub loop-i-init : goal.loop-i-init
loop-i-init c = none_at_end c.args.lines.now _ (omega arith)

pub returns-then-branch : goal.returns-then-branch
returns-then-branch c = here_last c.args.lines.now c.loop-i.i _ c.in_ok-is_instruction_line.field-0 c.loop-i-test.true (omega arith)
    c.in_ok-is_instruction_line.ensures c.if-branch.true c.loop-i.invariant

pub loop-i-preserved : goal.loop-i-preserved
loop-i-preserved c = none_here c.args.lines.now c.loop-i.i _ c.in_ok-is_instruction_line.field-0 c.loop-i-test.true (omega arith)
    c.in_ok-is_instruction_line.ensures c.if-branch.false c.loop-i.invariant

pub returns : goal.returns
returns c = none_last_from _ c.loop-i.i (omega arith) c.loop-i.invariant
