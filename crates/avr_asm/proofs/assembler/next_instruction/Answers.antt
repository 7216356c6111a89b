use Rattle.std.proofs.Common.{sym, ◌∙◌}
use Rattle.avr_asm.proofs.AssemblyLemmas.{follow_one, follow_more}
use Rattle.avr_asm.proofs.assembler.next_instruction.Goals as goal

pub returns-then-branch : goal.returns-then-branch
returns-then-branch c =
    sym (follow_one _ _ _ _ _ c.loop-i-test.true c.requires.same c.in_ok-is_instruction_line.ensures c.if-branch.true) ∙ c.loop-i.invariant

pub loop-i-preserved : goal.loop-i-preserved
loop-i-preserved c =
    sym (follow_more c.args.lines.now c.args.addresses.now c.loop-i.i _ c.in_ok-is_instruction_line.field-0 c.loop-i-test.true
    c.requires.same c.in_ok-is_instruction_line.ensures c.if-branch.false) ∙ c.loop-i.invariant
