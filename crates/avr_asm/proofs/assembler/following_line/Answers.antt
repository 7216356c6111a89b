use Rattle.std.proofs.Common.{◌∙◌}
use Rattle.avr_asm.proofs.AssemblyLemmas.{follow_more}
use Rattle.avr_asm.proofs.assembler.following_line.Goals as goal

pub returns-else-branch : goal.returns-else-branch
returns-else-branch c =
    c.requires.following ∙ follow_more _ _ _ _ _ c.requires.within c.requires.same c.in_ok-is_instruction_line.ensures c.if-branch.false
