use Rattle.avr_asm.proofs.AssemblyLemmas.{instruction_put}
use Rattle.avr_asm.proofs.assembler.put_instruction.Goals as goal

pub returns : goal.returns
returns c = instruction_put _ _ _ _ _ _ _ _ c.in_ok-bytes.ensures c.as_slice.ensures.value c.in_ok-put.ensures c.in_ok-push.ensures.items
