use Rattle.avr_asm.proofs.TakenLemmas.{over_empty}
use Rattle.avr_asm.proofs.assembler.assemble_lines.Goals as goal

pub returns-clause-built : goal.returns-clause-built
returns-clause-built c = over_empty _ c.args.text.now _ c.in_ok-empty.ensures c.assemble_over.ensures.built
