use Rattle.avr_asm.specs.Assembly.{seen_built}
use Rattle.avr_asm.specs.Relation.{IsAssembly}
use Rattle.uz_files.proofs.ReadingLemmas.{says_seen}
use Rattle.uz_program_commands.proofs.asm_command.prepare.Goals as goal

pub returns-clause-work : goal.returns-clause-work
returns-clause-work g c = record {
  output = seen_built c.in_ok-built.built;
  spelled = says_seen _ _ _ IsAssembly seen_built c.in_ok-built.built c.in_ok-built.ensures.said;
  text = c.in_ok-text.ensures.exact;
  reads_back = c.in_ok-text.ensures.reads_back;
  line = c.in_ok-line.ensures;
}
