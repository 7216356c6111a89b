use Rattle.avr_text.specs.Operands.{seen}
use Rattle.avr_text.proofs.WordLemmas.{words_of_result}
use Rattle.avr_text.proofs.operands.Operands.instruction.Goals as goal

pub returns-clause-words : goal.returns-clause-words
returns-clause-words c = words_of_result c.args.mnemonic (seen c.args.self.now) c.instruction_by_forms.result c.instruction_by_forms.ensures
