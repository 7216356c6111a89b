use Rattle.avr_text.proofs.WordLemmas.{words_of_made}
use Rattle.avr_text.proofs.operand_laws.name_gives_word_count.Goals as goal

pub returns : goal.returns
returns c = words_of_made
