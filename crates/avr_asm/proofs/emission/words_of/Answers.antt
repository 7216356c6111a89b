use Rattle.std.proofs.Common.{arith}
use Rattle.avr_asm.proofs.CodeLemmas.{first_is, second_is}
use Rattle.avr_asm.proofs.emission.words_of.Goals as goal

pub returns-clause-first : goal.returns-clause-first
returns-clause-first c = first_is _ _ _ (omega arith) (omega arith) c.encode.ensures.reads c.encode.ensures.second

pub returns-clause-second : goal.returns-clause-second
returns-clause-second c = second_is _ _ _ (omega arith) (omega arith) c.encode.ensures.reads c.encode.ensures.second
