use Rattle.avr_text.proofs.SpansFound.{given_spelled, given_fault}
use Rattle.avr_text.proofs.FaultsCut.{given_faulty}
use Rattle.avr_text.proofs.SpelledCut.{given_only}
use Rattle.avr_text.proofs.lexer.lex.Goals as goal

pub returns-clause-spelled : goal.returns-clause-spelled
returns-clause-spelled c = given_spelled c.args.text.now c.cut.result c.cut.ensures.tokens

pub returns-clause-fault : goal.returns-clause-fault
returns-clause-fault c = given_fault c.args.text.now c.cut.result c.cut.ensures.memory c.cut.ensures.tokens

pub returns-clause-only : goal.returns-clause-only
returns-clause-only c = given_only c.args.text.now c.cut.result c.cut.ensures.tokens

pub returns-clause-faulty : goal.returns-clause-faulty
returns-clause-faulty c = given_faulty c.args.text.now c.cut.result c.cut.ensures.tokens
