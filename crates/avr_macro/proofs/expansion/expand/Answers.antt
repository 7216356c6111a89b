use Rattle.avr_macro.proofs.Whole.{flat_answer, refused_answer, short_answer, agrees, begins}
use Rattle.avr_macro.proofs.expansion.expand.Goals as goal

pub returns-clause-flat : goal.returns-clause-flat
returns-clause-flat g c = flat_answer _ _ _ _ _ c.expand_files.ensures.came

pub returns-clause-short : goal.returns-clause-short
returns-clause-short g c = short_answer _ _ _ _ _ c.expand_files.ensures.came

pub returns-clause-refused : goal.returns-clause-refused
returns-clause-refused g c = refused_answer _ _ _ _ _ c.expand_files.ensures.came

pub returns-clause-exact : goal.returns-clause-exact
returns-clause-exact g c = λ m end e x. agrees _ _ _ _ _ _ _ c.expand_files.ensures.came e x

pub returns-clause-names : goal.returns-clause-names
returns-clause-names g c = λ m end e x. begins _ _ _ _ _ _ _ c.expand_files.ensures.came e x
