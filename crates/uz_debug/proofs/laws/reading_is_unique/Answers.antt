use Rattle.uz_debug.proofs.ScriptLaws.{one_list, one_fault, read_or_faulty}
use Rattle.uz_debug.proofs.laws.reading_is_unique.Goals as goal

pub returns-clause-list : goal.returns-clause-list
returns-clause-list c = one_list

pub returns-clause-fault : goal.returns-clause-fault
returns-clause-fault c = one_fault

pub returns-clause-apart : goal.returns-clause-apart
returns-clause-apart c = read_or_faulty
