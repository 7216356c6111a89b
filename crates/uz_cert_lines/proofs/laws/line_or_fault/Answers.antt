use Rattle.uz_cert_lines.proofs.LineLaws.{decided, one_said, one_fault, not_both, read_allowed, allowed_read, refused_faulty}
use Rattle.uz_cert_lines.proofs.LineLaws.{faulty_refused}
use Rattle.uz_cert_lines.proofs.laws.line_or_fault.Goals as goal

pub returns-clause-either : goal.returns-clause-either
returns-clause-either c = decided

pub returns-clause-one_said : goal.returns-clause-one_said
returns-clause-one_said c = one_said

pub returns-clause-one_fault : goal.returns-clause-one_fault
returns-clause-one_fault c = one_fault

pub returns-clause-not_both : goal.returns-clause-not_both
returns-clause-not_both c = not_both

pub returns-clause-read : goal.returns-clause-read
returns-clause-read c = read_allowed

pub returns-clause-allowed : goal.returns-clause-allowed
returns-clause-allowed c = allowed_read

pub returns-clause-refused : goal.returns-clause-refused
returns-clause-refused c = refused_faulty

pub returns-clause-faulty : goal.returns-clause-faulty
returns-clause-faulty c = faulty_refused
