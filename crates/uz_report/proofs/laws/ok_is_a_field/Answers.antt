use Rattle.uz_report.specs.Order.{pulses_of}
use Rattle.uz_report.proofs.Fields.{some_field}
use Rattle.uz_report.proofs.laws.ok_is_a_field.Goals as goal

pub returns : goal.returns
returns c = λ s is. some_field s (pulses_of s) is
