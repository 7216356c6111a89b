use Rattle.std.proofs.Common.{◌*◌, ◌+◌}
use Rattle.avr_decode.proofs.Unique.{unique}
use Rattle.avr_decode.proofs.laws.at_most_one.Goals as goal

pub returns : goal.returns
returns c = λ first second. unique (first * 65536 + second)
