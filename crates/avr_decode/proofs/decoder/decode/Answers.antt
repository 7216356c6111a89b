use Rattle.std.proofs.Common.{◌*◌, ◌+◌}
use Rattle.avr_decode.proofs.Unique.{unique}
use Rattle.avr_decode.proofs.decoder.decode.Goals as goal

pub returns-clause-unique : goal.returns-clause-unique
returns-clause-unique c = unique (c.args.first * 65536 + c.args.second)
