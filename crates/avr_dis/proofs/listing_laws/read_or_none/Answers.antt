use Rattle.std.proofs.Common.{◌+◌, ◌*◌, ◌^◌}
use Rattle.avr_dis.proofs.EachRow.{read_or_none}
use Rattle.avr_dis.proofs.listing_laws.read_or_none.Goals as goal

pub returns : goal.returns
returns c = λ first second. read_or_none (first * 2 ^ 16 + second)
