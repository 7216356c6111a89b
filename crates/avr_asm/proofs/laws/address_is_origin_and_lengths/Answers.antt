use Rattle.avr_asm.proofs.AddressLaws.{from_start, from_origin}
use Rattle.avr_asm.proofs.laws.address_is_origin_and_lengths.Goals as goal

pub returns-clause-first : goal.returns-clause-first
returns-clause-first c = from_start

pub returns-clause-later : goal.returns-clause-later
returns-clause-later c = from_origin
