use Rattle.avr_dis.proofs.OneListing.{same_listing}
use Rattle.avr_dis.proofs.laws.listing_is_unique.Goals as goal

pub returns : goal.returns
returns c = λ text other a b. (same_listing c.at_most_one.ensures c.args.image.now 32768 text other a.0 b.0 a.1 b.1).0
