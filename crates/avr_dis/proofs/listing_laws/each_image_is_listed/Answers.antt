use Rattle.avr_dis.proofs.Listed.{image_listed}
use Rattle.avr_dis.proofs.listing_laws.each_image_is_listed.Goals as goal

pub returns : goal.returns
returns c = image_listed
