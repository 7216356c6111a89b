use Rattle.avr_dis.specs.Listing.{Listed}
use Rattle.avr_dis.proofs.lines.listing.Given as goal

abbrev pub invariant-loop-at : goal.invariant-loop-at
invariant-loop-at l = Listed l.image l.at l.text.items l.taken
