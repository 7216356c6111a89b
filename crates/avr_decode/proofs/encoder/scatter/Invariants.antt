use Rattle.avr_decode.proofs.ScatteredLemmas.{Spread}
use Rattle.avr_decode.proofs.encoder.scatter.Given as goal

abbrev pub invariant-loop-i : goal.invariant-loop-i
invariant-loop-i l = Spread l.i l.mask l.base l.fn.x l.number l.rest
