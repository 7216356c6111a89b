use Rattle.std.proofs.Common.{◌^◌, ◌<◌, sym, subst}
use Rattle.avr_decode.proofs.FieldLemmas.{joined_below}
use Rattle.avr_decode.proofs.fields.runs.Goals as goal

pub invariant_of-result : goal.invariant_of-result
invariant_of-result g c = record {
  in_range = subst (λ x. x < 2 ^ g.row.BITS) (sym c.joined.ensures)
      (joined_below g.row.BITS c.args.width c.bits.result c.bits-2.result c.requires.width c.bits.ensures.below c.bits-2.ensures.below);
}
