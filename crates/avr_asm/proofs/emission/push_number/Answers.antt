use Rattle.std.proofs.Common.{◌≡◌, rules, w64, ◌∙◌, ap}
use Rattle.std.specs.Int.{int_shr}
use Rattle.std.proofs.lemmas.Int.{to_z-of_z}
use Rattle.avr_asm.specs.Emission.{low_byte}
use Rattle.avr_asm.proofs.EmissionLemmas.{wide_pushed}
use Rattle.avr_asm.proofs.emission.push_number.Goals as goal

pub returns-in_ok-push-2 : goal.returns-in_ok-push-2
returns-in_ok-push-2 c =
    let high : c.low_byte-then-wide.result ≡ low_byte (int_shr c.args.value 8) = search rules in
    wide_pushed c.args.wide c.args.value c.args.bytes.now.items _ _ _ _ c.if-wide.true c.in_ok-push.ensures.items
    c.in_ok-push-2.ensures.items (c.low_byte.ensures ∙ ap low_byte (to_z-of_z w64 c.args.value c.ranges.value)) high
