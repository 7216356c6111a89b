use Rattle.std.proofs.Common.{◌≡◌, ◌*◌, ◌%◌, ◌^◌, bit_or, ap, ◌∙◌, arith}
use Rattle.std.proofs.lemmas.Nat.{or_shifted}
use Rattle.avr_decode.proofs.fields.joined.Goals as goal

pub returns : goal.returns
returns c =
    let e : c.args.upper * 2 ^ c.args.width % 4294967296 ≡ c.args.upper * 2 ^ c.args.width = omega (arith, c.requires.fits) in
    ap (λ x. bit_or x c.args.lower) e ∙ or_shifted c.args.upper c.args.width c.args.lower c.requires.lower
