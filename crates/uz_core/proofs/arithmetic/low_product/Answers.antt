use Rattle.std.proofs.Common.{◌≡◌, ◌<◌, ◌∙◌, ap, rules, arith, w16}
use Rattle.std.specs.Prelude.{ℤ, pos, negsuc, ◌*ℤ◌}
use Rattle.std.specs.Int.{cast_unsigned, int_wrap, int_rem_euclid, int_wrapping_mul}
use Rattle.std.specs.Int.RustNames.{unsigned_abs}
use Rattle.std.proofs.lemmas.Int.{wraps, of_z-to_z}
use Rattle.uz_core.specs.Arithmetic.{low_word}
use Rattle.uz_core.proofs.arithmetic.low_product.Goals as goal

low_word-lt : (z : ℤ) → unsigned_abs (int_rem_euclid z (pos 65536)) < 65536
low_word-lt (pos a) = omega arith
low_word-lt (negsuc a) = omega arith

wrapped : (z : ℤ) → cast_unsigned w16 (int_wrap w16 z) ≡ low_word z
unfolding int_wrap low_word
wrapped z = of_z-to_z w16 (unsigned_abs (int_rem_euclid z (pos 65536))) (low_word-lt z)

pub returns : goal.returns
returns c =
    let e : int_wrapping_mul w16 c.args.x c.args.y ≡ int_wrap w16 (c.args.x *ℤ c.args.y) = search (rules, wraps) in
    c.cast_unsigned.ensures ∙ ap (cast_unsigned w16) e ∙ wrapped (c.args.x *ℤ c.args.y)
