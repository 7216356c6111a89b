-- Products.
use Rattle.std.proofs.Common.{◌≡◌, ℕ, ◌<◌, Bool, true, false, ◌&&◌, [], ◌∷◌, arith}
use Rattle.std.specs.Prelude.{ℤ, pos, negsuc, ◌*ℤ◌}
use Rattle.uz_core.specs.Arithmetic.{low_word, left_shift_of, factor, product_of}
use Rattle.uz_schedule.specs.Ends.{Ends}
use Rattle.uz_schedule.specs.declared.facts.Bit.TheVariants.{Free}
use Rattle.uz_range.specs.declared.products.Form.{Form}
use Rattle.uz_range.specs.declared.products.Form.TheVariants.{Mul, Muls, Mulsu, Fmul, Fmuls, Fmulsu}
use Rattle.uz_range.specs.Containment.{IsWithin, CoversWide}
use Rattle.uz_range.specs.Answers.{is_single, ends}
use Rattle.uz_range.specs.Rules.{product_by, product_answer}
use Rattle.uz_range.proofs.ShapesCover.{only, both_true}
use Rattle.uz_range.proofs.PairsCover.{choose_wide, exactly_wide_covers}

low_word-lt : (z : ℤ) → low_word z < 65536
unfolding low_word
low_word-lt (pos a) = omega arith
low_word-lt (negsuc a) = omega arith

shifted-lt : (f : Bool) (w : ℕ) → w < 65536 → left_shift_of f w < 65536
shifted-lt true w h = omega arith
shifted-lt false w h = h

product-lt : (x y : ℕ) (s t f : Bool) → (product_of x y s t f).value < 65536
product-lt x y s t f = shifted-lt f _ (low_word-lt (factor x s *ℤ factor y t))

form-lt : (form : Form) (x y : ℕ) → (product_by form x y).value < 65536
form-lt Mul x y = product-lt x y false false false
form-lt Muls x y = product-lt x y true true false
form-lt Mulsu x y = product-lt x y true false false
form-lt Fmul x y = product-lt x y false false true
form-lt Fmuls x y = product-lt x y true true true
form-lt Fmulsu x y = product-lt x y true false true

free : (form : Form) (x y : ℕ) → CoversWide (record { span = ends 0 65535; flags = Free ∷ Free ∷ Free ∷ Free ∷ Free ∷ Free ∷ Free ∷ [] })
    (product_by form x y)
free Mul x y = record {
  value = record { above = omega arith; below = omega (arith, form-lt Mul x y) };
  flags = (tt, (tt, (tt, (tt, (tt, (tt, (tt, tt)))))));
}
free Muls x y = record {
  value = record { above = omega arith; below = omega (arith, form-lt Muls x y) };
  flags = (tt, (tt, (tt, (tt, (tt, (tt, (tt, tt)))))));
}
free Mulsu x y = record {
  value = record { above = omega arith; below = omega (arith, form-lt Mulsu x y) };
  flags = (tt, (tt, (tt, (tt, (tt, (tt, (tt, tt)))))));
}
free Fmul x y = record {
  value = record { above = omega arith; below = omega (arith, form-lt Fmul x y) };
  flags = (tt, (tt, (tt, (tt, (tt, (tt, (tt, tt)))))));
}
free Fmuls x y = record {
  value = record { above = omega arith; below = omega (arith, form-lt Fmuls x y) };
  flags = (tt, (tt, (tt, (tt, (tt, (tt, (tt, tt)))))));
}
free Fmulsu x y = record {
  value = record { above = omega arith; below = omega (arith, form-lt Fmulsu x y) };
  flags = (tt, (tt, (tt, (tt, (tt, (tt, (tt, tt)))))));
}

pub product_covers : (a b : Ends) (form : Form) (x y : ℕ) → IsWithin x a → IsWithin y b → CoversWide (product_answer a b form)
    (product_by form x y)
product_covers a b form x y hx hy =
    choose_wide (is_single a && is_single b) _ _ _
    (λ t. let s : (is_single a ≡ true) × (is_single b ≡ true) = both_true _ _ t in rw (only a x s.0 hx, only b y s.1 hy)
    (exactly_wide_covers (product_by form x y)))
    (λ t. free form x y)
