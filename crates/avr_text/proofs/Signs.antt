-- One more sign.
use Rattle.std.proofs.Common.{◌≡◌, ℕ, suc, ◌+◌, ◌-◌, ◌<◌, ◌≤◌, List, [], ◌∷◌, ◌++◌, length, get_or, take, drop, refl, ◌∙◌, ap, arith}
use Rattle.std.proofs.Math.Seq.{take-suc}
use Rattle.std.proofs.lemmas.List.{length-drop, get_or-drop}
use Rattle.std.proofs.lemmas.Bool.{ltb-true}
use Rattle.std.specs.Prelude.{true, nat_lt}
use Rattle.std.specs.List.{slice_range}
use Rattle.avr_text.specs.declared.tokens.Token.{Token}
use Rattle.avr_text.specs.Arithmetic.{ValueOrWhy}
use Rattle.avr_text.specs.Operators.{sign_applied}
use Rattle.avr_text.specs.Reading.{signed}
use Rattle.std.proofs.lemmas.Bool.Decides.{nat_tests}

signed-append : (ts : List Token) (t : Token) (v : ValueOrWhy) → signed (ts ++ t ∷ []) v ≡ signed ts (sign_applied t.kind v)
signed-append [] t v = refl
signed-append (x ∷ ts) t v = ap (sign_applied x.kind) (signed-append ts t v)

-- the range of a list to one more element
pub range_more : (ts : List Token) (from i : ℕ) (d : Token) → from ≤ i → i < length ts → slice_range ts from (suc i) ≡ slice_range ts from i
    ++ get_or (drop from ts) (i - from) d ∷ []
range_more ts from i d le lt =
    let e : suc i - from ≡ suc (i - from) = omega arith in
    ap (λ n. take n (drop from ts)) e ∙ take-suc (drop from ts) (i - from) d (omega (arith, length-drop from ts))

pub signed_more : (ts : List Token) (from i : ℕ) (t : Token) (v : ValueOrWhy) → from ≤ i → i < length ts → t ≡ get_or ts i t
    → signed (slice_range ts from i) (sign_applied t.kind v) ≡ signed (slice_range ts from (suc i)) v
signed_more ts from i t v le lt e =
    grind (arith, nat_tests, get_or-drop from ts (i - from) t, range_more ts from i t le lt, signed-append (slice_range ts from i))

-- as the loop counts
pub signed_step : (ts : List Token) (from k : ℕ) (t : Token) (v w : ValueOrWhy) → from < k → true ≡ nat_lt (k - 1) (length ts)
    → t ≡ get_or ts
    (k - 1) t → w ≡ sign_applied t.kind v → signed (slice_range ts from (k - 1)) w ≡ signed (slice_range ts from k) v
signed_step ts from k t v w lt test e is = grind (arith, nat_tests, ltb-true (k - 1), signed_more ts from (k - 1) t v (omega arith))
