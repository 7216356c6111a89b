-- Two patterns that fix one bit otherwise stand in no number together.
use Rattle.std.proofs.Common.{◌≡◌, ℕ, Bool, true, false, ◌&&◌, ◌||◌, List, [], ◌∷◌, Option, None, Some, length, nat_eq, refl, ◌∙◌, ap}
use Rattle.std.proofs.Common.{arith}
use Rattle.std.proofs.lemmas.Bool.Decides.{nat_tests}
use Rattle.std.specs.Int.{bit_at}
use Rattle.avr_table.specs.Pattern.{digit, meets, stands}

abbrev pub differ : Option Bool → Option Bool → Bool
differ (Some true) (Some false) = true
differ (Some false) (Some true) = true
differ c d = false

-- some place has different digits
abbrev pub apart : List ℕ → List ℕ → Bool
apart (c ∷ cs) (d ∷ ds) = (nat_eq (length cs) (length ds) && differ (digit c) (digit d)) || apart cs ds
apart p q = false

and_true : (a b : Bool) → (a && b) ≡ true → (a ≡ true) × (b ≡ true)
and_true true b h = (refl, h)
and_true false b h = absurd (cc)

same_number : (a b : ℕ) → nat_eq a b ≡ true → a ≡ b
same_number a b h = grind (arith, nat_tests)

clash : (c d : Option Bool) (x : ℕ) → differ c d ≡ true → meets c x ≡ true → meets d x ≡ true → ⊥
clash (Some true) (Some false) x h u v = let a : x ≡ 1 = same_number x 1 u in let b : x ≡ 0 = same_number x 0 v in omega arith
clash (Some false) (Some true) x h u v = let a : x ≡ 0 = same_number x 0 u in let b : x ≡ 1 = same_number x 1 v in omega arith
clash (Some true) (Some true) x h u v = absurd (cc)
clash (Some false) (Some false) x h u v = absurd (cc)
clash (Some true) None x h u v = absurd (cc)
clash (Some false) None x h u v = absurd (cc)
clash None d x h u v = absurd (cc)

or_case : (a b : Bool) → (a || b) ≡ true → (b ≡ false → a ≡ true)
or_case true b h k = refl
or_case false b h k = absurd (cc)

pub apart_not : (p q : List ℕ) (n : ℕ) → apart p q ≡ true → stands p n ≡ true → stands q n ≡ true → ⊥
unfolding stands
apart_not [] q n h u v = absurd (cc)
apart_not (c ∷ cs) [] n h u v = absurd (cc)
apart_not (c ∷ cs) (d ∷ ds) n h u v =
    by_rest (λ e. apart_not cs ds n e (and_true _ _ u).1 (and_true _ _ v).1) (apart cs ds) refl
  where
    by_rest : (apart cs ds ≡ true → ⊥) → (b : Bool) → apart cs ds ≡ b → ⊥
    by_rest rec true e = rec e
    by_rest rec false e =
        let t : (nat_eq (length cs) (length ds) ≡ true) × (differ (digit c) (digit d) ≡ true) = and_true _ _ (or_case _ _ h e) in
        let l : length cs ≡ length ds = same_number _ _ t.0 in
        clash (digit c) (digit d) (bit_at n (length cs)) t.1 (and_true _ _ u).0 (ap (λ k. meets (digit d) (bit_at n k)) l
        ∙ (and_true _ _ v).0)
