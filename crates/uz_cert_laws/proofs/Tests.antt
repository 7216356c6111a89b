-- Tests, and what their answers tell.
use Rattle.uz_cert_laws.proofs.Common.{suc, ◌≡◌, ◌⊎◌, inl, inr, ℕ, ◌<◌, ◌≤◌, ◌≢◌, Bool, true, false, cond, not, ◌&&◌, ◌||◌, eqb, leb, ltb}
use Rattle.uz_cert_laws.proofs.Common.{List, bytes_eq, refl, ◌∙◌, ap, subst, arith, Result, Ok, Err, nat_tests, ◌>>=◌, CertWhy}
use Rattle.std.proofs.lemmas.Slice.Eq.{bytes_eq-Decides}

pub and_true : (a b : Bool) → (a && b) ≡ true → (a ≡ true) × (b ≡ true)
and_true true b e = (refl, e)
and_true false b e = absurd cc

pub both_true : (a b : Bool) → a ≡ true → b ≡ true → (a && b) ≡ true
both_true true b e f = f
both_true false b e f = absurd cc

pub and_false : (a b : Bool) → (a && b) ≡ false → (a ≡ false) ⊎ (b ≡ false)
and_false true b e = inr e
and_false false b e = inl refl

pub or_false : (a b : Bool) → (a || b) ≡ false → (a ≡ false) × (b ≡ false)
or_false true b e = absurd cc
or_false false b e = (refl, e)

pub not_true : (a : Bool) → not a ≡ true → a ≡ false
not_true true e = absurd cc
not_true false e = refl

pub true_not : (a : Bool) → a ≡ true → a ≡ false → ⊥
true_not true e f = absurd cc
true_not false e f = absurd cc

pub neither : (a b : Bool) → a ≡ false → b ≡ false → (a || b) ≡ false
neither true b e f = absurd cc
neither false b e f = f

pub refuted : (a : Bool) → (a ≡ true → ⊥) → a ≡ false
refuted true h = absurd (h refl)
refuted false h = refl

pub word_is : (w v : List ℕ) → bytes_eq w v ≡ true → w ≡ v
word_is w v e = (bytes_eq-Decides w v).0 e

pub same_word : (w : List ℕ) → bytes_eq w w ≡ true
same_word w = (bytes_eq-Decides w w).1 refl

pub same_number : (n : ℕ) → eqb n n ≡ true
same_number n = grind (arith, nat_tests)

pub some_not : (n : ℕ) → suc n ≢ 0
some_not n e = omega arith

pub number_is : (a b : ℕ) → eqb a b ≡ true → a ≡ b
number_is a b e = grind (arith, nat_tests)

pub number_not : (a b : ℕ) → eqb a b ≡ false → a ≢ b
number_not a b e f = grind (arith, nat_tests)

pub not_number : (a b : ℕ) → a ≢ b → eqb a b ≡ false
not_number a b h = grind (arith, nat_tests)

pub le_is : (a b : ℕ) → leb a b ≡ true → a ≤ b
le_is a b e = grind (arith, nat_tests)

pub is_le : (a b : ℕ) → a ≤ b → leb a b ≡ true
is_le a b h = grind (arith, nat_tests)

pub lt_is : (a b : ℕ) → ltb a b ≡ true → a < b
lt_is a b e = grind (arith, nat_tests)

pub is_lt : (a b : ℕ) → a < b → ltb a b ≡ true
is_lt a b h = grind (arith, nat_tests)

pub not_lt : (a b : ℕ) → ltb a b ≡ false → b ≤ a
not_lt a b e = grind (arith, nat_tests)

pub is_not_lt : (a b : ℕ) → b ≤ a → ltb a b ≡ false
is_not_lt a b h = grind (arith, nat_tests)

pub not_le : (a b : ℕ) → leb a b ≡ false → b < a
not_le a b e = grind (arith, nat_tests)

-- answers

abbrev pub fine : {A : Type 0} → A → Result A CertWhy
fine a = Ok a

pub fine_is : {A : Type 0} (a b : A) → fine a ≡ fine b → a ≡ b
fine_is a b e = cc

-- what holds of a value holds of the same value
pub given : {A : Type 0} (P : A → Type 0) (a b : A) → fine a ≡ fine b → P a → P b
given P a b e h = subst P (fine_is a b e) h

pub fault_not : {A : Type 0} (w : CertWhy) (a : A) → Err w ≡ fine a → ⊥
fault_not w a e = cc

-- a test that has to pass, and one that has to fail
pub passed : {A : Type 0} (t : Bool) (r : Result A CertWhy) (w : CertWhy) (a : A) → cond t r (Err w) ≡ Ok a → (t ≡ true) × (r ≡ Ok a)
passed true r w a e = (refl, e)
passed false r w a e = absurd cc

pub failed : {A : Type 0} (t : Bool) (r : Result A CertWhy) (w : CertWhy) (a : A) → cond t (Err w) r ≡ Ok a → (t ≡ false) × (r ≡ Ok a)
failed true r w a e = absurd cc
failed false r w a e = (refl, e)

pub so : {A : Type 0} (t : Bool) (r s : A) → t ≡ true → cond t r s ≡ r
so t r s e = ap (λ b. cond b r s) e

pub else_so : {A : Type 0} (t : Bool) (r s : A) → t ≡ false → cond t r s ≡ s
else_so t r s e = ap (λ b. cond b r s) e

-- one of two answers, by a test
pub tested : {A : Type 0} (t : Bool) {x y a : A} {P : Type 0} → cond t x y ≡ a → (t ≡ true → x ≡ a → P) → (t ≡ false → y ≡ a → P) → P
tested true e f g = f refl e
tested false e f g = g refl e

-- a step, and then another
pub bind_ok : {A B : Type 0} (m : Result A CertWhy) (f : A → Result B CertWhy) (b : B)
    → m >>= f ≡ Ok b → (a : A) × (m ≡ Ok a) × (f a ≡ Ok b)
bind_ok (Ok a) f b e = (a, refl, e)
bind_ok (Err w) f b e = absurd cc

pub then : {A B : Type 0} (m : Result A CertWhy) (f : A → Result B CertWhy) (a : A) (r : Result B CertWhy)
    → m ≡ Ok a → f a ≡ r → m >>= f ≡ r
then m f a r e g = ap (λ s. s >>= f) e ∙ g

-- a fact and a further one, in which nested pairs are written without a bracket for each
pub both_of : {A B : Type 0} → A → B → A × B
both_of a b = (a, b)

pub three_of : {A B C : Type 0} → A → B → C → A × B × C
three_of a b c = (a, b, c)
