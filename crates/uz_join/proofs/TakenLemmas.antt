-- The elements of a list in their order, taken one by one from the end of its reverse.
use Rattle.uz_join.proofs.Common.{◌≡◌, ◌∙◌, sym, ap, arith, ℕ, zero, suc, ◌+◌, ◌≤◌, List, [], ◌∷◌, ◌++◌, length, drop, reverse, Some}
use Rattle.uz_join.proofs.Common.{slice_get, reverse-append}

dropped : {A : Type 0} (xs : List A) (i : ℕ) (x : A) (rest : List A) → x ∷ rest ≡ drop i xs → (slice_get xs i ≡ Some x)
    × (rest ≡ drop (suc i) xs)
dropped [] zero x rest e = absurd (cc)
dropped [] (suc i) x rest e = absurd (cc)
dropped (y ∷ xs) zero x rest e = (cc, cc)
dropped (y ∷ xs) (suc i) x rest e = dropped xs i x rest e

-- none is left past the end
pub none_dropped : {A : Type 0} (xs : List A) (i : ℕ) → [] ≡ drop i xs → length xs ≤ i
none_dropped [] i e = omega arith
none_dropped (y ∷ xs) zero e = absurd (cc)
none_dropped (y ∷ xs) (suc i) e = let le = none_dropped xs i e in omega arith

-- the last one of those that are left is the next one
pub next_taken : {A : Type 0} (xs left later : List A) (i : ℕ) (x : A) → reverse left ≡ drop i xs → left ≡ later ++ x ∷ []
    → (slice_get xs i ≡ Some x) × (reverse later ≡ drop (i + 1) xs)
next_taken xs left later i x e f =
    let parts : x ∷ reverse later ≡ drop i xs = sym (reverse-append later (x ∷ [])) ∙ (ap reverse (sym f) ∙ e) in
    let next = dropped xs i x (reverse later) parts in
    let one : suc i ≡ i + 1 = omega arith in
    (next.0, next.1 ∙ ap (λ n. drop n xs) one)
