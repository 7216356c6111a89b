-- What is shown at a clock, and places some clocks apart.
use Rattle.uz_search.proofs.Common.{◌≡◌, ℕ, zero, suc, ◌<◌, ◌≤◌, ◌-◌, List, [], ◌∷◌, max, Option, Some, None, Bool, true, false, refl, sym}
use Rattle.uz_search.proofs.Common.{ap, ◌∙◌, subst, inl, inr, slice_get, nat_eq, if◌then◌else◌, arith, eqb-true, eq-eqb, length_of}
use Rattle.uz_search.proofs.Common.{Schedule, Instance, EventKind, Program, most_clocks, clocks_between, shown_at, same_Some}
use Rattle.uz_search.proofs.FramePlaces.{IsNext, Reaches, one_next}

shown_choice : (b : Bool) (d e : EventKind) → (if b then Some d else None) ≡ Some e → (b ≡ true) × (d ≡ e)
shown_choice true d e h = (refl, same_Some d e h)
shown_choice false d e h = cc

-- what is shown at a clock is the one event
pub shown_is : (emit : Option (ℕ × EventKind)) (k : ℕ) (e : EventKind) → shown_at emit k ≡ Some e → emit ≡ Some (k, e)
shown_is None k e h = cc
shown_is (Some d) k e h =
    let c = shown_choice (nat_eq d.0 k) d.1 e h in
    let one : d.0 ≡ k = eqb-true d.0 k c.0 in
    λ i. Some (one i, c.1 i)

pub shown_here : (emit : Option (ℕ × EventKind)) (k : ℕ) (e : EventKind) → emit ≡ Some (k, e) → shown_at emit k ≡ Some e
shown_here emit k e h = ap (λ m. shown_at m k) h ∙ ap (λ b. if b then Some e else None) (eq-eqb k k refl)

pub one_emit : (emit : Option (ℕ × EventKind)) (j k : ℕ) (d e : EventKind) → emit ≡ Some (j, d) → emit ≡ Some (k, e) → (j ≡ k) × (d ≡ e)
one_emit emit j k d e a b =
    let p : (j, d) ≡ (k, e) = same_Some (j, d) (k, e) (sym a ∙ b) in
    (ap (λ (x : ℕ × EventKind). x.0) p, ap (λ (x : ℕ × EventKind). x.1) p)

pub clocks_few : (program : Program) (x : Instance) (out : List Instance) (i : ℕ) (y : Instance) → slice_get out i ≡ Some y
    → clocks_between program x y ≤ most_clocks program x out
clocks_few program x [] i y h = cc
clocks_few program x (z ∷ zs) zero y h =
    subst (λ v. clocks_between program x v ≤ max (clocks_between program x z) (most_clocks program x zs)) (same_Some z y h) (omega arith)
clocks_few program x (z ∷ zs) (suc i) y h = let r = clocks_few program x zs i y h in omega (arith, r)

-- from one place that is passed to a later one
pub reaches_less : (s : Schedule) (line clock c l1 q1 d l q : ℕ) → Reaches s line clock c l1 q1 → Reaches s line clock d l q → c < d
    → Reaches s l1 q1 (d - c) l q
reaches_less s line clock c l1 q1 d l q (h1, inl a) (h, inl b) lt = (h, inl (b.0 ∙ sym a.0, omega (arith, a.1, b.1)))
reaches_less s line clock c l1 q1 d l q (h1, inl a) (h, inr b) lt =
    let same = ap (length_of s) a.0 in
    (h, inr (subst (λ (m : ℕ). IsNext s m l) (sym a.0) b.0, omega (arith, a.1, b.1, same)))
reaches_less s line clock c l1 q1 d l q (h1, inr a) (h, inl b) lt =
    let same = ap (length_of s) b.0 in absurd (omega (arith, a.1, b.1, h, same, lt))
reaches_less s line clock c l1 q1 d l q (h1, inr a) (h, inr b) lt =
    (h, inl (one_next s line l l1 b.0 a.0, omega (arith, a.1, b.1)))

pub reaches_one : (s : Schedule) (line clock k l q l' q' : ℕ) → Reaches s line clock k l q → Reaches s line clock k l' q' → (l ≡ l')
    × (q ≡ q')
reaches_one s line clock k l q l' q' (h, inl a) (h', inl b) = (a.0 ∙ sym b.0, a.1 ∙ sym b.1)
reaches_one s line clock k l q l' q' (h, inl a) (h', inr b) =
    let same = ap (length_of s) a.0 in absurd (omega (arith, a.1, b.1, h, same))
reaches_one s line clock k l q l' q' (h, inr a) (h', inl b) =
    let same = ap (length_of s) b.0 in absurd (omega (arith, a.1, b.1, h', same))
reaches_one s line clock k l q l' q' (h, inr a) (h', inr b) = (one_next s line l l' a.0 b.0, omega (arith, a.1, b.1))

-- a place on the same line before one that is passed
pub reaches_back : (s : Schedule) (line clock c l q r : ℕ) → Reaches s line clock c l q → r ≤ q → clock < length_of s line
    → ((l ≡ line) → clock < r)
    → (1 ≤ c - (q - r)) × (c - (q - r) ≤ c) × Reaches s line clock (c - (q - r)) l r
reaches_back s line clock c l q r (h, inl a) le in_line after =
    let lt : clock < r = after a.0 in
    (omega (arith, a.1), omega arith, (omega (arith, h, le), inl (a.0, omega (arith, a.1))))
reaches_back s line clock c l q r (h, inr a) le in_line after =
    (omega (arith, a.1), omega arith, (omega (arith, h, le), inr (a.0, omega (arith, a.1))))
