-- The whys in their order, and the least of those that stand.
use Rattle.std.proofs.Common.{◌≡◌, ℕ, suc, ◌≤◌, ◌==◌, if◌then◌else◌, List, inl, inr, refl, sym, ap, subst, ◌∙◌, arith}
use Rattle.std.proofs.lemmas.Bool.{cases_lt}
use Rattle.uz_hex.specs.HexText.{Stands, IsLeast, number_of}
use Rattle.uz_hex.specs.declared.errors.HexWhy.{HexWhy}
use Rattle.uz_hex.specs.declared.errors.HexWhy.TheVariants as why

abbrev why_of : ℕ → HexWhy
why_of n =
    if n == 1 then why.NoColon
    else if n == 2 then why.BadDigit
    else if n == 3 then why.Short
    else if n == 4 then why.Sum
    else if n == 5 then why.Kind
    else if n == 6 then why.Length
    else if n == 7 then why.Range
    else if n == 8 then why.Conflict
    else if n == 9 then why.NoEnd
    else why.Memory

why_of-number_of : (w : HexWhy) → why_of (number_of w) ≡ w
why_of-number_of why.NoColon = refl
why_of-number_of why.BadDigit = refl
why_of-number_of why.Short = refl
why_of-number_of why.Sum = refl
why_of-number_of why.Kind = refl
why_of-number_of why.Length = refl
why_of-number_of why.Range = refl
why_of-number_of why.Conflict = refl
why_of-number_of why.NoEnd = refl
why_of-number_of why.Memory = refl

-- no two whys have one number
pub same_number : (v w : HexWhy) → number_of v ≡ number_of w → v ≡ w
same_number v w h = sym (why_of-number_of v) ∙ (ap why_of h ∙ why_of-number_of w)

number_positive : (w : HexWhy) → 1 ≤ number_of w
number_positive why.NoColon = omega arith
number_positive why.BadDigit = omega arith
number_positive why.Short = omega arith
number_positive why.Sum = omega arith
number_positive why.Kind = omega arith
number_positive why.Length = omega arith
number_positive why.Range = omega arith
number_positive why.Conflict = omega arith
number_positive why.NoEnd = omega arith
number_positive why.Memory = omega arith

-- none of the first whys stands, up to this number
pub record Clear (base : ℕ) (earlier : List (ℕ × ℕ)) (line : List ℕ) (k : ℕ) : Type 0 where
  pub none : (w : HexWhy) → number_of w ≤ k → Stands base earlier line w → ⊥

pub clear_none : (base : ℕ) (earlier : List (ℕ × ℕ)) (line : List ℕ) → Clear base earlier line 0
clear_none base earlier line = record { none = λ w h s. absurd (let p = number_positive w in omega arith) }

pub clear_more : (base : ℕ) (earlier : List (ℕ × ℕ)) (line : List ℕ) (k : ℕ) (w : HexWhy) → number_of w ≡ suc k → Clear base earlier line k
    → (Stands base earlier line w → ⊥) → Clear base earlier line (suc k)
clear_more base earlier line k w is clear never = record {
  none = λ v h s. elim (cases_lt (number_of v) (suc k)) [
    | inl less ↦ clear.none v (omega arith) s
    | inr more ↦
        let same : number_of v ≡ number_of w = omega arith in
        never (subst (Stands base earlier line) (same_number v w same) s)
  ];
}

-- one that stands where none before it does
pub is_least : (base : ℕ) (earlier : List (ℕ × ℕ)) (line : List ℕ) (k : ℕ) (w : HexWhy) → number_of w ≡ suc k → Clear base earlier line k
    → Stands base earlier line w → IsLeast base earlier line w
is_least base earlier line k w is clear s = record {
  stands = s;
  least = λ v h. elim (cases_lt (number_of v) (number_of w)) [
    | inl less ↦ absurd (clear.none v (omega arith) h)
    | inr more ↦ more
  ];
}

-- where all are clear nothing stands
pub nothing_stands : (base : ℕ) (earlier : List (ℕ × ℕ)) (line : List ℕ) → Clear base earlier line 8 → (w : HexWhy) → Stands base earlier
    line w → ⊥
nothing_stands base earlier line clear why.NoColon s = clear.none why.NoColon (omega arith) s
nothing_stands base earlier line clear why.BadDigit s = clear.none why.BadDigit (omega arith) s
nothing_stands base earlier line clear why.Short s = clear.none why.Short (omega arith) s
nothing_stands base earlier line clear why.Sum s = clear.none why.Sum (omega arith) s
nothing_stands base earlier line clear why.Kind s = clear.none why.Kind (omega arith) s
nothing_stands base earlier line clear why.Length s = clear.none why.Length (omega arith) s
nothing_stands base earlier line clear why.Range s = clear.none why.Range (omega arith) s
nothing_stands base earlier line clear why.Conflict s = clear.none why.Conflict (omega arith) s
nothing_stands base earlier line clear why.NoEnd s = s
nothing_stands base earlier line clear why.Memory s = s

-- two least ones are one
pub same_least : (base : ℕ) (earlier : List (ℕ × ℕ)) (line : List ℕ) (v w : HexWhy) → IsLeast base earlier line v → IsLeast base earlier
    line w → v ≡ w
same_least base earlier line v w a b =
    let low = a.least w b.stands in
    let high = b.least v a.stands in
    same_number v w (omega arith)
