-- What answers hold, by their shapes.
use Rattle.std.proofs.Common.{◌≡◌, ℕ, ◌≤◌, Bool, true, false, ◌&&◌, if◌then◌else◌, List, [], ◌∷◌, Option, None, Some, map, nat_eq, nat_lt}
use Rattle.std.proofs.Common.{nat_le, refl, sym, ap, subst, arith}
use Rattle.std.proofs.lemmas.Bool.Decides.{nat_tests}
use Rattle.uz_core.specs.Arithmetic.{AluResult, bit_value, exclusive_or}
use Rattle.uz_schedule.specs.Ends.{Ends}
use Rattle.uz_schedule.specs.declared.facts.Bit.{Bit}
use Rattle.uz_schedule.specs.declared.facts.Bit.TheVariants.{Zero, One, Free, Old}
use Rattle.uz_range.specs.declared.answer.Ranged.{Ranged}
use Rattle.uz_range.specs.Containment.{IsWithin, MayBe, Admits, AdmitsAll, Covers}
use Rattle.uz_range.specs.Answers.{is_single, is_known, is_one, least_carry, most_carry, flag_of, exact_answer, zero_flag, negative_flag}
use Rattle.uz_range.specs.Answers.{arithmetic_answer, logic_answer}

-- one of two answers
pub choose : (t : Bool) (x y : Ranged) (o : AluResult) → (t ≡ true → Covers x o) → (t ≡ false → Covers y o) → Covers (if t then x else y) o
choose true x y o p q = p refl
choose false x y o p q = q refl

allows_itself : (o : Option Bool) → Admits (flag_of o) o
allows_itself None = tt
allows_itself (Some true) = refl
allows_itself (Some false) = refl

pub allow_themselves : (os : List (Option Bool)) → AdmitsAll (map flag_of os) os
allow_themselves [] = tt
allow_themselves (o ∷ os) = (allows_itself o, allow_themselves os)

pub exactly_covers : (o : AluResult) → Covers (exact_answer o) o
exactly_covers o = record { value = record { above = omega arith; below = omega arith }; flags = allow_themselves o.flags }

pub only : (a : Ends) (x : ℕ) → is_single a ≡ true → IsWithin x a → a.lo ≡ x
only a x s h =
    let e : a.lo ≡ a.hi = grind (arith, nat_tests) in
    omega (arith, h.above, h.below)

pub only_flag : (k : Bit) (c : Bool) → is_known k ≡ true → MayBe k c → is_one k ≡ c
only_flag Zero c s h = sym h
only_flag One c s h = sym h
only_flag Free true s h = s
only_flag Free false s h = refl
only_flag Old true s h = s
only_flag Old false s h = refl

pub zero_by : (p s : Bool) → (p ≡ true → s ≡ false) → Admits (if p then Zero else Free) (Some s)
zero_by true s h = ap Some (h refl)
zero_by false s h = tt

pub zero_allows : (lo v : ℕ) → lo ≤ v → Admits (zero_flag lo) (Some (nat_eq v 0))
zero_allows lo v a = zero_by (nat_lt 0 lo) (nat_eq v 0) (λ h. grind (arith, nat_tests))

pub top_by : (p q s : Bool) → (p ≡ true → s ≡ false) → (q ≡ true → s ≡ true) → Admits (if p then Zero else if q then One else Free) (Some s)
top_by true q s hp hq = ap Some (hp refl)
top_by false true s hp hq = ap Some (hq refl)
top_by false false s hp hq = tt

pub top_allows : (lo hi v : ℕ) → lo ≤ v → v ≤ hi → Admits (negative_flag lo hi) (Some (nat_le 128 v))
top_allows lo hi v a b = top_by (nat_lt hi 128) (nat_le 128 lo) (nat_le 128 v) (λ h. grind (arith, nat_tests))
    (λ h. grind (arith, nat_tests))

-- the shapes
pub ranged_covers : (lo hi : ℕ) (c : Bit) (v : ℕ) (fc fv fs fh ft : Option Bool) → lo ≤ v → v ≤ hi → Admits c fc
    → Covers (arithmetic_answer lo hi c) (record {
      value = v;
      flags = fc ∷ Some (nat_eq v 0) ∷ Some (nat_le 128 v) ∷ fv ∷ fs ∷ fh ∷ ft ∷ [];
    })
ranged_covers lo hi c v fc fv fs fh ft a b h = record {
  value = record { above = a; below = b };
  flags = (h, (zero_allows lo v a, (top_allows lo hi v a b, (tt, (tt, (tt, (tt, tt)))))));
}

pub plain_covers : (lo hi : ℕ) (c : Bit) (v : ℕ) (s : Bool) (fc fh ft : Option Bool) → lo ≤ v → v ≤ hi → Admits c fc → nat_le 128 v ≡ s
    → Covers (logic_answer lo hi c) (record {
      value = v;
      flags = fc ∷ Some (nat_eq v 0) ∷ Some (nat_le 128 v) ∷ Some false ∷ Some
          s ∷ fh ∷ ft ∷ [];
    })
plain_covers lo hi c v s fc fh ft a b h e = record {
  value = record { above = a; below = b };
  flags = (
    h,
    (
      zero_allows lo v a,
      (top_allows lo hi v a b, (refl, (subst (λ n. Admits (negative_flag lo hi) (Some n)) e (top_allows lo hi v a b), (tt, (tt, tt))))),
    ),
  );
}

pub exclusive_or_false : (n : Bool) → n ≡ exclusive_or n false
exclusive_or_false true = refl
exclusive_or_false false = refl

pub all_true : (a b c : Bool) → (a && b && c) ≡ true → (a ≡ true) × ((b ≡ true) × (c ≡ true))
all_true true true true h = (refl, (refl, refl))
all_true true true false h = (refl, (refl, h))
all_true true false c h = (refl, (h, absurd (cc)))
all_true false b c h = absurd (cc)

pub both_true : (a b : Bool) → (a && b) ≡ true → (a ≡ true) × (b ≡ true)
both_true true b h = (refl, h)
both_true false b h = absurd (cc)

pub within : (k : Bit) (c : Bool) → MayBe k c → (least_carry k ≤ bit_value c) × (bit_value c ≤ most_carry k)
within Zero c h = rw h (omega arith, omega arith)
within One c h = rw h (omega arith, omega arith)
within Free true h = (omega arith, omega arith)
within Free false h = (omega arith, omega arith)
within Old true h = (omega arith, omega arith)
within Old false h = (omega arith, omega arith)

pub bit_value-le : (c : Bool) → bit_value c ≤ 1
bit_value-le true = omega arith
bit_value-le false = omega arith

pub known_least : (k : Bit) (c : Bool) → is_known k ≡ true → MayBe k c → least_carry k ≡ bit_value c
known_least Zero c s h = rw h refl
known_least One c s h = rw h refl
known_least Free c s h = absurd (cc)
known_least Old c s h = absurd (cc)
