-- Results chained to an earlier zero flag.
use Rattle.std.proofs.Common.{◌≡◌, ℕ, Bool, true, false, List, [], ◌∷◌, Option, Some, refl, sym, subst}
use Rattle.std.specs.Prelude.{slice_set, slice_index_or}
use Rattle.uz_core.specs.Arithmetic.{AluResult, chained_result}
use Rattle.uz_schedule.specs.declared.facts.Bit.{Bit}
use Rattle.uz_schedule.specs.declared.facts.Bit.TheVariants.{Zero, One, Free, Old}
use Rattle.uz_range.specs.declared.answer.Ranged.{Ranged}
use Rattle.uz_range.specs.Containment.{IsWithin, MayBe, Admits, AdmitsAll, Covers}
use Rattle.uz_range.specs.Rules.{chained_zero, chained_answer}

zero_stays : (z b : Bit) (o : Option Bool) → Admits z o → MayBe b true → Admits (chained_zero z b) o
zero_stays Zero b o h k = h
zero_stays One Zero o h k = absurd (cc)
zero_stays One One o h k = h
zero_stays One Free o h k = tt
zero_stays One Old o h k = tt
zero_stays Free Zero o h k = absurd (cc)
zero_stays Free One o h k = tt
zero_stays Free Free o h k = tt
zero_stays Free Old o h k = tt
zero_stays Old b o h k = absurd h

zero_goes : (z b : Bit) (o : Option Bool) → Admits z o → MayBe b false → Admits (chained_zero z b) (Some false)
zero_goes Zero b o h k = refl
zero_goes One Zero o h k = refl
zero_goes One One o h k = absurd (cc)
zero_goes One Free o h k = tt
zero_goes One Old o h k = tt
zero_goes Free Zero o h k = refl
zero_goes Free One o h k = tt
zero_goes Free Free o h k = tt
zero_goes Free Old o h k = tt
zero_goes Old b o h k = absurd h

all_hold : (b : Bit) (bs : List Bit) (os : List (Option Bool)) (t : Bool) (v : ℕ) → AdmitsAll bs os → MayBe b t
    → AdmitsAll (slice_set bs 1 (chained_zero (slice_index_or bs 1 Free) b)) (chained_result (record { value = v; flags = os }) t).flags
all_hold b [] [] true v h k = tt
all_hold b [] [] false v h k = tt
all_hold b [] (o ∷ os) t v h k = absurd h
all_hold b (x ∷ bs) [] t v h k = absurd h
all_hold b (x ∷ []) (o ∷ []) true v h k = h
all_hold b (x ∷ []) (o ∷ []) false v h k = h
all_hold b (x ∷ []) (o ∷ p ∷ os) t v h k = absurd h.1
all_hold b (x ∷ z ∷ bs) (o ∷ []) t v h k = absurd h.1
all_hold b (x ∷ z ∷ bs) (o ∷ p ∷ os) true v h k = (h.0, (zero_stays z b p h.1.0 k, h.1.1))
all_hold b (x ∷ z ∷ bs) (o ∷ p ∷ os) false v h k = (h.0, (zero_goes z b p h.1.0 k, h.1.1))

pub value_stays : (o : AluResult) (t : Bool) → (chained_result o t).value ≡ o.value
value_stays o true = refl
value_stays o false = refl

pub chained_covers : (b : Bit) (r : Ranged) (o : AluResult) (t : Bool) → Covers r o → MayBe b t → Covers (chained_answer b r)
    (chained_result o t)
chained_covers b r o t h k = record {
  value = subst (λ v. IsWithin v r.span) (sym (value_stays o t)) h.value;
  flags = all_hold b r.flags o.flags t o.value h.flags k;
}
