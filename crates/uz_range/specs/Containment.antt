-- When a byte, a pair or a flag lies in what is known of it.
use Rattle.std.specs.Prelude.{◌≡◌, ℕ, ◌≤◌, Bool, true, false, Option, Some, List, [], ◌∷◌, ⊤}
use Rattle.uz_core.specs.Arithmetic.{AluResult}
use Rattle.uz_schedule.specs.Ends.{Ends}
use Rattle.uz_schedule.specs.declared.facts.Bit.{Bit}
use Rattle.uz_schedule.specs.declared.facts.Bit.TheVariants.{Zero, One, Free, Old}
use Rattle.uz_range.specs.declared.answer.Ranged.{Ranged}
use Rattle.uz_range.specs.declared.answer.WideRanged.{WideRanged}

-- a number is one of a range's, both ends among them
pub record IsWithin (v : ℕ) (e : Ends) : Type 0 where
  pub above : e.lo ≤ v
  pub below : v ≤ e.hi

-- what a flag that an instruction reads may be; an interrupted program's flag may be either
abbrev pub MayBe : Bit → Bool → Type 0
MayBe Zero b = b ≡ false
MayBe One b = b ≡ true
MayBe Free b = ⊤
MayBe Old b = ⊤

-- what an instruction may make of a flag; None is a flag that it keeps, and Old is no answer
abbrev pub Admits : Bit → Option Bool → Type 0
Admits Zero o = o ≡ Some false
Admits One o = o ≡ Some true
Admits Free o = ⊤
Admits Old o = ⊥

-- flag by flag
abbrev pub AdmitsAll : List Bit → List (Option Bool) → Type 0
AdmitsAll [] [] = ⊤
AdmitsAll [] (o ∷ os) = ⊥
AdmitsAll (b ∷ bs) [] = ⊥
AdmitsAll (b ∷ bs) (o ∷ os) = Admits b o × AdmitsAll bs os

-- an answer covers a result where the result's number and each of its flags lie in it
pub record Covers (r : Ranged) (o : AluResult) : Type 0 where
  pub value : IsWithin o.value r.span
  pub flags : AdmitsAll r.flags o.flags

pub record CoversWide (r : WideRanged) (o : AluResult) : Type 0 where
  pub value : IsWithin o.value r.span
  pub flags : AdmitsAll r.flags o.flags
