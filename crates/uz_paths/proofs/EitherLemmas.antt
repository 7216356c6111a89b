-- What comes of two searches, one by the rules of each version.
use Rattle.std.proofs.Common.{◌≡◌, ◌⊎◌, inl, inr, sym, ℕ, true, false, List, subst}
use Rattle.std.specs.Prelude.{Result, Err, IfOk, IsOk}
use Rattle.std.specs.Ordering.{nat_cmp}
use Rattle.std.specs.FinMap.{FinMap}
use Rattle.avr_asm.specs.declared.output.Hint.{Hint as SourceHint}
use Rattle.uz_schedule.specs.declared.kinds.Response.{Response}
use Rattle.uz_schedule.specs.declared.kinds.RuleVersion.{RuleVersion}
use Rattle.uz_schedule.specs.declared.kinds.RuleVersion.TheVariants.{Two, Three}
use Rattle.uz_search.specs.declared.found.NotFound.{NotFound}
use Rattle.uz_search.specs.declared.found.NotFound.TheVariants.{Stuck, Split, Full, Hint, NoRest, Memory}
use Rattle.uz_paths.specs.Either.{is_by_rules}
use Rattle.uz_paths.specs.Finding.{only, Cause, CauseBy, NoCause}
use Rattle.uz_paths.proofs.FindLemmas.{any_cause, err_is}

-- the refusal that is told is one of both
pub told_cause : (image : FinMap nat_cmp ℕ) (irq : Response) (hints : List SourceHint) (first second told : NotFound)
    → CauseBy (only Two) image irq hints first → CauseBy (only Three) image irq hints second → (told ≡ first) ⊎ (told ≡ second)
    → Cause image irq hints told
told_cause image irq hints first second told a b (inl e) = subst (Cause image irq hints) (sym e) (any_cause Two image irq hints first a)
told_cause image irq hints first second told a b (inr e) = subst (Cause image irq hints) (sym e) (any_cause Three image irq hints second b)

-- a refusal by rules is neither of a hint nor of memory
pub not_hint : {A : Type 0} (first : NotFound) (index : ℕ) → is_by_rules first ≡ true
    → (◌≡◌ {A = Result A NotFound} (Err first) (Err (Hint index))) ⊎ (◌≡◌ {A = Result A NotFound} (Err first) (Err Memory)) → ⊥
not_hint first index by_rules (inl e) =
    let same = err_is first (Hint index) e in let b = subst (λ z. is_by_rules z ≡ true) same by_rules in cc
not_hint first index by_rules (inr e) = let same = err_is first Memory e in let b = subst (λ z. is_by_rules z ≡ true) same by_rules in cc

-- each other one is
pub complete_other : {A : Type 0} (image : FinMap nat_cmp ℕ) (irq : Response) (hints : List SourceHint) (answer : Result A NotFound)
    (first : NotFound) → answer ≡ Err first → is_by_rules first ≡ false → CauseBy (only Two) image irq hints first
    → NoCause Two image irq hints ⊎ NoCause Three image irq hints → IsOk answer ⊎ (answer ≡ Err Memory)
complete_other image irq hints answer (Stuck trail why) is other cause none = absurd (cc)
complete_other image irq hints answer (Split first second) is other cause none = absurd (cc)
complete_other image irq hints answer (Full instances) is other cause none = absurd (cc)
complete_other image irq hints answer (Hint index) is other cause (inl none) = absurd (none (Hint index) (λ h. cc) cause)
complete_other image irq hints answer (Hint index) is other cause (inr none) = absurd (none (Hint index) (λ h. cc) cause)
complete_other image irq hints answer (NoRest count) is other cause none = absurd (cc)
complete_other image irq hints answer Memory is other cause none = inr is

-- a refusal by the rules of a version has its cause
pub caused : (version : RuleVersion) (image : FinMap nat_cmp ℕ) (irq : Response) (hints : List SourceHint) (why : NotFound)
    → is_by_rules why ≡ true → CauseBy (only version) image irq hints why → NoCause version image irq hints → ⊥
caused version image irq hints why by_rules cause none = none why (λ h. let b = subst (λ z. is_by_rules z ≡ true) h by_rules in cc) cause

-- so that there is none by those of version 3
pub complete_again : {A : Type 0} (image : FinMap nat_cmp ℕ) (irq : Response) (hints : List SourceHint) (answer : Result A NotFound)
    (first : NotFound) → is_by_rules first ≡ true → CauseBy (only Two) image irq hints first
    → (NoCause Three image irq hints → IsOk answer ⊎ (answer ≡ Err Memory))
    → NoCause Two image irq hints ⊎ NoCause Three image irq hints → IsOk answer ⊎ (answer ≡ Err Memory)
complete_again image irq hints answer first by_rules cause again (inl none) =
    absurd (caused Two image irq hints first by_rules cause none)
complete_again image irq hints answer first by_rules cause again (inr none) = again none

-- and what is found is without splits
pub whole_again : {A : Type 0} (P : A → Type 0) (image : FinMap nat_cmp ℕ) (irq : Response) (hints : List SourceHint)
    (answer : Result A NotFound) (first : NotFound) → is_by_rules first ≡ true → CauseBy (only Two) image irq hints first
    → (NoCause Three image irq hints → IfOk answer P) → NoCause Two image irq hints ⊎ NoCause Three image irq hints → IfOk answer P
whole_again P image irq hints answer first by_rules cause again (inl none) =
    absurd (caused Two image irq hints first by_rules cause none)
whole_again P image irq hints answer first by_rules cause again (inr none) = again none
