-- Hints are refused at one index, or are read.
use Rattle.std.proofs.Common.{◌≡◌, ◌∙◌, sym, ap, refl, arith, ℕ, ◌<◌, Bool, true, false, List, length}
use Rattle.std.specs.Prelude.{Some, None, Result, Ok, Err, IfOk, IfErr, ◌⊎◌, nat_lt}
use Rattle.std.proofs.Common.{inl, inr}
use Rattle.std.specs.Ordering.{nat_cmp}
use Rattle.std.specs.FinMap.{FinMap}
use Rattle.std.proofs.lemmas.Bool.Decides.{nat_tests}
use Rattle.std.proofs.lemmas.Option.{slice_get_within}
use Rattle.avr_asm.specs.declared.output.Hint.{Hint}
use Rattle.uz_schedule.specs.declared.kinds.Response.{Response}
use Rattle.uz_paths.specs.declared.reading.Reading.{Reading}
use Rattle.uz_paths.specs.declared.words.StackRegion.{StackRegion}
use Rattle.uz_paths.specs.Words.{first_start, first_lines, first_stack}
use Rattle.uz_paths.specs.Faults.{FineBefore, FirstFault, HintRefusal}
use Rattle.uz_paths.specs.Reading.{IsReading}

not_before : (image : FinMap nat_cmp ℕ) (irq : Response) (hints : List Hint) (i j : ℕ) → FirstFault image irq hints i → FirstFault image irq
    hints j → i < j → ⊥
not_before image irq hints i j a b less = a.faulty (b.before i a.hint less a.there)

same_fault : (image : FinMap nat_cmp ℕ) (irq : Response) (hints : List Hint) (i j : ℕ) → FirstFault image irq hints i → FirstFault image irq
    hints j → i ≡ j
same_fault image irq hints i j a b = by_tests (nat_lt i j) (nat_lt j i) refl refl
  where
    by_tests : (s t : Bool) → nat_lt i j ≡ s → nat_lt j i ≡ t → i ≡ j
    by_tests true t e f = absurd (not_before image irq hints i j a b (grind (arith, nat_tests, e)))
    by_tests false true e f = absurd (not_before image irq hints j i b a (grind (arith, nat_tests, f)))
    by_tests false false e f = grind (arith, nat_tests, e, f)

not_missing : (image : FinMap nat_cmp ℕ) (irq : Response) (hints : List Hint) (i : ℕ) → FirstFault image irq hints i → FineBefore image irq
    hints (length hints) → ⊥
not_missing image irq hints i a all = a.faulty (all i a.hint (slice_get_within hints i a.hint a.there) a.there)

pub one_refusal : (image : FinMap nat_cmp ℕ) (irq : Response) (hints : List Hint) (i j : ℕ) → HintRefusal image irq hints i
    → HintRefusal image irq hints j → i ≡ j
one_refusal image irq hints i j (inl a) (inl b) = same_fault image irq hints i j a b
one_refusal image irq hints i j (inl a) (inr b) = absurd (not_missing image irq hints i a b.all)
one_refusal image irq hints i j (inr a) (inl b) = absurd (not_missing image irq hints j b a.all)
one_refusal image irq hints i j (inr a) (inr b) = a.past ∙ sym b.past

none_missing : (hints : List Hint) (r : Reading) → first_start hints ≡ Some r.start → first_lines hints ≡ Some r.size → (s : StackRegion)
    → first_stack hints ≡ Some s
    → (first_start hints ≡ None) ⊎ ((first_lines hints ≡ None) ⊎ (first_stack hints ≡ None)) → ⊥
none_missing hints r a b s c (inl e) = absurd (cc)
none_missing hints r a b s c (inr (inl e)) = absurd (cc)
none_missing hints r a b s c (inr (inr e)) = absurd (cc)

none_read : (image : FinMap nat_cmp ℕ) (irq : Response) (hints : List Hint) (i : ℕ) (r : Reading) → IsReading image irq hints r
    → HintRefusal image irq hints i → ⊥
none_read image irq hints i r is (inl a) = not_missing image irq hints i a is.fine
none_read image irq hints i r is (inr a) = none_missing hints r is.start is.size _ is.head.stack a.missing

-- where hints are refused at an index, that is the answer
pub exact_answer : (image : FinMap nat_cmp ℕ) (irq : Response) (hints : List Hint) (answer : Result Reading ℕ)
    → IfOk answer (IsReading image irq hints) → IfErr answer (HintRefusal image irq hints)
    → (index : ℕ) → HintRefusal image irq hints index → answer ≡ Err index
exact_answer image irq hints (Ok r) read refused index h = absurd (none_read image irq hints index r read h)
exact_answer image irq hints (Err i) read refused index h = ap Err (one_refusal image irq hints i index refused h)
