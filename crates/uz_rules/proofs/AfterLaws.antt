-- The abstract results from the step.
use Rattle.std.proofs.lemmas.List.{length-take}
use Rattle.uz_rules.proofs.Common.{◌≡◌, ℕ, suc, ◌≤◌, take, List, [], ◌∷◌, ◌++◌, Option, Some, None, length, map, refl, sym, ◌∙◌, ap}
use Rattle.uz_rules.proofs.Common.{append_assoc, arith, Ok, Err, append-nil, nat_cmp, FinMap, Head, Instance, Lines, Fail, Exit, Step}
use Rattle.uz_rules.proofs.Common.{narrowed, IsStep, successor, if_there, results_of, next_of, IsAfter}
use Rattle.uz_rules.specs.declared.next.Next.{Next}
use Rattle.uz_transfer.specs.declared.step.Test.TheVariants as asks

pub after_ok : (head : Head) (lines : Lines) (image : FinMap nat_cmp ℕ) (inst : Instance) (step : Step) (next : Next)
    → IsStep head lines image inst (Ok step) → Ok next ≡ next_of lines inst (Ok step) → IsAfter head lines image inst (Ok next)
after_ok head lines image inst step next s e = record { row = s.row; reads = s.reads; is = e ∙ ap (next_of lines inst) s.is }

pub after_err : (head : Head) (lines : Lines) (image : FinMap nat_cmp ℕ) (inst : Instance) (why : Fail)
    → IsStep head lines image inst (Err why) → IsAfter head lines image inst (Err why)
after_err head lines image inst why s = record { row = s.row; reads = s.reads; is = ap (next_of lines inst) s.is }

-- one exit more
pub results_more : (lines : Lines) (inst : Instance) (step : Step) (exits : List Exit) (exit : Exit)
    → results_of lines inst step (exits ++ exit ∷ [])
    ≡ results_of lines inst step exits ++ if_there (narrowed step.test exit (successor lines inst step exit))
results_more lines inst step [] exit = append-nil _
results_more lines inst step (x ∷ exits) exit =
    ap (λ l. if_there (narrowed step.test x (successor lines inst step x)) ++ l) (results_more lines inst step exits exit)
    ∙ sym (append_assoc (if_there (narrowed step.test x (successor lines inst step x))) (results_of lines inst step exits)
    (if_there (narrowed step.test exit (successor lines inst step exit))))

pub few_results : (lines : Lines) (inst : Instance) (step : Step) (exits : List Exit)
    → length (results_of lines inst step exits) ≤ length exits
few_results lines inst step [] = omega arith
few_results lines inst step (x ∷ exits) =
    by_case (narrowed step.test x (successor lines inst step x)) (results_of lines inst step exits) (few_results lines inst step exits)
  where
    by_case : (o : Option Instance) (rest : List Instance) → length rest ≤ length exits → length (if_there o ++ rest) ≤ suc (length exits)
    by_case None rest h = omega (arith, h)
    by_case (Some result) rest h = omega (arith, h)

-- where nothing is asked, each exit has its result
pub results_plain : (lines : Lines) (inst : Instance) (step : Step) → step.test ≡ asks.Nothing → (exits : List Exit)
    → results_of lines inst step exits ≡ map (successor lines inst step) exits
results_plain lines inst step none [] = refl
results_plain lines inst step none (x ∷ exits) =
    ap (λ t. if_there (narrowed t x (successor lines inst step x)) ++ results_of lines inst step exits) none
    ∙ ap (λ l. successor lines inst step x ∷ l) (results_plain lines inst step none exits)

pub take_few : {A : Type 0} (i : ℕ) (xs : List A) → length (take i xs) ≤ i
take_few i xs = omega (arith, length-take i xs)
