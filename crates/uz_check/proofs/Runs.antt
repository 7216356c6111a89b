-- Runs of lines of which the conditions on lines hold.
use Rattle.uz_check.proofs.Common.{same_Some, ◌≡◌, inl, inr, ℕ, zero, suc, ◌+◌, ◌<◌, true, false, nat_lt, Some, List, [], ◌∷◌, length, refl}
use Rattle.uz_check.proofs.Common.{sym, ◌∙◌, ap, subst, arith, slice_get, slice_set, eqb_tells, leb_tells, Cert, lines_alike, IsRun}
use Rattle.uz_check.proofs.Common.{RunsFrom}

-- One more line, at the front

pub run_goes_on : (cert : Cert) (n l e : ℕ) → true ≡ lines_alike cert l → IsRun cert n (l + 1) e → IsRun cert n l e
run_goes_on cert n l e is run = record {
  onward = omega (arith, run.onward);
  within = run.within;
  alike = λ k low high. elim (eqb_tells k l) [
    | inl t ↦ ap (lines_alike cert) t.1 ∙ sym is
    | inr t ↦ run.alike k (omega (arith, low, t.1)) high
  ];
  ended = run.ended;
}

pub run_ends : (cert : Cert) (n l : ℕ) → l < n → false ≡ lines_alike cert l → IsRun cert n l l
run_ends cert n l h is = record {
  onward = omega arith;
  within = omega (arith, h);
  alike = λ k low high. absurd (omega (arith, low, high));
  ended = λ g. sym is;
}

set_here : {A : Type 0} (xs : List A) (n : ℕ) (x : A) → n < length xs → slice_get (slice_set xs n x) n ≡ Some x
set_here [] n x h = absurd (omega (arith, h))
set_here (y ∷ xs) zero x h = refl
set_here (y ∷ xs) (suc n) x h = set_here xs n x (omega (arith, h))

set_after : {A : Type 0} (xs : List A) (n k : ℕ) (x : A) → n < k → slice_get (slice_set xs n x) k ≡ slice_get xs k
set_after [] n k x h = refl
set_after (y ∷ xs) zero zero x h = absurd (omega (arith, h))
set_after (y ∷ xs) zero (suc k) x h = refl
set_after (y ∷ xs) (suc n) zero x h = absurd (omega (arith, h))
set_after (y ∷ xs) (suc n) (suc k) x h = set_after xs n k x (omega (arith, h))

pub set_length : {A : Type 0} (xs : List A) (n : ℕ) (x : A) → length (slice_set xs n x) ≡ length xs
set_length [] n x = refl
set_length (y ∷ xs) zero x = refl
set_length (y ∷ xs) (suc n) x = ap suc (set_length xs n x)

pub runs_more : (cert : Cert) (runs : List ℕ) (l e : ℕ) → l < length runs → IsRun cert (length cert.schedule.lines) l e → RunsFrom cert runs
    (l + 1) → RunsFrom cert (slice_set runs l e) l
runs_more cert runs l e h run noted k low high =
    elim (eqb_tells k l) [
      | inl t ↦ (
        e,
        ap (slice_get (slice_set runs l e)) t.1 ∙ set_here runs l e h,
        subst (λ i. IsRun cert (length cert.schedule.lines) i e)
            (sym t.1) run,
      )
      | inr t ↦ let later = noted k (omega (arith, low, t.1)) high in (
        later.0,
        set_after runs l k e (omega (arith, low, t.1)) ∙ later.1,
        later.2,
      )
    ]

-- What is noted

pub run_of : (cert : Cert) (runs : List ℕ) (l e : ℕ) → RunsFrom cert runs 0 → l < length cert.schedule.lines → slice_get runs l ≡ Some e
    → IsRun cert (length cert.schedule.lines) l e
run_of cert runs l e noted h is =
    let run = noted l (omega arith) h in
    subst (IsRun cert (length cert.schedule.lines) l) (same_Some run.0 e (sym run.1 ∙ is)) run.2

pub alike_tells : (cert : Cert) (runs : List ℕ) (l e : ℕ) → RunsFrom cert runs 0 → l < length cert.schedule.lines → slice_get runs l ≡ Some
    e → nat_lt l e ≡ lines_alike cert l
alike_tells cert runs l e noted h is =
    let run = run_of cert runs l e noted h is in
    elim (leb_tells (suc l) e) [
      | inl t ↦ t.0 ∙ sym (run.alike l (omega arith) (omega (arith, t.1)))
      | inr t ↦
          let same : e ≡ l = omega (arith, t.1, run.onward) in
          t.0 ∙ (sym (run.ended (omega (arith, same, h))) ∙ ap (lines_alike cert) same)
    ]
