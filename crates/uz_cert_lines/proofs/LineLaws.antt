-- A line is as its form asks, or has one first fault, and reading it says which.
use Rattle.std.proofs.Common.{◌≡◌, ◌⊎◌, inl, inr, ℕ, Bool, true, false, List, [], ◌∷◌, refl, sym, ◌∙◌, ap}
use Rattle.std.specs.Prelude.{Result, Ok, Err}
use Rattle.uz_cert_lines.specs.Grammar.{Words, rest_of, missing, first_as, next_as, fixed_of, number_of, choice_of, slope_of, end_of}
use Rattle.uz_cert_lines.specs.Forms.{LineForm, fixed, number, choice, slope, spans, items, finish, spans_of, reads}
use Rattle.uz_cert_lines.specs.FirstFault.{NextIs, NextFails, Allows, HasFirstFault}
use Rattle.uz_cert_lines.proofs.ItemLaws.{items_say, say_items, items_fail, fail_items}
use Rattle.uz_cert_lines.proofs.Steps.{bind_ok, bind_err, refusal}
use Rattle.uz_cert_lines.specs.{Why.◌>>=◌, Items.read_items, declared.why.CertWhy.CertWhy, declared.lines.ParsedLine.ParsedLine}

abbrev answer : ParsedLine → Result ParsedLine CertWhy
answer said = Ok said

ok_same : (a b : ParsedLine) → answer a ≡ answer b → a ≡ b
ok_same a b e = cc

ok_not_err : (a : ParsedLine) (v : CertWhy) → answer a ≡ Err v → ⊥
ok_not_err a v e = cc

-- the next word

first_is : {A : Type 0} (ended : Bool) (judge : List ℕ → Result A CertWhy) (list : List (List ℕ)) (a : A)
    → first_as ended judge list ≡ Ok a → NextIs judge (record { list = list; ended = ended }) a
first_is ended judge [] a e = absurd cc
first_is ended judge (w ∷ ws) a e = record { word = w; others = ws; parts = refl; is = e }

next_is : {A : Type 0} (judge : List ℕ → Result A CertWhy) (words : Words) (a : A) → next_as judge words ≡ Ok a → NextIs judge words a
next_is judge words a e = first_is words.ended judge words.list a e

first_fails : {A : Type 0} (ended : Bool) (judge : List ℕ → Result A CertWhy) (list : List (List ℕ)) (w : CertWhy)
    → first_as ended judge list ≡ Err w → NextFails judge (record { list = list; ended = ended }) w
first_fails ended judge [] w e = let same : missing ended ≡ w = cc in inl (record { none = refl; as_missing = sym same })
first_fails ended judge (u ∷ us) w e = inr (record { word = u; others = us; parts = refl; has = e })

next_fails : {A : Type 0} (judge : List ℕ → Result A CertWhy) (words : Words) (w : CertWhy) → next_as judge words ≡ Err w
    → NextFails judge words w
next_fails judge words w e = first_fails words.ended judge words.list w e

is_next : {A : Type 0} (judge : List ℕ → Result A CertWhy) (words : Words) (a : A) → NextIs judge words a → next_as judge words ≡ Ok a
is_next judge words a n = ap (first_as words.ended judge) n.parts ∙ n.is

fails_next : {A : Type 0} (judge : List ℕ → Result A CertWhy) (words : Words) (w : CertWhy) → NextFails judge words w
    → next_as judge words ≡ Err w
fails_next {A} judge words w f =
    elim f [
      | inl m ↦ ap (first_as words.ended judge) m.none ∙ ap (refusal A) (sym m.as_missing)
      | inr h ↦ ap (first_as words.ended judge) h.parts ∙ h.has
    ]

end_zero : (ended : Bool) (list : List (List ℕ)) (n : ℕ) → end_of ended list ≡ Ok n → end_of ended list ≡ Ok 0
end_zero true [] n e = refl
end_zero false [] n e = absurd cc
end_zero true (w ∷ ws) n e = absurd cc
end_zero false (w ∷ ws) n e = absurd cc

-- what is read is allowed, and what is allowed is read

pub read_allowed : (form : LineForm) (words : Words) (said : ParsedLine) → reads form words ≡ Ok said → Allows form words said
read_allowed (fixed wanted form) words said e =
    let m = bind_ok (next_as (fixed_of wanted) words) (λ n. reads form (rest_of words)) said e in
    (m.0, next_is (fixed_of wanted) words m.0 m.1, read_allowed form (rest_of words) said m.2)
read_allowed (number a form) words said e =
    let m = bind_ok (next_as (number_of a) words) (λ n. reads (form n) (rest_of words)) said e in
    (m.0, next_is (number_of a) words m.0 m.1, read_allowed (form m.0) (rest_of words) said m.2)
read_allowed (choice wanted form) words said e =
    let m = bind_ok (next_as (choice_of wanted) words) (λ n. reads (form n) (rest_of words)) said e in
    (m.0, next_is (choice_of wanted) words m.0 m.1, read_allowed (form m.0) (rest_of words) said m.2)
read_allowed (slope limit form) words said e =
    let m = bind_ok (next_as (slope_of limit) words) (λ n. reads (form n) (rest_of words)) said e in
    (m.0, next_is (slope_of limit) words m.0 m.1, read_allowed (form m.0) (rest_of words) said m.2)
read_allowed (spans cells form) words said e =
    let m = bind_ok (spans_of cells words) (λ p. reads (form p.0) p.1) said e in
    (m.0, m.1, read_allowed (form m.0.0) m.0.1 said m.2)
read_allowed (items shape cells say) words said e =
    let m = bind_ok (read_items shape cells words) (λ facts. Ok (say facts)) said e in
    (m.0, items_say shape cells words m.0 m.1, sym (ok_same (say m.0) said m.2))
read_allowed (finish says) words said e =
    let m = bind_ok (end_of words.ended words.list) (λ n. Ok says) said e in
    (end_zero words.ended words.list m.0 m.1, sym (ok_same says said m.2))

pub allowed_read : (form : LineForm) (words : Words) (said : ParsedLine) → Allows form words said → reads form words ≡ Ok said
allowed_read (fixed wanted form) words said h =
    ap (λ m. m >>= (λ n. reads form (rest_of words))) (is_next (fixed_of wanted) words h.0 h.1) ∙ allowed_read form (rest_of words) said h.2
allowed_read (number a form) words said h =
    ap (λ m. m >>= (λ n. reads (form n) (rest_of words))) (is_next (number_of a) words h.0 h.1)
    ∙ allowed_read (form h.0) (rest_of words) said h.2
allowed_read (choice wanted form) words said h =
    ap (λ m. m >>= (λ n. reads (form n) (rest_of words))) (is_next (choice_of wanted) words h.0 h.1)
    ∙ allowed_read (form h.0) (rest_of words) said h.2
allowed_read (slope limit form) words said h =
    ap (λ m. m >>= (λ n. reads (form n) (rest_of words))) (is_next (slope_of limit) words h.0 h.1)
    ∙ allowed_read (form h.0) (rest_of words) said h.2
allowed_read (spans cells form) words said h =
    ap (λ m. m >>= (λ p. reads (form p.0) p.1)) h.1 ∙ allowed_read (form h.0.0) h.0.1 said h.2
allowed_read (items shape cells say) words said h =
    ap (λ m. m >>= (λ facts. Ok (say facts))) (say_items shape cells words h.0 h.1) ∙ ap answer (sym h.2)
allowed_read (finish says) words said h =
    ap (λ m. m >>= (λ n. Ok says)) h.0 ∙ ap answer (sym h.1)

-- what is refused has this first fault, and what has it is refused

pub refused_faulty : (form : LineForm) (words : Words) (w : CertWhy) → reads form words ≡ Err w → HasFirstFault form words w
refused_faulty (fixed wanted form) words w e =
    elim (bind_err (next_as (fixed_of wanted) words) (λ n. reads form (rest_of words)) w e) [
      | inl m ↦ inl (next_fails (fixed_of wanted) words w m)
      | inr m ↦ inr (m.0, next_is (fixed_of wanted) words m.0 m.1, refused_faulty form (rest_of words) w m.2)
    ]
refused_faulty (number a form) words w e =
    elim (bind_err (next_as (number_of a) words) (λ n. reads (form n) (rest_of words)) w e) [
      | inl m ↦ inl (next_fails (number_of a) words w m)
      | inr m ↦ inr (m.0, next_is (number_of a) words m.0 m.1, refused_faulty (form m.0) (rest_of words) w m.2)
    ]
refused_faulty (choice wanted form) words w e =
    elim (bind_err (next_as (choice_of wanted) words) (λ n. reads (form n) (rest_of words)) w e) [
      | inl m ↦ inl (next_fails (choice_of wanted) words w m)
      | inr m ↦ inr (m.0, next_is (choice_of wanted) words m.0 m.1, refused_faulty (form m.0) (rest_of words) w m.2)
    ]
refused_faulty (slope limit form) words w e =
    elim (bind_err (next_as (slope_of limit) words) (λ n. reads (form n) (rest_of words)) w e) [
      | inl m ↦ inl (next_fails (slope_of limit) words w m)
      | inr m ↦ inr (m.0, next_is (slope_of limit) words m.0 m.1, refused_faulty (form m.0) (rest_of words) w m.2)
    ]
refused_faulty (spans cells form) words w e =
    elim (bind_err (spans_of cells words) (λ p. reads (form p.0) p.1) w e) [
      | inl m ↦ inl m
      | inr m ↦ inr (m.0, m.1, refused_faulty (form m.0.0) m.0.1 w m.2)
    ]
refused_faulty (items shape cells say) words w e =
    elim (bind_err (read_items shape cells words) (λ facts. Ok (say facts)) w e) [
      | inl m ↦ items_fail shape cells words w m
      | inr m ↦ absurd (ok_not_err (say m.0) w m.2)
    ]
refused_faulty (finish says) words w e =
    elim (bind_err (end_of words.ended words.list) (λ n. Ok says) w e) [ inl m ↦ m | inr m ↦ absurd (ok_not_err says w m.2) ]

pub faulty_refused : (form : LineForm) (words : Words) (w : CertWhy) → HasFirstFault form words w → reads form words ≡ Err w
faulty_refused (fixed wanted form) words w h =
    elim h [
      | inl f ↦ ap (λ m. m >>= (λ n. reads form (rest_of words))) (fails_next (fixed_of wanted) words w f)
      | inr m ↦ ap (λ m. m >>= (λ n. reads form (rest_of words))) (is_next (fixed_of wanted) words m.0 m.1)
          ∙ faulty_refused form (rest_of words) w m.2
    ]
faulty_refused (number a form) words w h =
    elim h [
      | inl f ↦ ap (λ m. m >>= (λ n. reads (form n) (rest_of words))) (fails_next (number_of a) words w f)
      | inr m ↦ ap (λ m. m >>= (λ n. reads (form n) (rest_of words))) (is_next (number_of a) words m.0 m.1)
          ∙ faulty_refused (form m.0) (rest_of words) w m.2
    ]
faulty_refused (choice wanted form) words w h =
    elim h [
      | inl f ↦ ap (λ m. m >>= (λ n. reads (form n) (rest_of words))) (fails_next (choice_of wanted) words w f)
      | inr m ↦ ap (λ m. m >>= (λ n. reads (form n) (rest_of words))) (is_next (choice_of wanted) words m.0 m.1)
          ∙ faulty_refused (form m.0) (rest_of words) w m.2
    ]
faulty_refused (slope limit form) words w h =
    elim h [
      | inl f ↦ ap (λ m. m >>= (λ n. reads (form n) (rest_of words))) (fails_next (slope_of limit) words w f)
      | inr m ↦ ap (λ m. m >>= (λ n. reads (form n) (rest_of words))) (is_next (slope_of limit) words m.0 m.1)
          ∙ faulty_refused (form m.0) (rest_of words) w m.2
    ]
faulty_refused (spans cells form) words w h =
    elim h [
      | inl f ↦ ap (λ m. m >>= (λ p. reads (form p.0) p.1)) f
      | inr m ↦ ap (λ m. m >>= (λ p. reads (form p.0) p.1)) m.1 ∙ faulty_refused (form m.0.0) m.0.1 w m.2
    ]
faulty_refused (items shape cells say) words w h = ap (λ m. m >>= (λ facts. Ok (say facts))) (fail_items shape cells words w h)
faulty_refused (finish says) words w h = ap (λ m. m >>= (λ n. Ok says)) h

-- each line is allowed or has a first fault

pub decided : (form : LineForm) (words : Words) → ((said : ParsedLine) × Allows form words said) ⊎ ((w : CertWhy) × HasFirstFault form words w)
decided form words = by_answer (reads form words) refl
  where
    by_answer : (r : Result ParsedLine CertWhy) → reads form words ≡ r
        → ((said : ParsedLine) × Allows form words said) ⊎ ((w : CertWhy) × HasFirstFault form words w)
    by_answer (Ok said) e = inl (said, read_allowed form words said e)
    by_answer (Err w) e = inr (w, refused_faulty form words w e)

pub one_said : (form : LineForm) (words : Words) (a b : ParsedLine) → Allows form words a → Allows form words b → a ≡ b
one_said form words a b p q = ok_same a b (sym (allowed_read form words a p) ∙ allowed_read form words b q)

pub one_fault : (form : LineForm) (words : Words) (v w : CertWhy) → HasFirstFault form words v → HasFirstFault form words w → v ≡ w
one_fault form words v w p q = err_same v w (sym (faulty_refused form words v p) ∙ faulty_refused form words w q)
  where
    err_same : (a b : CertWhy) → refusal ParsedLine a ≡ refusal ParsedLine b → a ≡ b
    err_same a b e = cc

pub not_both : (form : LineForm) (words : Words) (said : ParsedLine) (w : CertWhy) → Allows form words said → HasFirstFault form words w → ⊥
not_both form words said w p q = ok_not_err said w (sym (allowed_read form words said p) ∙ faulty_refused form words w q)
