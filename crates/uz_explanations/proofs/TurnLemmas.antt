-- What a place of a trail adds to its lines.
use Rattle.std.proofs.Common.{◌≡◌, ℕ, zero, suc, ◌+◌, ◌-◌, ◌/◌, ◌%◌, ◌<◌, ◌≤◌, Bool, true, false, cond, List, [], ◌∷◌, ◌++◌, drop, get_or}
use Rattle.std.proofs.Common.{length, refl, sym, ◌∙◌, ap, arith, append_assoc, add-one, nat_eq}
use Rattle.std.proofs.lemmas.List.{drop_all}
use Rattle.std.specs.Prelude.{Result, Ok, Err, IfOk}
use Rattle.std.proofs.lemmas.Bool.Decides.{nat_tests}
use Rattle.std.specs.Ordering.{nat_cmp}
use Rattle.std.specs.FinMap.{FinMap}
use Rattle.uz_schedule.specs.declared.states.Instance.{Instance}
use Rattle.avr_asm.specs.declared.labels.Label.{Label}
use Rattle.uz_explanations.specs.Beginnings.{common}
use Rattle.uz_explanations.specs.Readings.{Reading}
use Rattle.uz_explanations.specs.TrailLines.{trail_line}
use Rattle.uz_explanations.specs.Turns.{lines_from, repeated, comes_again, stretch_from, stretch, turns_line}
use Rattle.uz_explanations.proofs.PieceLemmas.{left, nothing_left}

-- Beginnings

-- one more pair is alike
pub one_more : {A : Type 0} (same : A → A → Bool) (xs ys : List A) (k all : ℕ) (x y : A) → k < length xs → k < length ys
    → x ≡ get_or xs k x → y ≡ get_or ys k y → same x y ≡ true → k + common same (drop k xs) (drop k ys) ≡ all
    → k + 1 + common same (drop (k + 1) xs) (drop (k + 1) ys) ≡ all
one_more same xs ys k all x y h i e f s before =
    let rest = common same (drop (k + 1) xs) (drop (k + 1) ys) in
    let here : common same (drop k xs) (drop k ys) ≡ suc rest =
    ap (λ zs. common same zs (drop k ys)) (left xs k x x h e) ∙ ap (λ zs. common same (x ∷ drop (k + 1) xs) zs) (left ys k y y i f)
    ∙ ap (λ b. cond b (suc rest) 0) s in
    count k rest (common same (drop k xs) (drop k ys)) all here before
  where
    count : (k rest here all : ℕ) → here ≡ suc rest → k + here ≡ all → k + 1 + rest ≡ all
    count k rest here all e f = omega (arith, e, f)

nothing : (k here all : ℕ) → here ≡ 0 → k + here ≡ all → k ≡ all
nothing k here all e f = omega (arith, e, f)

-- a pair differs
pub differs : {A : Type 0} (same : A → A → Bool) (xs ys : List A) (k all : ℕ) (x y : A) → k < length xs → k < length ys
    → x ≡ get_or xs k x → y ≡ get_or ys k y → same x y ≡ false → k + common same (drop k xs) (drop k ys) ≡ all → k ≡ all
differs same xs ys k all x y h i e f s before =
    let rest = common same (drop (k + 1) xs) (drop (k + 1) ys) in
    let here : common same (drop k xs) (drop k ys) ≡ 0 =
    ap (λ zs. common same zs (drop k ys)) (left xs k x x h e) ∙ ap (λ zs. common same (x ∷ drop (k + 1) xs) zs) (left ys k y y i f)
    ∙ ap (λ b. cond b (suc rest) 0) s in
    nothing k (common same (drop k xs) (drop k ys)) all here before

none_second : {A : Type 0} (same : A → A → Bool) (xs : List A) → common same xs [] ≡ 0
none_second same [] = refl
none_second same (x ∷ xs) = refl

-- the second list is over
pub second_over : {A : Type 0} (same : A → A → Bool) (xs ys : List A) (k all : ℕ) → length ys ≤ k
    → k + common same (drop k xs) (drop k ys) ≡ all → k ≡ all
second_over same xs ys k all h before =
    nothing k (common same (drop k xs) (drop k ys)) all
    (ap (λ zs. common same (drop k xs) zs) (drop_all k ys h) ∙ none_second same (drop k xs)) before

-- the first list is over
pub first_over : {A : Type 0} (same : A → A → Bool) (xs ys : List A) (k all : ℕ) → length xs ≤ k
    → k + common same (drop k xs) (drop k ys) ≡ all → k ≡ all
first_over same xs ys k all h before =
    nothing k (common same (drop k xs) (drop k ys)) all (ap (λ zs. common same zs (drop k ys)) (drop_all k xs h)) before

-- Lines

module _ (image : FinMap nat_cmp ℕ) (read : Reading) (labels : List Label) (trail : List Instance) where
  lines : ℕ → ℕ → List Instance → List ℕ
  lines i skip rest = lines_from image read labels trail i skip rest

  -- an instance that stands in a line before
  pub skipped : (text : List ℕ) (i skip : ℕ) (x : Instance) (rest : List Instance) → 0 < skip
      → text ++ lines_from image read labels trail (i + 1) (skip - 1) rest ≡ text ++ lines_from image read labels trail i skip (x ∷ rest)
  unfolding lines_from
  skipped text i zero x rest h = absurd (omega (arith, h))
  skipped text i (suc skip) x rest h =
      let e : suc skip - 1 ≡ skip = omega arith in
      ap (λ n. text ++ lines_from image read labels trail (i + 1) n rest) e
      ∙ ap (λ n. text ++ lines_from image read labels trail n skip rest) (add-one i)

  -- an instance with a line of its own
  pub own_line : (old new : List ℕ) (i skip : ℕ) (x : Instance) (rest : List Instance) → skip ≡ 0 → stretch trail i ≡ 0
      → new ≡ old ++ trail_line image labels (read x.pc) x
      → new ++ lines_from image read labels trail (i + 1) 0 rest ≡ old ++ lines_from image read labels trail i skip (x ∷ rest)
  unfolding lines_from
  own_line old new i skip x rest z h e =
      let n = stretch trail i in
      let count = repeated trail i n in
      let later = lines_from image read labels trail (suc i) 0 rest in
      let turned = turns_line n (count / n) ++ lines_from image read labels trail (suc i) (count - count % n - 1) rest in
      ap (λ t. t ++ lines_from image read labels trail (i + 1) 0 rest) e
      ∙ append_assoc old (trail_line image labels (read x.pc) x) (lines_from image read labels trail (i + 1) 0 rest)
      ∙ ap (λ m. old ++ (trail_line image labels (read x.pc) x ++ lines_from image read labels trail m 0 rest)) (add-one i)
      ∙ ap (λ m. old ++ cond (nat_eq m 0) (trail_line image labels (read x.pc) x ++ later) turned) (sym h)
      ∙ ap (λ m. old ++ lines_from image read labels trail i m (x ∷ rest)) (sym z)

  -- the first instance of a stretch that comes again
  pub turned : (old new : List ℕ) (i skip n next : ℕ) (x : Instance) (rest : List Instance) → skip ≡ 0 → n ≡ stretch trail i → 0 < n
      → next ≡ repeated trail i n - repeated trail i n % n - 1 → new ≡ old ++ turns_line n (repeated trail i n / n)
      → new ++ lines_from image read labels trail (i + 1) next rest ≡ old ++ lines_from image read labels trail i skip (x ∷ rest)
  unfolding lines_from
  turned old new i skip n next x rest z s h f e =
      let after = lines_from image read labels trail (suc i) next rest in
      let own = trail_line image labels (read x.pc) x ++ lines_from image read labels trail (suc i) 0 rest in
      ap (λ t. t ++ lines_from image read labels trail (i + 1) next rest) e
      ∙ append_assoc old (turns_line n (repeated trail i n / n)) (lines_from image read labels trail (i + 1) next rest)
      ∙ ap (λ m. old ++ (turns_line n (repeated trail i n / n) ++ lines_from image read labels trail m next rest)) (add-one i)
      ∙ ap (λ m. old ++ (turns_line n (repeated trail i n / n) ++ lines_from image read labels trail (suc i) m rest)) f
      ∙ ap (λ b. old ++ cond b own (turns_line n (repeated trail i n / n) ++ lines_from image read labels trail (suc i)
      (repeated trail i n - repeated trail i n % n - 1) rest)) (sym (not_zero n h))
      ∙ ap (λ m. old ++ cond (nat_eq m 0) own (turns_line m (repeated trail i m / m) ++ lines_from image read labels trail (suc i)
      (repeated trail i m - repeated trail i m % m - 1) rest)) s
      ∙ ap (λ m. old ++ lines_from image read labels trail i m (x ∷ rest)) (sym z)
    where
      not_zero : (n : ℕ) → 0 < n → nat_eq n 0 ≡ false
      not_zero n h = grind (arith, nat_tests, h)

  -- no instance is left
  pub trail_over : (text all : List ℕ) (i skip : ℕ) → length trail ≤ i
      → text ++ lines_from image read labels trail i skip (drop i trail) ≡ all → text ≡ all
  unfolding lines_from
  trail_over text all i skip h before =
      nothing_left text _ all (ap (λ ys. lines_from image read labels trail i skip ys) (drop_all i trail h)) before

-- Stretches

-- one more length is tried
pub not_again : (trail : List Instance) (i tried all : ℕ) → tried < 64 → comes_again trail i (tried + 1) ≡ false
    → stretch_from trail i (tried + 1) (64 - tried) ≡ all → stretch_from trail i (tried + 1 + 1) (64 - (tried + 1)) ≡ all
unfolding stretch_from
not_again trail i tried all h e before =
    let more : 64 - tried ≡ suc (64 - (tried + 1)) = omega (arith, h) in
    ap (λ n. stretch_from trail i n (64 - (tried + 1))) (add-one (tried + 1))
    ∙ ap (λ b. cond b (tried + 1) (stretch_from trail i (suc (tried + 1)) (64 - (tried + 1)))) (sym e)
    ∙ ap (λ m. stretch_from trail i (tried + 1) m) (sym more) ∙ before

-- this one comes again
pub again : (trail : List Instance) (i tried all : ℕ) → tried < 64 → comes_again trail i (tried + 1) ≡ true
    → stretch_from trail i (tried + 1) (64 - tried) ≡ all → tried + 1 ≡ all
unfolding stretch_from
again trail i tried all h e before =
    let more : 64 - tried ≡ suc (64 - (tried + 1)) = omega (arith, h) in
    ap (λ b. cond b (tried + 1) (stretch_from trail i (suc (tried + 1)) (64 - (tried + 1)))) (sym e)
    ∙ ap (λ m. stretch_from trail i (tried + 1) m) (sym more) ∙ before

-- none comes again
pub none_again : (trail : List Instance) (i tried all : ℕ) → 64 ≤ tried → stretch_from trail i (tried + 1) (64 - tried) ≡ all → 0 ≡ all
unfolding stretch_from
none_again trail i tried all h before =
    let over : 64 - tried ≡ 0 = omega (arith, h) in
    ap (λ m. stretch_from trail i (tried + 1) m) (sym over) ∙ before

-- What a call promises

pub if_ok_weaker : {T E : Type 0} {P Q : T → Type 0} (r : Result T E) → ((v : T) → P v → Q v) → IfOk r P → IfOk r Q
if_ok_weaker (Ok v) f h = f v h
if_ok_weaker (Err e) f h = h

-- a beginning isn't longer than the lists

pub within_first : {A : Type 0} (same : A → A → Bool) (xs ys : List A) (n : ℕ) → n ≡ common same xs ys → n ≤ length xs
within_first same xs ys n e = at_most n (common same xs ys) (length xs) e (first_within same xs ys)
  where
    at_most : (n m k : ℕ) → n ≡ m → m ≤ k → n ≤ k
    at_most n m k e h = omega (arith, e, h)

    first_within : {A : Type 0} (same : A → A → Bool) (xs ys : List A) → common same xs ys ≤ length xs
    first_within same [] ys = omega arith
    first_within same (x ∷ xs) [] = omega arith
    first_within same (x ∷ xs) (y ∷ ys) = by (same x y) (common same xs ys) (length xs) (first_within same xs ys)
      where
        by : (b : Bool) (m k : ℕ) → m ≤ k → cond b (suc m) 0 ≤ suc k
        by true m k h = omega (arith, h)
        by false m k h = omega arith

pub within_second : {A : Type 0} (same : A → A → Bool) (xs ys : List A) (n : ℕ) → n ≡ common same xs ys → n ≤ length ys
within_second same xs ys n e = at_most n (common same xs ys) (length ys) e (second_within same xs ys)
  where
    at_most : (n m k : ℕ) → n ≡ m → m ≤ k → n ≤ k
    at_most n m k e h = omega (arith, e, h)

    second_within : {A : Type 0} (same : A → A → Bool) (xs ys : List A) → common same xs ys ≤ length ys
    second_within same [] ys = omega arith
    second_within same (x ∷ xs) [] = omega arith
    second_within same (x ∷ xs) (y ∷ ys) = by (same x y) (common same xs ys) (length ys) (second_within same xs ys)
      where
        by : (b : Bool) (m k : ℕ) → m ≤ k → cond b (suc m) 0 ≤ suc k
        by true m k h = omega (arith, h)
        by false m k h = omega arith
