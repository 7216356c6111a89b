-- A crowd among those that are ranked.
use Rattle.std.proofs.Common.{◌≡◌, ◌≤◌, ◌<◌, ◌+◌, ◌∙◌, ℕ, zero, suc, Bool, true, false, List, [], ◌∷◌, refl, sym, ap, take, drop, length, get_or, ltb, arith, add-one}
use Rattle.std.specs.Prelude.{insert}
use Rattle.std.proofs.lemmas.Bool.{ne_eqb}
use Rattle.std.proofs.lemmas.List.{drop_more}
use Rattle.uz_explanations.specs.declared.ranking.Crowd.{Crowd}
use Rattle.uz_explanations.specs.Ranking.{before, most_crowds, placed, ranked}

-- those before it are some of the list
pub before_within : (count : ℕ) (ds : List Crowd) → before count ds ≤ length ds
before_within count [] = omega arith
before_within count (d ∷ ds) = by_case (ltb count d.count) refl (before_within count ds)
  where
    by_case : (b : Bool) → ltb count d.count ≡ b → before count ds ≤ length ds → before count (d ∷ ds) ≤ length (d ∷ ds)
    by_case true e less = rw e (omega (arith, less))
    by_case false e less = rw e (omega arith)

pub place_within : (count at n : ℕ) (ds : List Crowd) → at ≡ before count ds → length ds ≡ n → at ≤ n
place_within count at n ds is len = let less = before_within count ds in omega (arith, is, len, less)

-- it goes behind them
pub inserted : (c : Crowd) (ds : List Crowd) → insert ds (before c.count ds) c ≡ placed c ds
inserted c [] = refl
inserted c (d ∷ ds) = by_case (ltb c.count d.count) refl (inserted c ds)
  where
    by_case : (b : Bool) → ltb c.count d.count ≡ b → insert ds (before c.count ds) c ≡ placed c ds
        → insert (d ∷ ds) (before c.count (d ∷ ds)) c ≡ placed c (d ∷ ds)
    by_case true e later = rw e (ap (λ l. d ∷ l) later)
    by_case false e later = rw e refl

pub placed_from : (c : Crowd) (ds es mid new : List Crowd) (at : ℕ) → at ≡ before c.count es → es ≡ ds → mid ≡ insert ds at c
    → new ≡ take most_crowds mid → new ≡ take most_crowds (placed c ds)
placed_from c ds es mid new at is same in' cut =
    cut ∙ ap (take most_crowds) (in' ∙ ap (λ n. insert ds n c) (is ∙ ap (before c.count) same) ∙ inserted c ds)

twice : (m : ℕ) (xs : List Crowd) → take m (take (suc m) xs) ≡ take m xs
twice zero xs = refl
twice (suc m) [] = refl
twice (suc m) (x ∷ xs) = ap (λ l. x ∷ l) (twice m xs)

take_behind : (d : Crowd) (n : ℕ) (ds : List Crowd) → take n (d ∷ take n ds) ≡ take n (d ∷ ds)
take_behind d zero ds = refl
take_behind d (suc n) ds = ap (λ l. d ∷ l) (twice n ds)

-- among the first n it has the place that it has among all
pub take_placed : (n : ℕ) (c : Crowd) (ds : List Crowd) → take n (placed c (take n ds)) ≡ take n (placed c ds)
take_placed zero c ds = refl
take_placed (suc n) c [] = refl
take_placed (suc n) c (d ∷ ds) = by_case (ltb c.count d.count) refl (take_placed n c ds)
  where
    by_case : (b : Bool) → ltb c.count d.count ≡ b → take n (placed c (take n ds)) ≡ take n (placed c ds)
        → take (suc n) (placed c (take (suc n) (d ∷ ds))) ≡ take (suc n) (placed c (d ∷ ds))
    by_case true e later = rw e (ap (λ l. d ∷ l) later)
    by_case false e later = rw e (ap (λ l. c ∷ l) (take_behind d n ds))

-- one program counter earlier, which has instances
pub ranked_more : (counts : List ℕ) (pc upper count place : ℕ) (old new : List Crowd) → pc < length counts → upper ≡ pc + 1
    → count ≡ get_or counts pc count → place ≡ pc → 0 < count → old ≡ take most_crowds (ranked upper (drop upper counts))
    → new ≡ take most_crowds (placed (record { pc = place; count = count }) old)
    → new ≡ take most_crowds (ranked pc (drop pc counts))
ranked_more counts pc upper count place old new below up read is some before put =
    let c : Crowd = record { pc = place; count = count } in
    let later : List Crowd = ranked (pc + 1) (drop (pc + 1) counts) in
    let was : old ≡ take most_crowds later = before ∙ ap (λ n. take most_crowds (ranked n (drop n counts))) up in
    let here : ranked pc (drop pc counts) ≡ placed (record { pc = pc; count = count }) later =
    ap (ranked pc) (drop_more counts pc count below ∙ ap (λ n. n ∷ drop (pc + 1) counts) (sym read)) ∙ opened pc count (drop (pc + 1) counts) some in
    put ∙ ap (λ l. take most_crowds (placed c l)) was ∙ take_placed most_crowds c later
    ∙ ap (λ p. take most_crowds (placed (record { pc = p; count = count }) later)) is ∙ ap (take most_crowds) (sym here)
  where
    opened : (p n : ℕ) (l : List ℕ) → 0 < n → ranked p (n ∷ l) ≡ placed (record { pc = p; count = n }) (ranked (p + 1) l)
    opened p n l more = rw (ne_eqb n 0 (λ e. absurd (omega (arith, more, e))), add-one) refl
