-- Values that are put one after another, each unless it is there, are each of them once.
use Rattle.std.proofs.Common.{◌≡◌, ◌≤◌, ◌+◌, ◌∙◌, Bool, true, false, not, ◌&&◌, ◌||◌, List, [], ◌∷◌, ◌++◌, refl, sym, ap, subst, length, min, Option, Some, None, ltb, arith}
use Rattle.std.specs.Prelude.{filter}
use Rattle.std.specs.List.{cons_option}
use Rattle.std.proofs.lemmas.List.{append_assoc, append-nil, length-append}
use Rattle.std.proofs.lemmas.Bool.{and_parts, eqb-true, ltb-true, ltb-false}
use Rattle.uz_schedule.specs.Ends.{Ends}
use Rattle.uz_schedule.specs.declared.facts.Bit.{Bit}
use Rattle.uz_schedule.specs.declared.facts.Bit.TheVariants as bits
use Rattle.uz_schedule.specs.declared.facts.Val.{Val}
use Rattle.uz_schedule.specs.declared.facts.Val.TheVariants.{Range, Old, OldFlags}
use Rattle.uz_explanations.specs.declared.parts.Value.{Value}
use Rattle.uz_explanations.specs.declared.parts.Value.TheVariants as what
use Rattle.uz_explanations.specs.Parts.{same, same_bit, same_ends, same_val}
use Rattle.uz_explanations.specs.Differing.{each_once, most_values}
use Rattle.uz_explanations.specs.Putting.{is_among, keep_all, noted, put_once}

abbrev pub put_all : List Value → List Value → List Value
put_all seen [] = seen
put_all seen (x ∷ xs) = put_all (put_once seen x) xs

-- What is said to be the same is the same

ends_same : (a b : Ends) → same_ends a b ≡ true → a ≡ b
ends_same a b h =
    let both = and_parts _ _ h in
    let lo : a.lo ≡ b.lo = eqb-true a.lo b.lo both.0 in
    let hi : a.hi ≡ b.hi = eqb-true a.hi b.hi both.1 in
    λ i. record { lo = lo i; hi = hi i }

val_same : (a b : Val) → same_val a b ≡ true → a ≡ b
val_same (Range a) (Range b) h = ap Range (ends_same a b h)
val_same (Range a) (Old r) h = cc
val_same (Range a) OldFlags h = cc
val_same (Old q) (Range b) h = cc
val_same (Old q) (Old r) h = ap Old (eqb-true q r h)
val_same (Old q) OldFlags h = cc
val_same OldFlags (Range b) h = cc
val_same OldFlags (Old r) h = cc
val_same OldFlags OldFlags h = refl

bit_same : (a b : Bit) → same_bit a b ≡ true → a ≡ b
bit_same bits.Zero bits.Zero h = refl
bit_same bits.One bits.One h = refl
bit_same bits.Free bits.Free h = refl
bit_same bits.Old bits.Old h = refl
bit_same bits.Zero bits.One h = cc
bit_same bits.Zero bits.Free h = cc
bit_same bits.Zero bits.Old h = cc
bit_same bits.One bits.Zero h = cc
bit_same bits.One bits.Free h = cc
bit_same bits.One bits.Old h = cc
bit_same bits.Free bits.Zero h = cc
bit_same bits.Free bits.One h = cc
bit_same bits.Free bits.Old h = cc
bit_same bits.Old bits.Zero h = cc
bit_same bits.Old bits.One h = cc
bit_same bits.Old bits.Free h = cc

pub value_same : (a b : Value) → same a b ≡ true → a ≡ b
value_same (what.Byte a) (what.Byte b) h = ap what.Byte (val_same a b h)
value_same (what.Pair a) (what.Pair b) h = ap what.Pair (ends_same a b h)
value_same (what.Flag a) (what.Flag b) h = ap what.Flag (bit_same a b h)
value_same (what.Byte a) (what.Pair b) h = cc
value_same (what.Byte a) (what.Flag b) h = cc
value_same (what.Pair a) (what.Byte b) h = cc
value_same (what.Pair a) (what.Flag b) h = cc
value_same (what.Flag a) (what.Byte b) h = cc
value_same (what.Flag a) (what.Pair b) h = cc

-- Filters

-- a value that isn't there, for the second of two tests
abbrev pub new : List Value → Value → Bool
new seen y = not (is_among seen y)

filtered_twice : (p q : Value → Bool) (xs : List Value) → filter p (filter q xs) ≡ filter (λ y. q y && p y) xs
filtered_twice p q [] = refl
filtered_twice p q (x ∷ xs) = by_case (q x) (p x) refl refl (filtered_twice p q xs)
  where
    by_case : (a b : Bool) → q x ≡ a → p x ≡ b → filter p (filter q xs) ≡ filter (λ y. q y && p y) xs
        → filter p (filter q (x ∷ xs)) ≡ filter (λ y. q y && p y) (x ∷ xs)
    by_case true true e f later = rw (e, f) (ap (λ l. x ∷ l) later)
    by_case true false e f later = rw (e, f) later
    by_case false b e f later = rw e later

filter_same : (p q : Value → Bool) → ((y : Value) → p y ≡ q y) → (xs : List Value) → filter p xs ≡ filter q xs
filter_same p q each [] = refl
filter_same p q each (x ∷ xs) = by_case (q x) refl (filter_same p q each xs)
  where
    by_case : (b : Bool) → q x ≡ b → filter p xs ≡ filter q xs → filter p (x ∷ xs) ≡ filter q (x ∷ xs)
    by_case true e later = rw (each x ∙ e, e) (ap (λ l. x ∷ l) later)
    by_case false e later = rw (each x ∙ e, e) later

pub filter_all : (p : Value → Bool) → ((y : Value) → p y ≡ true) → (xs : List Value) → filter p xs ≡ xs
filter_all p each [] = refl
filter_all p each (x ∷ xs) = rw (each x) (ap (λ l. x ∷ l) (filter_all p each xs))

among_more : (seen : List Value) (x y : Value) → is_among (seen ++ x ∷ []) y ≡ is_among seen y || same x y
among_more [] x y = by_case (same x y)
  where
    by_case : (b : Bool) → b || false ≡ b
    by_case true = refl
    by_case false = refl
among_more (z ∷ seen) x y = by_case (same z y) (among_more seen x y)
  where
    by_case : (b : Bool) → is_among (seen ++ x ∷ []) y ≡ is_among seen y || same x y
        → b || is_among (seen ++ x ∷ []) y ≡ b || is_among seen y || same x y
    by_case true later = refl
    by_case false later = later

-- one that is there isn't new, nor are those that are the same
there_twice : (seen : List Value) (x : Value) → is_among seen x ≡ true → (y : Value) → (not (same x y) && new seen y) ≡ new seen y
there_twice seen x there y = by_case (same x y) refl
  where
    by_case : (b : Bool) → same x y ≡ b → (not (same x y) && new seen y) ≡ new seen y
    by_case false e = rw e refl
    by_case true e = rw e (sym (ap not (subst (λ z. is_among seen z ≡ true) (value_same x y e) there)))

neither : (a b : Bool) → not (a || b) ≡ not b && not a
neither true true = refl
neither true false = refl
neither false true = refl
neither false false = refl

-- one that isn't there makes those that are the same old
new_twice : (seen : List Value) (x y : Value) → (not (same x y) && new seen y) ≡ new (seen ++ x ∷ []) y
new_twice seen x y = sym (neither (is_among seen y) (same x y)) ∙ sym (ap not (among_more seen x y))

-- what is put is behind what was there, each once that is new
pub put_all_is : (seen xs : List Value) → put_all seen xs ≡ seen ++ filter (new seen) (each_once xs)
put_all_is seen [] = sym (append-nil seen)
put_all_is seen (x ∷ xs) = by_case (is_among seen x) refl (λ s. put_all_is s xs)
  where
    rest : List Value
    rest = each_once xs

    old : is_among seen x ≡ true → filter (new seen) (filter (λ y. not (same x y)) rest) ≡ filter (new seen) rest
    old e = filtered_twice (new seen) (λ y. not (same x y)) rest
        ∙ filter_same (λ y. not (same x y) && new seen y) (new seen) (there_twice seen x e) rest

    fresh : filter (new seen) (filter (λ y. not (same x y)) rest) ≡ filter (new (seen ++ x ∷ [])) rest
    fresh = filtered_twice (new seen) (λ y. not (same x y)) rest
        ∙ filter_same (λ y. not (same x y) && new seen y) (new (seen ++ x ∷ [])) (new_twice seen x) rest

    by_case : (b : Bool) → is_among seen x ≡ b → ((s : List Value) → put_all s xs ≡ s ++ filter (new s) rest)
        → put_all seen (x ∷ xs) ≡ seen ++ filter (new seen) (x ∷ filter (λ y. not (same x y)) rest)
    by_case true e later = rw e (later seen ∙ ap (λ l. seen ++ l) (sym (old e)))
    by_case false e later = rw e (later (seen ++ x ∷ []) ∙ append_assoc seen (x ∷ []) (filter (new (seen ++ x ∷ [])) rest)
        ∙ ap (λ l. seen ++ (x ∷ l)) (sym fresh))

pub put_all_once : (xs : List Value) → put_all [] xs ≡ each_once xs
put_all_once xs = put_all_is [] xs ∙ filter_all (new []) (λ y. refl) (each_once xs)

-- putting takes none away
pub put_all_long : (seen xs : List Value) → length seen ≤ length (put_all seen xs)
put_all_long seen xs =
    let is = ap length (put_all_is seen xs) ∙ length-append seen (filter (new seen) (each_once xs)) in omega (arith, is)

-- Values that are kept up to a number

put_long : (seen : List Value) (x : Value) → length seen ≤ length (put_once seen x)
put_long seen x = put_all_long seen (x ∷ [])

put_short : (seen : List Value) (x : Value) → length (put_once seen x) ≤ length seen + 1
put_short seen x = by_case (is_among seen x) refl
  where
    by_case : (b : Bool) → is_among seen x ≡ b → length (put_once seen x) ≤ length seen + 1
    by_case true e = rw e (omega arith)
    by_case false e = let is = length-append seen (x ∷ []) in rw e (omega (arith, is))

-- as many are kept as are put, up to that number
pub keep_counts : (seen xs : List Value) → length seen ≤ most_values → length (keep_all seen xs) ≡ min most_values (length (put_all seen xs))
keep_counts seen [] few = omega (arith, few)
keep_counts seen (x ∷ xs) few = by_case (ltb (length seen) most_values) refl (λ s. keep_counts s xs)
  where
    by_case : (b : Bool) → ltb (length seen) most_values ≡ b
        → ((s : List Value) → length s ≤ most_values → length (keep_all s xs) ≡ min most_values (length (put_all s xs)))
        → length (keep_all seen (x ∷ xs)) ≡ min most_values (length (put_all (put_once seen x) xs))
    by_case true e later =
        let less = ltb-true (length seen) most_values e in
        let short = put_short seen x in
        rw e (later (put_once seen x) (omega (arith, less, short)))
    by_case false e later =
        let many = ltb-false (length seen) most_values e in
        let one = put_long seen x in
        let all = put_all_long (put_once seen x) xs in
        let old = put_all_long seen xs in
        let counted = later seen few in
        rw e (omega (arith, counted, many, one, all, old))

pub counted : (xs : List Value) → length (keep_all [] xs) ≡ min most_values (length (each_once xs))
counted xs = keep_counts [] xs (omega arith) ∙ ap (λ l. min most_values (length l)) (put_all_once xs)

-- one more instance
pub keep_more : (o : Option Value) (seen rest : List Value) → keep_all seen (cons_option o rest) ≡ keep_all (noted seen o) rest
keep_more None seen rest = refl
keep_more (Some x) seen rest = refl
