-- Values that are kept, one after another.
use Rattle.std.proofs.Common.{◌≡◌, ◌≤◌, ◌<◌, ◌+◌, ◌∙◌, ◌&&◌, ◌||◌, ℕ, Bool, true, false, List, [], ◌∷◌, ◌++◌, Option, Some, None, refl, sym, ap, subst, length, ltb, arith}
use Rattle.std.proofs.Common.{get_or, map, take, drop, Bor}
use Rattle.std.specs.Prelude.{if◌then◌else◌, nat_lt}
use Rattle.std.specs.List.{cons_option}
use Rattle.std.proofs.lemmas.List.{drop_all, drop_more, length-map, map-append, take_all, take_more}
use Rattle.std.proofs.lemmas.List.Elements.{filter_map-append}
use Rattle.std.proofs.lemmas.Bool.{eq-eqb, or_left, or_right}
use Rattle.std.proofs.lemmas.Bool.Decides.{nat_tests}
use Rattle.uz_schedule.specs.Ends.{Ends}
use Rattle.uz_schedule.specs.declared.facts.Bit.{Bit}
use Rattle.uz_schedule.specs.declared.facts.Bit.TheVariants as bits
use Rattle.uz_schedule.specs.declared.facts.Val.{Val}
use Rattle.uz_schedule.specs.declared.facts.Val.TheVariants.{Range, Old, OldFlags}
use Rattle.uz_schedule.specs.declared.states.Instance.{Instance}
use Rattle.uz_explanations.specs.declared.parts.Class.{Class}
use Rattle.uz_explanations.specs.declared.parts.Value.{Value}
use Rattle.uz_explanations.specs.declared.parts.Value.TheVariants as what
use Rattle.uz_explanations.specs.Parts.{said, same, same_bit, same_ends, same_val}
use Rattle.uz_explanations.specs.Differing.{most_values, values}
use Rattle.uz_explanations.specs.Putting.{is_among, keep_all, kept, noted, put_once}
use Rattle.uz_explanations.proofs.Values.{keep_more, value_same}

-- a list after another
pub keep_all_more : (seen xs ys : List Value) → keep_all seen (xs ++ ys) ≡ keep_all (keep_all seen xs) ys
keep_all_more seen [] ys = refl
keep_all_more seen (x ∷ xs) ys = keep_all_more (kept seen x) xs ys

-- nothing is kept where there are as many as are counted
pub keep_full : (seen xs : List Value) → most_values ≤ length seen → keep_all seen xs ≡ seen
keep_full seen [] full = refl
keep_full seen (x ∷ xs) full =
    let over : nat_lt (length seen) most_values ≡ false = grind (arith, nat_tests, full) in
    ap (λ s. keep_all s xs) (ap (λ b. if b then put_once seen x else seen) over) ∙ keep_full seen xs full

-- A value that is kept is kept once

ends_self : (a : Ends) → same_ends a a ≡ true
ends_self a = rw (eq-eqb a.lo a.lo refl, eq-eqb a.hi a.hi refl) refl

val_self : (a : Val) → same_val a a ≡ true
val_self (Range a) = ends_self a
val_self (Old q) = eq-eqb q q refl
val_self OldFlags = refl

bit_self : (a : Bit) → same_bit a a ≡ true
bit_self bits.Zero = refl
bit_self bits.One = refl
bit_self bits.Free = refl
bit_self bits.Old = refl

same_self : (a : Value) → same a a ≡ true
same_self (what.Byte a) = val_self a
same_self (what.Pair a) = ends_self a
same_self (what.Flag a) = bit_self a

among_last : (xs : List Value) (x : Value) → is_among (xs ++ x ∷ []) x ≡ true
among_last [] x = or_left (same x x) false (same_self x)
among_last (y ∷ xs) x = or_right (same y x) (is_among (xs ++ x ∷ []) x) (among_last xs x)

put_again : (xs : List Value) (x : Value) → put_once (put_once xs x) x ≡ put_once xs x
put_again xs x = by_case (is_among xs x) refl
  where
    by_case : (b : Bool) → is_among xs x ≡ b → put_once (put_once xs x) x ≡ put_once xs x
    by_case true e = rw e (rw e refl)
    by_case false e = rw e (rw (among_last xs x) refl)

-- whether there is room or not
kept_there : (xs : List Value) (x : Value) → put_once xs x ≡ xs → kept xs x ≡ xs
kept_there xs x there = by_case (nat_lt (length xs) most_values)
  where
    by_case : (b : Bool) → (if b then put_once xs x else xs) ≡ xs
    by_case true = there
    by_case false = refl

pub kept_again : (xs : List Value) (x : Value) → kept (kept xs x) x ≡ kept xs x
kept_again xs x = by_case (nat_lt (length xs) most_values) refl
  where
    by_case : (b : Bool) → nat_lt (length xs) most_values ≡ b → kept (kept xs x) x ≡ kept xs x
    by_case true e = rw e (kept_there (put_once xs x) x (put_again xs x))
    by_case false e = rw e (rw e refl)

-- one that is the same as one that is kept
pub kept_same : (seen : List Value) (other x : Value) → same other x ≡ true → kept seen other ≡ seen → kept seen x ≡ seen
kept_same seen other x alike there = subst (λ v. kept seen v ≡ seen) (value_same other x alike) there

-- nor is it kept again
pub noted_last : (old new : List Value) (o : Option Value) → new ≡ noted old o → noted new o ≡ new
noted_last old new o is = subst (λ l. noted l o ≡ l) (sym is) (again o)
  where
    again : (o : Option Value) → noted (noted old o) o ≡ noted old o
    again None = refl
    again (Some x) = kept_again old x

pub full_stays : {X : Type 0} (f : X → Value) (items : List X) (n : ℕ) (xs : List Value) → n ≡ length items → most_values ≤ n
    → map f items ≡ keep_all (map f items) xs
full_stays f items n xs is full =
    let len = length-map items f in sym (keep_full (map f items) xs (omega (arith, len, is, full)))

-- The instances of a block, one later

-- what instances are that are lent
abbrev pub lent : List (Bor Instance) → List Instance
lent = map (λ x. x.now)

pub next_one : {A : Type 0} (xs : List A) (i : ℕ) (x : A) → i < length xs → x ≡ get_or xs i x → drop i xs ≡ x ∷ drop (i + 1) xs
next_one xs i x below is = drop_more xs i x below ∙ ap (λ y. y ∷ drop (i + 1) xs) (sym is)

pub part_next : (class : Class) (n : ℕ) (here : List (Bor Instance)) (i : ℕ) (x : Bor Instance) (old new all : List Value) (o : Option Value)
    → i < length here → x ≡ get_or here i x → o ≡ said class n x.now → new ≡ noted old o
    → keep_all old (values class n (lent (drop i here))) ≡ all → keep_all new (values class n (lent (drop (i + 1) here))) ≡ all
part_next class n here i x old new all o below is says put before =
    let rest = values class n (lent (drop (i + 1) here)) in
    ap (λ s. keep_all s rest) (put ∙ ap (noted old) says) ∙ sym (keep_more (said class n x.now) old rest)
    ∙ ap (λ l. keep_all old (values class n (lent l))) (sym (next_one here i x below is)) ∙ before

pub part_over : (class : Class) (n : ℕ) (here : List (Bor Instance)) (i : ℕ) (seen all : List Value) → length here ≤ i
    → keep_all seen (values class n (lent (drop i here))) ≡ all → seen ≡ all
part_over class n here i seen all past before = ap (λ l. keep_all seen (values class n (lent l))) (sym (drop_all i here past)) ∙ before

-- nothing is said of a part in one more instance
pub none_next : (class : Class) (here : List (Bor Instance)) (i : ℕ) (x : Bor Instance) (most count new : ℕ) → i < length here
    → x ≡ get_or here i x → ((k : ℕ) → count ≤ k → said class k x.now ≡ None) → most ≤ new → count ≤ new
    → ((k : ℕ) → most ≤ k → values class k (lent (take i here)) ≡ []) → (k : ℕ) → new ≤ k
    → values class k (lent (take (i + 1) here)) ≡ []
none_next class here i x most count new below is none first second before k more =
    ap (λ l. values class k (lent l)) (take_more here i x below ∙ ap (λ y. take i here ++ y ∷ []) (sym is))
    ∙ ap (values class k) (map-append (λ y. y.now) (take i here) (x ∷ []))
    ∙ filter_map-append (said class k) (lent (take i here)) (x.now ∷ [])
    ∙ ap (λ l. l ++ values class k (x.now ∷ [])) (before k (omega (arith, first, more)))
    ∙ ap (λ o. cons_option o []) (none k (omega (arith, second, more)))

pub none_over : (class : Class) (here : List (Bor Instance)) (i most : ℕ) → length here ≤ i
    → ((k : ℕ) → most ≤ k → values class k (lent (take i here)) ≡ []) → (k : ℕ) → most ≤ k → values class k (lent here) ≡ []
none_over class here i most past before k more =
    ap (λ l. values class k (lent l)) (sym (take_all i here past)) ∙ before k more
