-- Items of one value that have a name: what each kind of value gives is read again and only that is read, and from this the same
-- for each table of such items.
use Rattle.uz_cert_laws.proofs.Common.{nat_tests, ◌≡◌, ◌⊎◌, inl, inr, ℕ, ◌+◌, ◌<◌, ◌≤◌, ◌^◌, Bool, true, false, cond, not, ◌&&◌, ◌||◌}
use Rattle.uz_cert_laws.proofs.Common.{eqb, leb, ltb, List, [], ◌∷◌, ◌++◌, length, decimal, bytes_eq, lit≤, refl, sym, ◌∙◌, ap, subst}
use Rattle.uz_cert_laws.proofs.Common.{append_assoc, arith, ⊤, Ok, Err, plain, RangeFits, ◌>>=◌, one_number, range, ends_of, names_c_or_z}
use Rattle.uz_cert_laws.proofs.Common.{any_names, ValueForm, a_number, a_range, a_comparison, a_register, ValueOf, is_usual, NamedItem}
use Rattle.uz_cert_laws.proofs.Common.{named_items, named_place, NamedValues, Shape, Facts, item, unless, range_word, value_word}
use Rattle.uz_cert_laws.proofs.Common.{value_item, value_items, listed_items, temp_forms, ComparedFits, SplitFits}
use Rattle.uz_cert_laws.proofs.Tests.{and_true, neither, not_true, true_not, refuted, fine, fine_is, fault_not, passed, so}
use Rattle.uz_cert_laws.proofs.Tests.{else_so, tested, bind_ok, then, le_is, number_is, same_number, word_is, same_word}
use Rattle.uz_cert_laws.proofs.Comparisons.{comparison_only, comparison_so, nothing_is, split_only, split_so, none_is}
use Rattle.uz_cert_laws.proofs.{Facts.temp_only, Facts.temp_so, Facts.whole_ends, Facts.part_from, Sections.Section, Sections.IsSection}
use Rattle.uz_cert_laws.proofs.{Numbers.one_only, Numbers.one_so, Numbers.lacks}
use Rattle.uz_cert_lines.specs.{Named.usual_of, Named.value_read, Items.in_order, Items.value_set, Items.take_value, Items.take_listed}
use Rattle.uz_cert_lines.specs.declared.why.CertWhy.TheVariants as why

-- an item in its order

pub order_is : (facts more : Facts) (place : ℕ) (t : Bool) (set : Facts) → in_order facts place t >>= (λ p. Ok set) ≡ Ok more
    → (facts.least ≤ place) × (t ≡ false) × (more ≡ set)
order_is facts more place t set e = grind (arith, nat_tests)

pub order_so : (facts : Facts) (place : ℕ) (t : Bool) (set : Facts) → facts.least ≤ place → t ≡ false → in_order facts place t >>=
    (λ p. Ok set) ≡ Ok set
order_so facts place t set l e = grind (arith, nat_tests)

-- kinds of value

abbrev pub ValueFits : (form : ValueForm) → ValueOf form → Type 0
ValueFits (a_number limit may usual) n = (may n ≡ true) × (n < limit)
ValueFits a_range e = RangeFits 255 e
ValueFits a_comparison compared = ComparedFits compared
ValueFits a_register register = SplitFits register

-- its default fits, and its numbers are few enough to be read
abbrev pub is_sound : ValueForm → Bool
is_sound (a_number limit may usual) = leb limit (2 ^ 32) && (may usual && ltb usual limit)
is_sound a_range = true
is_sound a_comparison = true
is_sound a_register = true

pub small : (limit usual : ℕ) (may : ℕ → Bool) → is_sound (a_number limit may usual) ≡ true → limit ≤ 2 ^ 32
small limit usual may s = le_is limit (2 ^ 32) (and_true (leb limit (2 ^ 32)) (may usual && ltb usual limit) s).0

usual_fits : (form : ValueForm) → is_sound form ≡ true → ValueFits form (usual_of form)
usual_fits (a_number limit may usual) s = grind (arith, nat_tests)
usual_fits a_range s = record { order = lit≤ tt; high = lit≤ tt }
usual_fits a_comparison s = tt
usual_fits a_register s = tt

usual_is : (form : ValueForm) → is_usual form (usual_of form) ≡ true
usual_is (a_number limit may usual) = same_number usual
usual_is a_range = refl
usual_is a_comparison = refl
usual_is a_register = refl

pub usual_only : (form : ValueForm) (x : ValueOf form) → is_usual form x ≡ true → x ≡ usual_of form
usual_only (a_number limit may usual) n e = number_is n usual e
usual_only a_range x e = sym (whole_ends x e)
usual_only a_comparison x e = nothing_is x e
usual_only a_register x e = none_is x e

value_only : (form : ValueForm) (w : List ℕ) (x : ValueOf form) → is_sound form ≡ true → value_read form w ≡ Ok x
    → (w ≡ value_word form x) × ValueFits form x
value_only (a_number limit may usual) w n s e =
    let m = bind_ok (one_number 0 limit w) (λ k. cond (may k) (Ok k) (Err why.Limit)) n e in
    let number = one_only 0 limit m.0 w (small limit usual may s) m.1 in
    let p = passed (may m.0) (Ok m.0) why.Limit n m.2 in
    let is = subst (λ k. (w ≡ decimal k) × (may k ≡ true) × (k < limit)) (fine_is m.0 n p.1) (number.0, p.0, number.2) in
    (is.0, (is.1, is.2))
value_only a_range w x s e =
    let m = bind_ok (range temp_forms w) (λ raw. ends_of raw) x e in
    let is = temp_only w m.0 x m.1 m.2 in
    (is.0, is.1.range)
value_only a_comparison w x s e = comparison_only w x e
value_only a_register w x s e = split_only w x e

value_so : (form : ValueForm) (x : ValueOf form) → is_sound form ≡ true → ValueFits form x → is_usual form x ≡ false
    → value_read form (value_word form x) ≡ Ok x
value_so (a_number limit may usual) n s f o =
    then (one_number 0 limit (decimal n)) (λ k. cond (may k) (Ok k) (Err why.Limit)) n (Ok n)
    (one_so 0 limit n (small limit usual may s) (omega arith) f.1) (so (may n) (Ok n) (Err why.Limit) f.0)
value_so a_range x s f o =
    let is = temp_so x (part_from x f o) in
    then (range temp_forms (range_word x)) (λ raw. ends_of raw) is.0 (Ok x) is.1 is.2
value_so a_comparison x s f o = comparison_so x f o
value_so a_register x s f o = split_so x f o

pub or_second : (a b : Bool) → b ≡ true → (a || b) ≡ true
or_second true b e = refl
or_second false b e = e

-- names: at least two letters, none of which begins another item

abbrev pub is_name : List ℕ → Bool
is_name [] = false
is_name (c ∷ []) = false
is_name (c ∷ d ∷ cs) =
    (lacks 61 (c ∷ d ∷ cs) && plain (c ∷ d ∷ cs)) && ((not (eqb c 62) && not (eqb d 58)) && (not (eqb c 114) && not (eqb c 109)))

pub record IsName (c d : ℕ) (cs : List ℕ) : Type 0 where
  pub lack : lacks 61 (c ∷ d ∷ cs) ≡ true
  pub text : plain (c ∷ d ∷ cs) ≡ true
  pub no_successor : eqb c 62 ≡ false
  pub no_slot : eqb d 58 ≡ false
  pub no_register : eqb c 114 ≡ false
  pub no_cell : eqb c 109 ≡ false

pub letters : (c d : ℕ) (cs : List ℕ) → is_name (c ∷ d ∷ cs) ≡ true → IsName c d cs
letters c d cs e = grind (arith, nat_tests)

pub name_plain : (key : List ℕ) → is_name key ≡ true → plain key ≡ true
name_plain [] e = absurd cc
name_plain (c ∷ []) e = absurd cc
name_plain (c ∷ d ∷ cs) e = (letters c d cs e).text

name_other : (key value : List ℕ) → is_name key ≡ true → names_c_or_z (item key value) ≡ false
name_other [] value e = absurd cc
name_other (c ∷ []) value e = absurd cc
name_other (c ∷ d ∷ cs) value e = grind (arith, nat_tests)

-- tables

abbrev pub among : List ℕ → List NamedItem → Bool
among key [] = false
among key (i ∷ is) = bytes_eq key i.key || among key is

-- each item is one that can be read, and has a name of its own
abbrev pub is_table : List NamedItem → Bool
is_table [] = true
is_table (i ∷ is) = ((is_sound i.form && is_name i.key) && not (among i.key is)) && is_table is

pub record IsTable (i : NamedItem) (is : List NamedItem) : Type 0 where
  pub sound : is_sound i.form ≡ true
  pub name : is_name i.key ≡ true
  pub other : among i.key is ≡ false
  pub rest : is_table is ≡ true

pub table : (i : NamedItem) (is : List NamedItem) → is_table (i ∷ is) ≡ true → IsTable i is
table i is e =
    let all = and_true ((is_sound i.form && is_name i.key) && not (among i.key is)) (is_table is) e in
    let one = and_true (is_sound i.form && is_name i.key) (not (among i.key is)) all.0 in
    let two = and_true (is_sound i.form) (is_name i.key) one.0 in
    record { sound = two.0; name = two.1; other = not_true (among i.key is) one.1; rest = all.1 }

-- what values may be: an item that doesn't stand in a line has its default there
abbrev pub Say : (is : List NamedItem) → Shape → NamedValues is → Type 0
Say [] shape v = ⊤
Say (i ∷ is) shape v = (ValueFits i.form v.0 × (i.stands shape ≡ false → v.0 ≡ usual_of i.form)) × Say is shape v.1

-- from a place on all are defaults
abbrev pub Fresh : (is : List NamedItem) → ℕ → ℕ → NamedValues is → Type 0
Fresh [] place least v = ⊤
Fresh (i ∷ is) place least v = (least ≤ place → v.0 ≡ usual_of i.form) × Fresh is (place + 1) least v.1

abbrev pub usuals : (is : List NamedItem) → NamedValues is
usuals [] = tt
usuals (i ∷ is) = (usual_of i.form, usuals is)

pub say_usuals : (is : List NamedItem) (shape : Shape) → is_table is ≡ true → Say is shape (usuals is)
say_usuals [] shape e = tt
say_usuals (i ∷ is) shape e =
    let t = table i is e in
    ((usual_fits i.form t.sound, λ u. refl), say_usuals is shape t.rest)

-- none of them stands in such a line
abbrev pub stand_nowhere : List NamedItem → Shape → Bool
stand_nowhere [] shape = true
stand_nowhere (i ∷ is) shape = not (i.stands shape) && stand_nowhere is shape

pub left_out : (is : List NamedItem) (shape : Shape) (v : NamedValues is) → stand_nowhere is shape ≡ true → Say is shape v → v ≡ usuals is
left_out [] shape v n s = refl
left_out (i ∷ is) shape v n s =
    let two = and_true (not (i.stands shape)) (stand_nowhere is shape) n in
    both (s.0.1 (not_true (i.stands shape) two.0)) (left_out is shape v.1 two.1 s.1)
  where
    both : v.0 ≡ usual_of i.form → v.1 ≡ usuals is → v ≡ usuals (i ∷ is)
    both e f = ap (λ x. (x, v.1)) e ∙ ap (λ (w : NamedValues is). (usual_of i.form, w)) f

pub fresh_usuals : (is : List NamedItem) (place least : ℕ) → Fresh is place least (usuals is)
fresh_usuals [] place least = tt
fresh_usuals (i ∷ is) place least = (λ l. refl, fresh_usuals is (place + 1) least)

fresh_later : (is : List NamedItem) (place m n : ℕ) (v : NamedValues is) → m ≤ n → Fresh is place m v → Fresh is place n v
fresh_later [] place m n v l f = tt
fresh_later (i ∷ is) place m n v l f = (λ h. f.0 (omega (arith, l, h)), fresh_later is (place + 1) m n v.1 l f.1)

nothing_usual : (i : NamedItem) → value_items i (usual_of i.form) ≡ []
nothing_usual i = so (is_usual i.form (usual_of i.form)) [] (value_item i (usual_of i.form) ∷ []) (usual_is i.form)

nothing_fresh : (is : List NamedItem) (place least : ℕ) (v : NamedValues is) → least ≤ place → Fresh is place least v
    → listed_items is v ≡ []
nothing_fresh [] place least v l f = refl
nothing_fresh (i ∷ is) place least v l f =
    ap (λ x. value_items i x ++ listed_items is v.1) (f.0 l) ∙ ap (λ t. t ++ listed_items is v.1) (nothing_usual i)
    ∙ nothing_fresh is (place + 1) least v.1 (omega arith) f.1

abbrev pub listed_section : Shape → Section (NamedValues named_items)
listed_section shape = record {
  words = listed_items named_items;
  Fits = λ m v. Say named_items shape v × Fresh named_items named_place m v;
  from = named_place;
}

pub listed_is : (shape : Shape) → IsSection (listed_section shape)
listed_is shape = record {
  later = λ m n v l f. (f.0, fresh_later named_items named_place m n v l f.1);
  empty = λ m v l f. nothing_fresh named_items named_place m v l f.1;
}

-- a word sets the value of an item at this place
pub record SetsValue (i : NamedItem) (place : ℕ) (shape : Shape) (least : ℕ) (w : List ℕ) (x : ValueOf i.form) : Type 0 where
  pub word : w ≡ value_item i x
  pub stands : i.stands shape ≡ true
  pub fits : ValueFits i.form x
  pub order : least ≤ place
  pub other : is_usual i.form x ≡ false

-- it sets one of these values, and from the next place on all are due
abbrev pub SetsOne : (is : List NamedItem) → ℕ → Shape → ℕ → NamedValues is → List ℕ → NamedValues is → ℕ → Type 0
SetsOne [] place shape least old w new next = ⊥
SetsOne (i ∷ is) place shape least old w new next =
    (SetsValue i place shape least w new.0 × (new.1 ≡ old.1) × (next ≡ place + 1))
    ⊎ ((new.0 ≡ old.0) × SetsOne is (place + 1) shape least old.1 w new.1 next)

pub sets_between : (is : List NamedItem) (place : ℕ) (shape : Shape) (least : ℕ) (old : NamedValues is) (w : List ℕ) (new : NamedValues is)
    (next : ℕ) → SetsOne is place shape least old w new next → (least < next) × (place < next) × (next ≤ place + length is)
sets_between [] place shape least old w new next h = absurd h
sets_between (i ∷ is) place shape least old w new next (inl h) =
    let order : least ≤ place = h.0.order in
    (omega (arith, h.2), omega (arith, h.2), omega (arith, h.2))
sets_between (i ∷ is) place shape least old w new next (inr h) =
    let later = sets_between is (place + 1) shape least old.1 w new.1 next h.1 in
    (later.0, omega (arith, later.1), omega (arith, later.2))

pub sets_other : (is : List NamedItem) (place : ℕ) (shape : Shape) (least : ℕ) (old : NamedValues is) (w : List ℕ) (new : NamedValues is)
    (next : ℕ) → is_table is ≡ true → SetsOne is place shape least old w new next → names_c_or_z w ≡ false
sets_other [] place shape least old w new next e h = absurd h
sets_other (i ∷ is) place shape least old w new next e (inl h) =
    ap names_c_or_z h.0.word ∙ name_other i.key (value_word i.form new.0) (table i is e).name
sets_other (i ∷ is) place shape least old w new next e (inr h) =
    sets_other is (place + 1) shape least old.1 w new.1 next (table i is e).rest h.1

pub sets_more : (is : List NamedItem) (place : ℕ) (shape : Shape) (least : ℕ) (old : NamedValues is) (w : List ℕ) (new : NamedValues is)
    (next : ℕ) → SetsOne is place shape least old w new next → Say is shape old → Fresh is place least old
    → (Say is shape new × Fresh is place next new) × (listed_items is new ≡ listed_items is old ++ w ∷ [])
sets_more [] place shape least old w new next h s f = absurd h
sets_more (i ∷ is) place shape least old w new next (inl h) s f =
    let order : least ≤ place = h.0.order in
    let none = nothing_fresh is (place + 1) least old.1 (omega arith) f.1 in (
      (
        ((h.0.fits, λ u. absurd (true_not (i.stands shape) h.0.stands u)), subst (Say is shape) (sym h.1) s.1),
        (
          λ l. absurd (omega (arith, l, h.2)),
          subst (Fresh is (place + 1) next) (sym h.1) (fresh_later is (place + 1) least next old.1 (omega (arith, h.2)) f.1),
        ),
      ),
      ap (λ vs. value_items i new.0 ++ listed_items is vs) h.1 ∙ ap (λ t. value_items i new.0 ++ t) none
          ∙ ap (λ t. t ++ []) (else_so (is_usual i.form new.0) [] (value_item i new.0 ∷ []) h.0.other ∙ ap (λ x. x ∷ []) (sym h.0.word))
          ∙ sym (ap (λ x. (value_items i x ++ listed_items is old.1) ++ w ∷ []) (f.0 order)
          ∙ ap (λ t. (t ++ listed_items is old.1) ++ w ∷ []) (nothing_usual i) ∙ ap (λ t. t ++ w ∷ []) none),
    )
sets_more (i ∷ is) place shape least old w new next (inr h) s f =
    let past = (sets_between is (place + 1) shape least old.1 w new.1 next h.1).1 in
    let rest = sets_more is (place + 1) shape least old.1 w new.1 next h.1 s.1 f.1 in (
      (
        (subst (λ x. ValueFits i.form x × (i.stands shape ≡ false → x ≡ usual_of i.form)) (sym h.0) s.0, rest.0.0),
        (λ l. absurd (omega (arith, l, past)), rest.0.1),
      ),
      ap (λ x. value_items i x ++ listed_items is new.1) h.0 ∙ ap (λ t. value_items i old.0 ++ t) rest.1
          ∙ sym (append_assoc (value_items i old.0) (listed_items is old.1) (w ∷ [])),
    )

pub listed_other : (is : List NamedItem) (v : NamedValues is) → is_table is ≡ true → any_names (listed_items is v) ≡ false
listed_other [] v e = refl
listed_other (i ∷ is) v e =
    let t = table i is e in
    by_default (is_usual i.form v.0) (name_other i.key (value_word i.form v.0) t.name) (listed_other is v.1 t.rest)
  where
    by_default : (b : Bool) → names_c_or_z (value_item i v.0) ≡ false → any_names (listed_items is v.1) ≡ false
        → any_names (unless b (value_item i v.0) [] ++ listed_items is v.1) ≡ false
    by_default true e f = f
    by_default false e f = neither (names_c_or_z (value_item i v.0)) (any_names (listed_items is v.1)) e f

-- reading

value_taken : (i : NamedItem) (shape : Shape) (facts : Facts) (place : ℕ) (put : ValueOf i.form → ℕ → Facts) (w value : List ℕ)
    (more : Facts) → is_sound i.form ≡ true → w ≡ item i.key value → take_value i shape facts place put value ≡ Ok more
    → (x : ValueOf i.form) × SetsValue i place shape facts.least w x × (more ≡ put x (place + 1))
unfolding take_value
value_taken i shape facts place put w value more s e h =
    let p = passed (i.stands shape) (value_read i.form value >>= (λ x. value_set i facts place put x)) why.Word more h in
    let m = bind_ok (value_read i.form value) (λ x. value_set i facts place put x) more p.1 in
    let is = value_only i.form value m.0 s m.1 in
    let set = order_is facts more place (is_usual i.form m.0) (put m.0 (place + 1)) m.2 in (
      m.0,
      record { word = e ∙ ap (item i.key) is.0; stands = p.0; fits = is.1; order = set.0; other = set.1 },
      set.2,
    )

pub listed_taken : (is : List NamedItem) (place : ℕ) (shape : Shape) (facts : Facts) (v : NamedValues is) (put : NamedValues is → ℕ → Facts)
    (w key value : List ℕ) (more : Facts) → is_table is ≡ true → w ≡ item key value
    → take_listed is place shape facts v put key value ≡ Ok more
    → (new : NamedValues is) × (next : ℕ) × SetsOne is place shape facts.least v w new next × (more ≡ put new next)
listed_taken [] place shape facts v put w key value more s e h = absurd (fault_not why.Word more h)
listed_taken (i ∷ is) place shape facts v put w key value more s e h =
    tested (bytes_eq key i.key) h
    (λ t h. let m = value_taken i shape facts place (λ x. put (x, v.1)) w value more (table i is s).sound
    (e ∙ ap (λ k. item k value) (word_is key i.key t)) h in
    ((m.0, v.1), place + 1, inl (m.1, refl, refl), m.2))
    (λ _ h. let m = listed_taken is (place + 1) shape facts v.1 (λ later. put (v.0, later)) w key value more (table i is s).rest e h in
    ((v.0, m.0), m.1, inr (refl, m.2), m.3))

value_takes : (i : NamedItem) (shape : Shape) (facts : Facts) (place : ℕ) (put : ValueOf i.form → ℕ → Facts) (w : List ℕ) (x : ValueOf i.form)
    → is_sound i.form ≡ true → SetsValue i place shape facts.least w x
    → take_value i shape facts place put (value_word i.form x) ≡ Ok (put x (place + 1))
unfolding take_value
value_takes i shape facts place put w x s t =
    grind (arith, nat_tests, t.stands, value_so i.form x s t.fits t.other, t.order, t.other)

-- a word that sets one of these values is an item of a name in the table, and is taken
pub record ListedTakes (is : List NamedItem) (place : ℕ) (shape : Shape) (facts : Facts) (v : NamedValues is)
    (put : NamedValues is → ℕ → Facts) (w : List ℕ) (new : NamedValues is) (next : ℕ) : Type 0 where
  pub key : List ℕ
  pub value : List ℕ
  pub word : w ≡ item key value
  pub name : is_name key ≡ true
  pub known : among key is ≡ true
  pub takes : take_listed is place shape facts v put key value ≡ Ok (put new next)

pub listed_takes : (is : List NamedItem) (place : ℕ) (shape : Shape) (facts : Facts) (v : NamedValues is) (put : NamedValues is → ℕ → Facts)
    (w : List ℕ) (new : NamedValues is) (next : ℕ) → is_table is ≡ true → SetsOne is place shape facts.least v w new next
    → ListedTakes is place shape facts v put w new next
listed_takes [] place shape facts v put w new next s t = absurd t
listed_takes (i ∷ is) place shape facts v put w new next s (inl t) =
    let value = value_word i.form new.0 in
    record {
      key = i.key;
      value = value;
      word = t.0.word;
      name = (table i is s).name;
      known = ap (λ b. b || among i.key is) (same_word i.key);
      takes = so (bytes_eq i.key i.key) (take_value i shape facts place (λ x. put (x, v.1)) value)
          (take_listed is (place + 1) shape facts v.1 (λ later. put (v.0, later)) i.key value) (same_word i.key)
          ∙ value_takes i shape facts place (λ x. put (x, v.1)) w new.0 (table i is s).sound t.0
          ∙ ap (λ later. fine (put (new.0, later) (place + 1))) (sym t.1) ∙ ap (λ n. fine (put new n)) (sym t.2);
    }
listed_takes (i ∷ is) place shape facts v put w new next s (inr t) =
    let n = listed_takes is (place + 1) shape facts v.1 (λ later. put (v.0, later)) w new.1 next (table i is s).rest t.1 in
    let other = refuted (bytes_eq n.key i.key)
    (λ same. true_not (among i.key is) (sym (ap (λ k. among k is) (word_is n.key i.key same)) ∙ n.known) (table i is s).other) in
    record {
      key = n.key;
      value = n.value;
      word = n.word;
      name = n.name;
      known = or_second (bytes_eq n.key i.key) (among n.key is) n.known;
      takes = else_so (bytes_eq n.key i.key) (take_value i shape facts place (λ x. put (x, v.1)) n.value)
          (take_listed is (place + 1) shape facts v.1 (λ later. put (v.0, later)) n.key n.value) other
          ∙ n.takes ∙ ap (λ x. fine (put (x, new.1) next)) (sym t.0);
    }

-- Reads values least: words say the rest where these values stand, and items are due from the place least on. Where a word that sets
-- a value comes before such words, they say the rest too (step). So each value is read, and the default stands where there was none.

one_read : (shape : Shape) (i : NamedItem) (is : List NamedItem) (place least : ℕ) (Reads : NamedValues (i ∷ is) → ℕ → Type 0)
    (step : (old new : NamedValues (i ∷ is)) (low next : ℕ) (w : List ℕ) → SetsOne (i ∷ is) place shape low old w new next → Reads new next
    → Reads old low)
    (x : ValueOf i.form) → ValueFits i.form x × (i.stands shape ≡ false → x ≡ usual_of i.form) → least ≤ place
    → ((low : ℕ) → low ≤ place + 1 → Reads (x, usuals is) low) → (b : Bool) → is_usual i.form x ≡ b → Reads (usual_of i.form, usuals is) least
one_read shape i is place least Reads step x s l later true u =
    subst (λ y. Reads (y, usuals is) least) (usual_only i.form x u) (later least (omega (arith, l)))
one_read shape i is place least Reads step x s l later false u =
    step (usual_of i.form, usuals is) (x, usuals is) least (place + 1) (value_item i x)
    (inl (record { word = refl; stands = stands (i.stands shape) refl; fits = s.0; order = l; other = u }, refl, refl))
    (later (place + 1) (omega arith))
  where
    stands : (b : Bool) → i.stands shape ≡ b → b ≡ true
    stands true e = refl
    stands false e = absurd (true_not (is_usual i.form x) (ap (is_usual i.form) (s.1 e) ∙ usual_is i.form) u)

pub listed_read : (shape : Shape) (is : List NamedItem) (place least : ℕ) (Reads : NamedValues is → ℕ → Type 0)
    (step : (old new : NamedValues is) (low next : ℕ) (w : List ℕ) → SetsOne is place shape low old w new next → Reads new next → Reads old low)
    (v : NamedValues is) → Say is shape v → least ≤ place → ((low : ℕ) → low ≤ place + length is → Reads v low) → Reads (usuals is) least
listed_read shape [] place least Reads step v s l go = go least (omega (arith, l))
listed_read shape (i ∷ is) place least Reads step v s l go =
    one_read shape i is place least Reads step v.0 s.0 l
    (λ low m. listed_read shape is (place + 1) low (λ w n. Reads (v.0, w) n)
    (λ old new a b w t d. step (v.0, old) (v.0, new) a b w (inr (refl, t)) d) v.1 s.1 m (λ n k. go n (omega (arith, k))))
    (is_usual i.form v.0) refl
