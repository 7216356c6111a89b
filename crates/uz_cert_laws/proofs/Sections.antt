-- Items in sections, one after another: those of a section have places from its first on, and nothing of it is spelled before.
use Rattle.uz_cert_laws.proofs.Common.{◌≡◌, ℕ, zero, suc, ◌+◌, ◌-◌, ◌≤◌, Bool, true, false, cond, List, [], ◌∷◌, ◌++◌, map, length, drop}
use Rattle.uz_cert_laws.proofs.Common.{refl, sym, ◌∙◌, ap, subst, append_assoc, add-one, length-append, arith, ⊤, Some, slice_get}
use Rattle.uz_cert_laws.proofs.Common.{slice_set, unless, options, ◌&&◌, leb, append-nil}
use Rattle.std.proofs.lemmas.List.{drop-drop}
use Rattle.uz_cert_laws.proofs.Tests.{and_true, le_is}

-- a value for each key, and the relation holds of each
abbrev pub Each : {K A : Type 0} → (K → A → Type 0) → List K → List A → Type 0
Each R [] [] = ⊤
Each R [] (x ∷ xs) = ⊥
Each R (k ∷ ks) [] = ⊥
Each R (k ∷ ks) (x ∷ xs) = R k x × Each R ks xs

pub each_length : {K A : Type 0} (R : K → A → Type 0) (ks : List K) (xs : List A) → Each R ks xs → length xs ≡ length ks
each_length R [] [] h = refl
each_length R [] (x ∷ xs) h = absurd h
each_length R (k ∷ ks) [] h = absurd h
each_length R (k ∷ ks) (x ∷ xs) h = ap suc (each_length R ks xs h.1)

pub each_map : {K A : Type 0} (R : K → A → Type 0) (f : K → A) (ks : List K) → ((k : K) → R k (f k)) → Each R ks (map f ks)
each_map R f [] h = tt
each_map R f (k ∷ ks) h = (h k, each_map R f ks h)

pub each_other : {K A : Type 0} (R S : K → A → Type 0) (ks : List K) (xs : List A) → ((k : K) (x : A) → R k x → S k x) → Each R ks xs
    → Each S ks xs
each_other R S [] [] f h = tt
each_other R S [] (x ∷ xs) f h = h
each_other R S (k ∷ ks) [] f h = h
each_other R S (k ∷ ks) (x ∷ xs) f h = (f k x h.0, each_other R S ks xs f h.1)

pub each_set : {K A : Type 0} (R : K → A → Type 0) (ks : List K) (xs : List A) (i : ℕ) (k : K) (x : A)
    → Each R ks xs → slice_get ks i ≡ Some k → R k x → Each R ks (slice_set xs i x)
each_set R [] xs i k x h e r = absurd cc
each_set R (k0 ∷ ks) [] i k x h e r = absurd h
each_set {K} R (k0 ∷ ks) (x0 ∷ xs) zero k x h e r =
    let same : k0 ≡ k = cc in
    (subst (λ (y : K). R y x) (sym same) r, h.1)
each_set R (k0 ∷ ks) (x0 ∷ xs) (suc i) k x h e r = (h.0, each_set R ks xs i k x h.1 e r)

-- defaults

abbrev pub IsUsual : {K A : Type 0} → (K → A → Bool) → K → A → Type 0
IsUsual d k x = d k x ≡ true

-- nothing is spelled of defaults
pub no_options : {K A : Type 0} (d : K → A → Bool) (w : K → A → List ℕ) (ks : List K) (xs : List A) → Each (IsUsual d) ks xs
    → options d w ks xs ≡ []
no_options d w [] [] h = refl
no_options d w [] (x ∷ xs) h = absurd h
no_options d w (k ∷ ks) [] h = absurd h
no_options d w (k ∷ ks) (x ∷ xs) h = ap (λ t. cond t (options d w ks xs) (w k x ∷ options d w ks xs)) h.0 ∙ no_options d w ks xs h.1

unless_more : (t : Bool) (word : List ℕ) (xs ys : List (List ℕ)) → unless t word (xs ++ ys) ≡ unless t word xs ++ ys
unless_more true word xs ys = refl
unless_more false word xs ys = refl

-- one value is set, from which on all were defaults: its item is the last
pub option_set : {K A : Type 0} (d : K → A → Bool) (w : K → A → List ℕ) (ks : List K) (xs ds : List A) (i : ℕ) (k : K) (x : A)
    → length xs ≡ length ks → Each (IsUsual d) ks ds → drop i xs ≡ drop i ds → slice_get ks i ≡ Some k → d k x ≡ false
    → options d w ks (slice_set xs i x) ≡ options d w ks xs ++ w k x ∷ []
option_set d w [] xs ds i k x l u e g n = absurd cc
option_set d w (k0 ∷ ks) [] ds i k x l u e g n = absurd (omega arith)
option_set {K} {A} d w (k0 ∷ ks) (x0 ∷ xs) ds zero k x l u e g n =
    let same : k0 ≡ k = cc in
    let usual : Each (IsUsual d) (k0 ∷ ks) (x0 ∷ xs) = subst (λ (ys : List A). Each (IsUsual d) (k0 ∷ ks) ys) (sym e) u in
    ap (λ (y : K). unless (d y x) (w y x) (options d w ks xs)) same
    ∙ ap (λ t. unless t (w k x) (options d w ks xs)) n
    ∙ ap (λ ws. w k x ∷ ws) (no_options d w ks xs usual.1)
    ∙ ap (λ ws. ws ++ w k x ∷ []) (sym (no_options d w (k0 ∷ ks) (x0 ∷ xs) usual))
option_set d w (k0 ∷ ks) (x0 ∷ xs) [] (suc i) k x l u e g n = absurd u
option_set d w (k0 ∷ ks) (x0 ∷ xs) (d0 ∷ ds) (suc i) k x l u e g n =
    ap (unless (d k0 x0) (w k0 x0)) (option_set d w ks xs ds i k x (omega (arith, l)) u.1 e g n)
    ∙ unless_more (d k0 x0) (w k0 x0) (options d w ks xs) (w k x ∷ [])

-- what follows a value that is set stays
pub drop_set : {A : Type 0} (xs : List A) (i : ℕ) (x : A) → drop (suc i) (slice_set xs i x) ≡ drop (suc i) xs
drop_set [] i x = refl
drop_set (x0 ∷ xs) zero x = refl
drop_set (x0 ∷ xs) (suc i) x = drop_set xs i x

-- what is the same from one place on is the same from a later one on
pub drop_later : {A : Type 0} (xs ys : List A) (n m : ℕ) → n ≤ m → drop n xs ≡ drop n ys → drop m xs ≡ drop m ys
drop_later xs ys n m h e = by_sum (m - n) (omega arith)
  where
    by_sum : (k : ℕ) → m ≡ n + k → drop m xs ≡ drop m ys
    by_sum k s =
        ap (λ j. drop j xs) s ∙ sym (drop-drop k n xs) ∙ ap (drop k) e ∙ drop-drop k n ys ∙ ap (λ j. drop j ys) (sym s)

-- what is the same from the first place on is the same
pub drop_none : {A : Type 0} (xs ys : List A) (n : ℕ) → n ≡ 0 → drop n xs ≡ drop n ys → xs ≡ ys
drop_none {A} xs ys n z e = subst (λ k. drop k xs ≡ drop k ys) z e

-- lists of optional items: a value for each key, and how many keys stand before a place

pub record OptionList (K A : Type 0) : Type 1 where
  pub keys : List K
  pub is_usual : K → A → Bool
  pub usual : K → A
  pub word : K → A → List ℕ
  pub Within : K → A → Type 0
  pub spelled : List A → List (List ℕ)
  pub before : ℕ → ℕ
  pub start : ℕ

pub record AreOptions {K A : Type 0} (o : OptionList K A) : Type 0 where
  pub usual_is : (k : K) → o.is_usual k (o.usual k) ≡ true
  pub words_are : (xs : List A) → length xs ≡ length o.keys → o.spelled xs ≡ options o.is_usual o.word o.keys xs
  pub rise : (m n : ℕ) → m ≤ n → o.before m ≤ o.before n
  pub none : (m : ℕ) → m ≤ o.start → o.before m ≡ 0

-- items that are read one after another

-- keys whose places rise from least on, each at its index; all places are below limit
abbrev pub Ordered : {K : Type 0} → (K → ℕ → Type 0) → (K → ℕ → ℕ) → ℕ → ℕ → ℕ → List K → Type 0
Ordered I place n least limit [] = least ≤ limit
Ordered I place n least limit (k ∷ ks) = I k n × (least ≤ place k n) × Ordered I place (suc n) (place k n + 1) limit ks

ordered_lower : {K : Type 0} (I : K → ℕ → Type 0) (place : K → ℕ → ℕ) (n low least limit : ℕ) (ks : List K)
    → low ≤ least → Ordered I place n least limit ks → Ordered I place n low limit ks
ordered_lower I place n low least limit [] h o = omega arith
ordered_lower I place n low least limit (k ∷ ks) h o = (o.0, omega (arith, h, o.1), o.2)

-- Reads least values: words say the rest where these values stand, and items are due from the place least on. Where the item of a
-- value that isn't a default comes before such words, they say the rest too (step). So all are read, and the default stands where
-- there was none.
module _ {K A : Type 0} (o : OptionList K A) (place : K → ℕ → ℕ) (I : K → ℕ → Type 0) (R : K → A → Type 0) (Reads : ℕ → List A → Type 0)
    (is : (k : K) (x : A) → R k x → o.is_usual k x ≡ true → x ≡ o.usual k)
    (step : (front back : List A) (k : K) (x : A) (least : ℕ) → I k (length front) → R k x → o.is_usual k x ≡ false
    → least ≤ place k (length front) → Reads (place k (length front) + 1) (front ++ x ∷ back) → Reads least (front ++ o.usual k ∷ back)) where
  abbrev Again : List K → List A → Type 0
  Again ks xs =
      (front : List A) (least limit : ℕ) → Ordered I place (length front) least limit ks
      → ((low : ℕ) → low ≤ limit → Reads low (front ++ xs)) → Reads least (front ++ map o.usual ks)

  one_more : (k : K) (ks : List K) (x : A) (xs : List A) → R k x → Again ks xs → Again (k ∷ ks) (x ∷ xs)
  one_more k ks x xs r again front least limit b go = by_default (o.is_usual k x) refl
    where
      longer : (y : A) → length (front ++ y ∷ []) ≡ suc (length front)
      longer y = length-append front (y ∷ []) ∙ add-one (length front)

      from : (y : A) (low : ℕ) → low ≤ place k (length front) + 1 → x ≡ y → Reads low (front ++ y ∷ map o.usual ks)
      from y low l e =
          subst (Reads low) (append_assoc front (y ∷ []) (map o.usual ks))
          (again (front ++ y ∷ []) low limit
          (ordered_lower I place (length (front ++ y ∷ [])) low (place k (length front) + 1) limit ks l
          (subst (λ n. Ordered I place n (place k (length front) + 1) limit ks) (sym (longer y)) b.2))
          (λ n m. subst (Reads n) (ap (λ (z : A). front ++ z ∷ xs) e ∙ sym (append_assoc front (y ∷ []) xs)) (go n m)))

      by_default : (t : Bool) → o.is_usual k x ≡ t → Reads least (front ++ o.usual k ∷ map o.usual ks)
      by_default true t = from (o.usual k) least (omega (arith, b.1)) (is k x r t)
      by_default false t =
          step front (map o.usual ks) k x least b.0 r t b.1 (from x (place k (length front) + 1) (omega arith) refl)

  all_more : (ks : List K) (xs : List A) → Each R ks xs → Again ks xs
  all_more [] [] h = λ front least limit b go. go least b
  all_more [] (x ∷ xs) h = absurd h
  all_more (k ∷ ks) [] h = absurd h
  all_more (k ∷ ks) (x ∷ xs) h = one_more k ks x xs h.0 (all_more ks xs h.1)

  pub options_read : (xs : List A) (least limit : ℕ) → Each R o.keys xs → Ordered I place 0 least limit o.keys
      → ((low : ℕ) → low ≤ limit → Reads low xs) → Reads least (map o.usual o.keys)
  options_read xs least limit h b go = all_more o.keys xs h [] least limit b go

pub record Section (X : Type 0) : Type 1 where
  pub words : X → List (List ℕ)
  -- within limits, and from a place on as where nothing is said
  pub Fits : ℕ → X → Type 0
  pub from : ℕ

pub record IsSection {X : Type 0} (s : Section X) : Type 0 where
  pub later : (m n : ℕ) (x : X) → m ≤ n → s.Fits m x → s.Fits n x
  pub empty : (m : ℕ) (x : X) → m ≤ s.from → s.Fits m x → s.words x ≡ []

pub data Sections : Type 1 where
  last : {X : Type 0} → Section X → Sections
  section : {X : Type 0} → Section X → Sections → Sections

abbrev pub Values : Sections → Type 0
Values (last {X} s) = X
Values (section {X} s ss) = X × Values ss

abbrev pub all_words : (ss : Sections) → Values ss → List (List ℕ)
all_words (last s) v = s.words v
all_words (section s ss) v = s.words v.0 ++ all_words ss v.1

abbrev pub FitAll : (ss : Sections) → ℕ → Values ss → Type 0
FitAll (last s) m v = s.Fits m v
FitAll (section s ss) m v = s.Fits m v.0 × FitAll ss m v.1

abbrev pub AreSections : Sections → Type 0
AreSections (last s) = IsSection s
AreSections (section s ss) = IsSection s × AreSections ss

-- all of them begin at a place or later
abbrev pub from_on : Sections → ℕ → Bool
from_on (last s) p = leb p s.from
from_on (section s ss) p = leb p s.from && from_on ss p

all_later : (ss : Sections) → AreSections ss → (m n : ℕ) (v : Values ss) → m ≤ n → FitAll ss m v → FitAll ss n v
all_later (last s) is m n v l f = is.later m n v l f
all_later (section s ss) is m n v l f = (is.0.later m n v.0 l f.0, all_later ss is.1 m n v.1 l f.1)

none_two : (a b : List (List ℕ)) → a ≡ [] → b ≡ [] → a ++ b ≡ []
none_two a b e g = ap (λ t. t ++ b) e ∙ g

pub all_empty : (ss : Sections) → AreSections ss → (m p : ℕ) (v : Values ss) → from_on ss p ≡ true → m ≤ p → FitAll ss m v
    → all_words ss v ≡ []
all_empty (last s) is m p v o l f = is.empty m v (omega (arith, le_is p s.from o, l)) f
all_empty (section s ss) is m p v o l f =
    let two = and_true (leb p s.from) (from_on ss p) o in
    none_two (s.words v.0) (all_words ss v.1) (is.0.empty m v.0 (omega (arith, le_is p s.from two.0, l)) f.0)
    (all_empty ss is.1 m p v.1 two.1 l f.1)

-- the section at a place, its value, and another value there

abbrev pub TypeAt : Sections → ℕ → Type 0
TypeAt (last {X} s) k = X
TypeAt (section {X} s ss) zero = X
TypeAt (section s ss) (suc k) = TypeAt ss k

abbrev pub section_at : (ss : Sections) (k : ℕ) → Section (TypeAt ss k)
section_at (last s) k = s
section_at (section s ss) zero = s
section_at (section s ss) (suc k) = section_at ss k

abbrev pub value_at : (ss : Sections) (k : ℕ) → Values ss → TypeAt ss k
value_at (last s) k v = v
value_at (section s ss) zero v = v.0
value_at (section s ss) (suc k) v = value_at ss k v.1

abbrev pub with_value : (ss : Sections) (k : ℕ) → Values ss → TypeAt ss k → Values ss
with_value (last s) k v y = y
with_value (section s ss) zero v y = (y, v.1)
with_value (section s ss) (suc k) v y = (v.0, with_value ss k v.1 y)

-- those after it begin at a place or later
abbrev pub after_from : Sections → ℕ → ℕ → Bool
after_from (last s) k p = true
after_from (section s ss) zero p = from_on ss p
after_from (section s ss) (suc k) p = after_from ss k p

-- one item more

pub record Grown (ss : Sections) (n : ℕ) (old new : Values ss) (w : List ℕ) : Type 0 where
  pub fit : FitAll ss n new
  pub words : all_words ss new ≡ all_words ss old ++ w ∷ []

-- in one section, where those behind it are still empty
pub grown : (ss : Sections) → AreSections ss → (k m n p : ℕ) (v : Values ss) (y : TypeAt ss k) (w : List ℕ) → after_from ss k p ≡ true → m ≤ p
    → m ≤ n → FitAll ss m v → (section_at ss k).Fits n y → (section_at ss k).words y ≡ (section_at ss k).words (value_at ss k v) ++ w ∷ []
    → Grown ss n v (with_value ss k v y) w
grown (last s) is k m n p v y w o l j f g e = record { fit = g; words = e }
grown (section s ss) is zero m n p v y w o l j f g e = record {
  fit = (g, all_later ss is.1 m n v.1 j f.1);
  words = let none = all_empty ss is.1 m p v.1 o l f.1 in
      ap (λ t. t ++ all_words ss v.1) e ∙ ap (λ t. (s.words v.0 ++ w ∷ []) ++ t) none ∙ append-nil (s.words v.0 ++ w ∷ [])
      ∙ ap (λ t. t ++ w ∷ []) (sym (append-nil (s.words v.0))) ∙ ap (λ t. (s.words v.0 ++ t) ++ w ∷ []) (sym none);
}
grown (section s ss) is (suc k) m n p v y w o l j f g e =
    let more = grown ss is.1 k m n p v.1 y w o l j f.1 g e in
    record {
      fit = (is.0.later m n v.0 j f.0, more.fit);
      words = ap (λ t. s.words v.0 ++ t) more.words ∙ sym (append_assoc (s.words v.0) (all_words ss v.1) (w ∷ []));
    }

-- a section of optional items

abbrev pub option_section : {K A : Type 0} → OptionList K A → Section (List A)
option_section o = record {
  words = o.spelled;
  Fits = λ m xs. Each o.Within o.keys xs × (drop (o.before m) xs ≡ drop (o.before m) (map o.usual o.keys));
  from = o.start;
}

all_usual : {K A : Type 0} (o : OptionList K A) → AreOptions o → Each (IsUsual o.is_usual) o.keys (map o.usual o.keys)
all_usual o is = each_map (IsUsual o.is_usual) o.usual o.keys is.usual_is

pub options_are : {K A : Type 0} (o : OptionList K A) → AreOptions o → IsSection (option_section o)
options_are {K} {A} o is = record {
  later = λ m n xs l f. (f.0, drop_later xs (map o.usual o.keys) (o.before m) (o.before n) (is.rise m n l) f.1);
  empty = λ m xs l f.
      is.words_are xs (each_length o.Within o.keys xs f.0)
      ∙ ap (λ (ys : List A). options o.is_usual o.word o.keys ys) (drop_none xs (map o.usual o.keys) (o.before m) (is.none m l) f.1)
      ∙ no_options o.is_usual o.word o.keys (map o.usual o.keys) (all_usual o is);
}

pub option_more : {K A : Type 0} (o : OptionList K A) → AreOptions o → (m n i : ℕ) (k : K) (x : A) (xs : List A)
    → (option_section o).Fits m xs → slice_get o.keys i ≡ Some k → o.before m ≤ i → o.before n ≡ suc i → o.Within k x → o.is_usual k x ≡ false
    → (option_section o).Fits n (slice_set xs i x) × (o.spelled (slice_set xs i x) ≡ o.spelled xs ++ o.word k x ∷ [])
option_more {K} {A} o is m n i k x xs f at l b fits other =
    let count = each_length o.Within o.keys xs f.0 in
    let each = each_set o.Within o.keys xs i k x f.0 at fits in
    let ds = map o.usual o.keys in (
      (
        each,
        ap (λ j. drop j (slice_set xs i x)) b ∙ drop_set xs i x ∙ drop_later xs ds (o.before m) (suc i) (omega (arith, l)) f.1
            ∙ ap (λ j. drop j ds) (sym b),
      ),
      is.words_are (slice_set xs i x) (each_length o.Within o.keys (slice_set xs i x) each)
          ∙ option_set o.is_usual o.word o.keys xs ds i k x count (all_usual o is) (drop_later xs ds (o.before m) i l f.1) at other
          ∙ ap (λ ws. ws ++ o.word k x ∷ []) (sym (is.words_are xs count)),
    )
