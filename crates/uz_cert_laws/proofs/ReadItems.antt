-- All items of a line: where they are read, they are what is spelled of the facts that they say.
use Rattle.uz_cert_laws.proofs.Common.{nat_tests, ◌≡◌, ◌⊎◌, inl, inr, ℕ, zero, suc, ◌+◌, ◌<◌, ◌≤◌, Bool, true, false, cond, not, ◌&&◌}
use Rattle.uz_cert_laws.proofs.Common.{◌||◌, eqb, ltb, List, [], ◌∷◌, ◌++◌, map, length, take, drop, get_or, decimal, codes}
use Rattle.uz_cert_laws.proofs.Common.{lit<, lit≤, refl, sym, ◌∙◌, ap, subst, append_assoc, append-nil, arith, Ok, slice_set, All-nil}
use Rattle.uz_cert_laws.proofs.Common.{All-head, PairFits, BitFits, All-tail, decimal_digit, Ends, tracks, RangeFits, is_zero_or_one}
use Rattle.uz_cert_laws.proofs.Common.{is_default_flag, is_carry_and_zero_default, Kind, Main, Handler, Alone, Cell, Fact, Any, Between}
use Rattle.uz_cert_laws.proofs.Common.{PairFact, Bit, Words, names_c_or_z, any_names, first_facts, default_flag, is_handler, bytes_forms}
use Rattle.uz_cert_laws.proofs.Common.{is_flag_z, tracked_count, take_item, items_from, read_items, FactForms, Shape, Facts, numbers_from}
use Rattle.uz_cert_laws.proofs.Common.{fact_word, pair_word, flag_word, named_items, named_place, named_of, All, AnyPair, BetweenPair}
use Rattle.uz_cert_laws.proofs.Common.{LinePair, LoopPair, letters_of_pairs, letters_of_flags, spelled}
use Rattle.uz_cert_laws.proofs.Tests.{both_of, and_true, fine_is, fault_not, true_not, bind_ok, number_is, lt_is}
use Rattle.uz_cert_laws.proofs.Spelled.{registers, numbered_cells, usual_fact, usual_bit, usual_cell, registers_usual, cells_usual}
use Rattle.uz_cert_laws.proofs.ItemForms.{with_pair, with_flag, PairForm, FlagForm, HasForm, register, pair, flag, slot, cell, listed}
use Rattle.uz_cert_laws.proofs.ItemForms.{successor, PlacesFit, cell_form, flag_letter, item_taken}
use Rattle.uz_cert_laws.proofs.GrowingFacts.{Regular, all_items, values, are_sections, one_more}
use Rattle.uz_cert_laws.proofs.{Sections.all_empty, Sections.Each, Sections.each_length, Sections.each_map, Facts.FactIn, Facts.part_from}
use Rattle.uz_cert_laws.proofs.{Named.say_usuals, Named.fresh_usuals, Named.sets_between, Named.sets_other}
use Rattle.uz_cert_lines.specs.declared.why.CertWhy.TheVariants as why

-- the facts where nothing is said

pub record ShapeFits (shape : Shape) (cells : List Cell) : Type 0 where
  pub places : PlacesFit shape cells
  pub whole : shape.kind ≡ Handler → shape.plain ≡ false
  pub ranges : All (λ c. RangeFits 255 c.range) cells

own_each : (f : FactForms) (r n : ℕ) → f.old ≡ true → r + n ≤ 32 → Each (λ r x. FactIn f x) (numbers_from r n)
    (map (usual_fact Handler) (numbers_from r n))
own_each f r zero o h = tt
own_each f r (suc n) o h = ((o, omega arith), own_each f (suc r) n o (omega arith))

first_regs : (shape : Shape) (kind : Kind) → shape.kind ≡ kind → (kind ≡ Handler → shape.plain ≡ false)
    → Each (λ r x. FactIn (bytes_forms shape) x) registers (map (usual_fact kind) registers)
first_regs shape Main e w = each_map (λ r x. FactIn (bytes_forms shape) x) (usual_fact Main) registers (λ r. (refl, lit< tt))
first_regs shape Handler e w =
    own_each (bytes_forms shape) 0 32 (ap (λ (k : Kind). is_handler k && not shape.plain) e ∙ ap not (w refl)) (lit≤ tt)
first_regs shape Alone e w = each_map (λ r x. FactIn (bytes_forms shape) x) (usual_fact Alone) registers (λ r. (refl, lit< tt))

first_bit : (kind : Kind) → BitFits kind (default_flag kind)
first_bit Main = tt
first_bit Handler = refl
first_bit Alone = tt

form_in : (plain : Bool) (range : Ends) → RangeFits 255 range → (whole : Bool) → (eqb range.lo 0 && eqb range.hi 255) ≡ whole
    → FactIn (cond {A = FactForms} plain (record { low = range.lo; limit = range.hi + 1; top = 255; sloped = false; old = false })
    (record { low = 0; limit = 256; top = 255; sloped = true; old = false })) (cond whole Any (Between range))
form_in true range h true e = grind (arith, nat_tests)
form_in true range h false e = (part_from range h e, omega arith, omega arith)
form_in false range h true e = (refl, lit< tt)
form_in false range h false e = (part_from range h e, omega arith, omega (arith, h.high))

first_cells : (shape : Shape) (kind : Kind) (i : ℕ) (cs : List Cell) → All (λ c. RangeFits 255 c.range) cs
    → Each (λ p x. FactIn (cell_form shape p.1) x) (numbered_cells kind i cs) (map usual_cell (numbered_cells kind i cs))
first_cells shape kind i [] h = tt
first_cells shape kind i (c ∷ cs) h = by_own (tracks kind c.owner)
    (first_cells shape kind (suc i) cs (All-tail (λ c. RangeFits 255 c.range) c cs h))
  where
    by_own : (t : Bool) → Each (λ p x. FactIn (cell_form shape p.1) x) (numbered_cells kind (suc i) cs)
        (map usual_cell (numbered_cells kind (suc i) cs))
        → Each (λ p x. FactIn (cell_form shape p.1) x) (cond t ((i, c) ∷ numbered_cells kind (suc i) cs) (numbered_cells kind (suc i) cs))
        (map usual_cell (cond t ((i, c) ∷ numbered_cells kind (suc i) cs) (numbered_cells kind (suc i) cs)))
    by_own true later = (
      form_in shape.plain c.range (All-head (λ c. RangeFits 255 c.range) c cs h) (eqb c.range.lo 0 && eqb c.range.hi 255)
          refl,
      later,
    )
    by_own false later = later

pub first_regular : (shape : Shape) (cells : List Cell) → ShapeFits shape cells → Regular shape cells (first_facts shape.kind cells)
unfolding first_facts
first_regular shape cells h =
    let rs = registers_usual shape.kind in
    let cs = cells_usual shape.kind 0 cells in
    record {
      few = lit≤ tt;
      fit = both_of
          (both_of (subst (λ (x : List Fact). Each (λ r x. FactIn (bytes_forms shape) x) registers x) (sym rs)
          (first_regs shape shape.kind refl h.whole)) rs)
          (both_of (both_of (tt, (tt, (tt, tt))) refl)
          (both_of (both_of (each_map (λ l x. BitFits shape.kind x) (usual_bit shape.kind) letters_of_flags
          (λ l. first_bit shape.kind)) refl)
          (both_of (omega arith, All-nil (FactIn (bytes_forms shape)), λ l. refl)
          (both_of (both_of (subst (λ (x : List Fact). Each (λ p x. FactIn (cell_form shape p.1) x) (numbered_cells shape.kind 0 cells) x)
          (sym cs) (first_cells shape shape.kind 0 cells h.ranges)) (ap (λ (x : List Fact). drop (tracked_count shape.kind (take 0 cells)) x) cs))
          (both_of (both_of (say_usuals named_items shape refl) (fresh_usuals named_items named_place 0))
          (lit≤ tt, All-nil (λ id. id < shape.points), refl, refl, λ l. refl))))));
      plain_pairs = λ p. refl;
      plain_next = λ p. refl;
    }

pub first_nothing : (shape : Shape) (cells : List Cell) → ShapeFits shape cells → spelled shape.kind cells (first_facts shape.kind cells)
    ≡ []
unfolding first_facts
first_nothing shape cells h =
    all_empty (all_items shape cells) (are_sections shape cells) 0 0 (values shape cells (first_facts shape.kind cells))
    refl (lit≤ tt) (first_regular shape cells h).fit

-- Z as a pair

-- one of the flags C and Z is said
abbrev pub IsMeant : Kind → List Bit → Type 0
IsMeant kind flags = is_carry_and_zero_default kind flags ≡ false

-- a pair Z of exactly 0 or 1 goes with a flag C or Z, or with a word for one that comes
abbrev pub ZFollows : Kind → Facts → List (List ℕ) → Type 0
ZFollows kind f list = is_zero_or_one (get_or f.pairs 2 AnyPair) ≡ true → IsMeant kind f.flags ⊎ ((any_names list ≡ true) × (35 ≤ f.least))

zero_or_one_word : (f : PairFact) → is_zero_or_one f ≡ true → (pair_word f ≡ codes "0") ⊎ (pair_word f ≡ codes "1")
zero_or_one_word AnyPair e = absurd cc
zero_or_one_word (LinePair a b) e = absurd cc
zero_or_one_word (LoopPair a b) e = absurd cc
zero_or_one_word (BetweenPair x) e =
    let two = and_true (eqb x.lo x.hi) (ltb x.hi 2) e in
    by_value x.lo x.hi (number_is x.lo x.hi two.0) (lt_is x.hi 2 two.1)
  where
    by_value : (lo hi : ℕ) → lo ≡ hi → hi < 2
        → (cond (eqb lo 0 && eqb hi 65535) (codes "*") (cond (eqb lo hi) (decimal lo) (decimal lo ++ codes ".." ++ decimal hi)) ≡ codes "0")
        ⊎ (cond (eqb lo 0 && eqb hi 65535) (codes "*") (cond (eqb lo hi) (decimal lo) (decimal lo ++ codes ".." ++ decimal hi)) ≡ codes "1")
    by_value zero zero s l = inl (decimal_digit 0 (lit< tt))
    by_value zero (suc hi) s l = absurd (omega arith)
    by_value (suc lo) zero s l = absurd (omega arith)
    by_value (suc zero) (suc zero) s l = inr (decimal_digit 1 (lit< tt))
    by_value (suc zero) (suc (suc hi)) s l = absurd (omega arith)
    by_value (suc (suc lo)) (suc hi) s l = absurd (omega arith)

-- where Z is read as a pair that is exactly 0 or 1, a word for C or Z comes
z_pair_names : (shape : Shape) (f : Facts) (x : PairFact) (later : List (List ℕ)) → is_zero_or_one x ≡ true
    → is_flag_z shape f (pair_word x) later ≡ false → any_names later ≡ true
z_pair_names shape f x later z e =
    elim (zero_or_one_word x z) [ inl w ↦ grind (arith, nat_tests) | inr w ↦ grind (arith, nat_tests) ]

-- what an item tells of the flags C and Z

one_meant : (a b : Bool) → (a ≡ false) ⊎ (b ≡ false) → (a && b) ≡ false
one_meant true b d = elim d [ inl e ↦ absurd (true_not true refl e) | inr e ↦ e ]
one_meant false b d = refl

names_letter : (c : ℕ) (value : List ℕ) → (eqb c 99 || eqb c 122) ≡ false → names_c_or_z (c ∷ value) ≡ false
names_letter c [] e = refl
names_letter c (d ∷ cs) e = ap (λ b. b && eqb d 61) e

-- the word is neither's, and they stay as they are; or it sets one of them; or it is the pair Z's, before them
abbrev pub TellsFlags : Kind → Facts → List ℕ → Facts → Type 0
TellsFlags kind f w more =
    ((names_c_or_z w ≡ false) × (is_carry_and_zero_default kind more.flags ≡ is_carry_and_zero_default kind f.flags))
    ⊎ ((names_c_or_z w ≡ true) × (f.least ≤ 36)
    × ((2 ≤ length f.flags → IsMeant kind more.flags)
    ⊎ ((f.least ≤ 34) × (is_carry_and_zero_default kind more.flags ≡ is_carry_and_zero_default kind f.flags))))

module _ (shape : Shape) (f : Facts) (w : List ℕ) (later : List (List ℕ)) where
  flag_tells : (b : ℕ) (x : Bit) → FlagForm shape f w later b x → TellsFlags shape.kind f w (with_flag f b x)
  flag_tells zero x t = inr (ap names_c_or_z t.word, omega (arith, t.order), inl (λ two. first f.flags two))
    where
      first : (flags : List Bit) → 2 ≤ length flags → IsMeant shape.kind (slice_set flags 0 x)
      first [] two = absurd (omega (arith, two))
      first (c ∷ rest) two = one_meant (is_default_flag shape.kind x) _ (inl t.other)
  flag_tells (suc zero) x t = inr (ap names_c_or_z t.word, omega (arith, t.order), inl (λ two. second f.flags two))
    where
      second : (flags : List Bit) → 2 ≤ length flags → IsMeant shape.kind (slice_set flags 1 x)
      second [] two = absurd (omega (arith, two))
      second (c ∷ []) two = absurd (omega (arith, two))
      second (c ∷ z ∷ rest) two = one_meant (is_default_flag shape.kind c) (is_default_flag shape.kind x) (inr t.other)
  flag_tells (suc (suc b)) x t = inl (other b t.word t.there, same f.flags)
    where
      same : (flags : List Bit)
          → is_carry_and_zero_default shape.kind (slice_set flags (suc (suc b)) x) ≡ is_carry_and_zero_default shape.kind flags
      same [] = refl
      same (c ∷ []) = refl
      same (c ∷ z ∷ rest) = refl

      other : (b : ℕ) → w ≡ flag_letter (suc (suc b)) ∷ 61 ∷ flag_word x → suc (suc b) < 7 → names_c_or_z w ≡ false
      other zero e l = ap names_c_or_z e
      other (suc zero) e l = ap names_c_or_z e
      other (suc (suc zero)) e l = ap names_c_or_z e
      other (suc (suc (suc zero))) e l = ap names_c_or_z e
      other (suc (suc (suc (suc zero)))) e l = ap names_c_or_z e
      other (suc (suc (suc (suc (suc b))))) e l = absurd (omega (arith, l))

  pair_tells : (k : ℕ) (x : PairFact) → PairForm shape f w later k x → TellsFlags shape.kind f w (with_pair f k x)
  pair_tells zero x t = inl (ap names_c_or_z t.word, refl)
  pair_tells (suc zero) x t = inl (ap names_c_or_z t.word, refl)
  pair_tells (suc (suc zero)) x t = inr (ap names_c_or_z t.word, omega (arith, t.order), inr (omega (arith, t.order), refl))
  pair_tells (suc (suc (suc k))) x t = absurd (omega (arith, t.there))

pub tells_flags : (shape : Shape) (cells : List Cell) (f : Facts) (w : List ℕ) (later : List (List ℕ)) (more : Facts)
    → HasForm shape cells f w later more → TellsFlags shape.kind f w more
tells_flags shape cells f w later more (register r x t e) =
    inl (ap names_c_or_z t.word ∙ names_letter 114 (decimal r ++ 61 ∷ fact_word x) refl, ap (λ (m : Facts). is_carry_and_zero_default shape.kind m.flags) e)
tells_flags shape cells f w later more (pair k x t e) = subst (TellsFlags shape.kind f w) (sym e) (pair_tells shape f w later k x t)
tells_flags shape cells f w later more (flag b x t e) = subst (TellsFlags shape.kind f w) (sym e) (flag_tells shape f w later b x t)
tells_flags shape cells f w later more (slot x t e) =
    inl (ap names_c_or_z t.word ∙ names_letter 115 (58 ∷ fact_word x) refl, ap (λ (m : Facts). is_carry_and_zero_default shape.kind m.flags) e)
tells_flags shape cells f w later more (cell i c x t e) =
    inl (ap names_c_or_z t.word ∙ names_letter 109 (decimal i ++ 61 ∷ fact_word x) refl, ap (λ (m : Facts). is_carry_and_zero_default shape.kind m.flags) e)
tells_flags shape cells f w later more (listed v next t e) = inl (
  sets_other named_items named_place shape f.least (named_of f) w v next refl t,
  ap (λ (m : Facts). is_carry_and_zero_default shape.kind m.flags) e,
)
tells_flags shape cells f w later more (successor id t e) =
    inl (ap names_c_or_z t.word ∙ names_letter 62 (decimal id) refl, ap (λ (m : Facts). is_carry_and_zero_default shape.kind m.flags) e)

-- the pair Z, where it isn't set
pair_other : (pairs : List PairFact) (k : ℕ) (x : PairFact) → k < 2 → get_or (slice_set pairs k x) 2 AnyPair ≡ get_or pairs 2 AnyPair
pair_other [] k x h = refl
pair_other (a ∷ rest) zero x h = refl
pair_other (a ∷ []) (suc zero) x h = refl
pair_other (a ∷ b ∷ bs) (suc zero) x h = refl
pair_other (a ∷ rest) (suc (suc k)) x h = absurd (omega (arith, h))

pair_third : (pairs : List PairFact) (x : PairFact) → 3 ≤ length pairs → get_or (slice_set pairs 2 x) 2 AnyPair ≡ x
pair_third [] x h = absurd (omega (arith, h))
pair_third (a ∷ []) x h = absurd (omega (arith, h))
pair_third (a ∷ b ∷ []) x h = absurd (omega (arith, h))
pair_third (a ∷ b ∷ c ∷ rest) x h = refl

module _ (shape : Shape) (cells : List Cell) (f : Facts) (h : Regular shape cells f) (w : List ℕ) (ws : List (List ℕ)) where
  -- an item that leaves the pair Z as it is
  follows : (more : Facts) → HasForm shape cells f w ws more → get_or more.pairs 2 AnyPair ≡ get_or f.pairs 2 AnyPair → f.least ≤ more.least
      → ZFollows shape.kind f (w ∷ ws) → ZFollows shape.kind more ws
  follows more t same rise z one = by_flags (tells_flags shape cells f w ws more t) (z (sym (ap is_zero_or_one same) ∙ one))
    where
      two : 2 ≤ length f.flags
      two = omega (arith, each_length (λ l x. BitFits shape.kind x) letters_of_flags f.flags h.fit.1.1.0.0)

      by_flags : TellsFlags shape.kind f w more → IsMeant shape.kind f.flags ⊎ ((any_names (w ∷ ws) ≡ true) × (35 ≤ f.least))
          → IsMeant shape.kind more.flags ⊎ ((any_names ws ≡ true) × (35 ≤ more.least))
      by_flags t m = grind (arith, nat_tests, two, rise)

  abbrev pair_z : Facts → PairFact
  pair_z m = get_or m.pairs 2 AnyPair

  z_follows : (more : Facts) → HasForm shape cells f w ws more → ZFollows shape.kind f (w ∷ ws) → ZFollows shape.kind more ws
  z_follows more (pair k x t e) z = by_place k t e (t.there)
    where
      three : 3 ≤ length f.pairs
      three = omega (arith, each_length (λ l x. PairFits x) letters_of_pairs f.pairs h.fit.1.0.0)

      other : (k : ℕ) → k < 2 → PairForm shape f w ws k x → more ≡ with_pair f k x → ZFollows shape.kind more ws
      other k l t e =
          follows more (pair k x t e) (ap pair_z e ∙ pair_other f.pairs k x l) (omega (arith, t.order, ap (λ (m : Facts). m.least) e)) z

      by_place : (k : ℕ) → PairForm shape f w ws k x → more ≡ with_pair f k x → k < 3 → ZFollows shape.kind more ws
      by_place zero t e l = other 0 (lit< tt) t e
      by_place (suc zero) t e l = other 1 (lit< tt) t e
      by_place (suc (suc zero)) t e l = λ one. inr (
        z_pair_names shape f x ws (sym (ap is_zero_or_one (ap pair_z e ∙ pair_third f.pairs x three)) ∙ one) (t.meant refl),
        omega (arith, ap (λ (m : Facts). m.least) e),
      )
      by_place (suc (suc (suc k))) t e l = absurd (omega (arith, l))
  z_follows more (register r x t e) z =
      follows more (register r x t e) (ap pair_z e) (omega (arith, t.order, ap (λ (m : Facts). m.least) e)) z
  z_follows more (flag b x t e) z = follows more (flag b x t e) (ap pair_z e) (omega (arith, t.order, ap (λ (m : Facts). m.least) e)) z
  z_follows more (slot x t e) z = follows more (slot x t e) (ap pair_z e) (omega (arith, t.order, ap (λ (m : Facts). m.least) e)) z
  z_follows more (cell i c x t e) z = follows more (cell i c x t e) (ap pair_z e) (omega (arith, t.order, ap (λ (m : Facts). m.least) e)) z
  z_follows more (listed v next t e) z =
      let between = sets_between named_items named_place shape f.least (named_of f) w v next t in
      follows more (listed v next t e) (ap pair_z e) (omega (arith, between.0, ap (λ (m : Facts). m.least) e)) z
  z_follows more (successor id t e) z = follows more (successor id t e) (ap pair_z e) (omega (arith, h.few, ap (λ (m : Facts). m.least) e)) z

-- all items

pub record ItemsSpelled (shape : Shape) (cells : List Cell) (ended : Bool) (list : List (List ℕ)) (said : Facts) : Type 0 where
  pub end : ended ≡ true
  pub words : list ≡ spelled shape.kind cells said
  pub regular : Regular shape cells said
  pub meant : is_zero_or_one (get_or said.pairs 2 AnyPair) ≡ true → IsMeant shape.kind said.flags

record Rest (shape : Shape) (cells : List Cell) (ended : Bool) (f : Facts) (list : List (List ℕ)) (said : Facts) : Type 0 where
  end : ended ≡ true
  words : spelled shape.kind cells said ≡ spelled shape.kind cells f ++ list
  regular : Regular shape cells said
  meant : is_zero_or_one (get_or said.pairs 2 AnyPair) ≡ true → IsMeant shape.kind said.flags

all_read : (shape : Shape) (cells : List Cell) (ended : Bool) (f : Facts) (list : List (List ℕ)) (said : Facts) → PlacesFit shape cells
    → Regular shape cells f → ZFollows shape.kind f list → items_from shape cells ended f list ≡ Ok said → Rest shape cells ended f list
    said
all_read shape cells true f [] said p h z e =
    subst (λ (a : Facts). Rest shape cells true f [] a) (fine_is f said e)
    (record {
      end = refl;
      words = sym (append-nil (spelled shape.kind cells f));
      regular = h;
      meant = λ one. elim (z one) [ inl m ↦ m | inr m ↦ absurd (true_not false m.0 refl) ];
    })
all_read shape cells false f [] said p h z e = absurd (fault_not why.NoEnd said e)
all_read shape cells ended f (w ∷ ws) said p h z e =
    let m = bind_ok (take_item shape cells f w ws) (λ more. items_from shape cells ended more ws) said e in
    let taken = item_taken shape cells f w ws m.0 p m.1 in
    let one = one_more shape cells f h w ws m.0 p.few taken in
    let rest = all_read shape cells ended m.0 ws said p one.0 (z_follows shape cells f h w ws m.0 taken z) m.2 in
    record {
      end = rest.end;
      words = rest.words ∙ ap (λ ws'. ws' ++ ws) one.1 ∙ append_assoc (spelled shape.kind cells f) (w ∷ []) ws;
      regular = rest.regular;
      meant = rest.meant;
    }

pub items_only : (shape : Shape) (cells : List Cell) (words : Words) (said : Facts) → ShapeFits shape cells
    → read_items shape cells words ≡ Ok said → ItemsSpelled shape cells words.ended words.list said
unfolding read_items first_facts
items_only shape cells words said h e =
    let start = first_facts shape.kind cells in
    let rest = all_read shape cells words.ended start words.list said h.places (first_regular shape cells h)
    (λ one. absurd (true_not false one refl)) e in
    record {
      end = rest.end;
      words = sym (rest.words ∙ ap (λ ws. ws ++ words.list) (first_nothing shape cells h));
      regular = rest.regular;
      meant = rest.meant;
    }
