-- Facts as they grow while items are read: what is spelled of them is what was read.
use Rattle.uz_cert_laws.proofs.Common.{nat_tests, ◌≡◌, ℕ, suc, ◌+◌, ◌-◌, ◌<◌, ◌≤◌, true, List, [], ◌∷◌, ◌++◌, map, length, decimal}
use Rattle.uz_cert_laws.proofs.Common.{codes, lit≤, refl, sym, ◌∙◌, ap, subst, add-one, length-append, arith, slice_set, rises_from}
use Rattle.uz_cert_laws.proofs.Common.{rises, Cell, Fact, PairFits, BitFits, PairFact, Bit, is_default, bytes_forms, tracked_before}
use Rattle.uz_cert_laws.proofs.Common.{Shape, Facts, register_item, pair_item, flag_item, fact_word, register_items, pair_items}
use Rattle.uz_cert_laws.proofs.Common.{flag_items, slot_items, cell_items, successor_items, named_items, named_place, successors_place}
use Rattle.uz_cert_laws.proofs.Common.{NamedValues, named_of, with_named, All, letters_of_pairs, letters_of_flags, spelled}
use Rattle.uz_cert_laws.proofs.Spelled.{registers, numbered_cells, any_pair, usual_flag, in_range, cell_word, usual_fact, usual_pair}
use Rattle.uz_cert_laws.proofs.Spelled.{usual_bit, usual_cell, registers_are, cells_are, register_default, flag_default, range_default}
use Rattle.uz_cert_laws.proofs.Spelled.{register_at, cell_number, cells_before_next, cells_before_rise}
use Rattle.uz_cert_laws.proofs.ItemForms.{with_register, with_pair, with_flag, with_slot, with_cell, with_successor, RegisterForm}
use Rattle.uz_cert_laws.proofs.ItemForms.{PairForm, listed, FlagForm, SlotForm, CellForm, SuccessorForm, HasForm, register, pair, flag}
use Rattle.uz_cert_laws.proofs.ItemForms.{slot, cell, successor, cell_form, pair_letter, flag_letter}
use Rattle.uz_cert_laws.proofs.Sections.{Section, IsSection, Sections, last, section, Values, FitAll, AreSections, TypeAt, section_at}
use Rattle.uz_cert_laws.proofs.Sections.{value_at, with_value, after_from, Grown, grown, option_section, options_are, option_more}
use Rattle.uz_cert_laws.proofs.Sections.{OptionList, AreOptions}
use Rattle.uz_cert_laws.proofs.Named.{listed_section, listed_is, SetsOne, sets_between, sets_more}
use Rattle.std.specs.Prelude.{IsTrue}
use Rattle.uz_cert_laws.specs.LineWords.{least_after}
use Rattle.uz_cert_laws.proofs.{Facts.FactIn, Tests.both_of, Tests.true_not}
use Rattle.std.proofs.{lemmas.List.map-append, lemmas.List.Elements.All-push, lemmas.Option.slice_get-get_or}

-- numbers that rise

pub rises_more : (least : ℕ) (xs : List ℕ) (id : ℕ) → rises_from least xs ≡ true → least_after least xs ≤ id → rises_from least
    (xs ++ id ∷ []) ≡ true
rises_more least [] id e h = grind (arith, nat_tests)
rises_more least (x ∷ xs) id e h = grind (arith, nat_tests, rises_more (x + 1) xs id)

pub after_more : (least : ℕ) (xs : List ℕ) (id : ℕ) → id + 1 ≡ least_after least (xs ++ id ∷ [])
after_more least [] id = refl
after_more least (x ∷ xs) id = after_more (x + 1) xs id

-- the sections of a line's items

module _ (shape : Shape) (cells : List Cell) where
  abbrev pub registers_list : OptionList ℕ Fact
  registers_list = record {
    keys = registers;
    is_usual = is_default shape.kind;
    usual = usual_fact shape.kind;
    word = register_item;
    Within = λ r x. FactIn (bytes_forms shape) x;
    spelled = register_items shape.kind 0;
    before = λ m. m;
    start = 0;
  }

  abbrev pub pairs_list : OptionList ℕ PairFact
  pairs_list = record {
    keys = letters_of_pairs;
    is_usual = any_pair;
    usual = usual_pair;
    word = pair_item;
    Within = λ l x. PairFits x;
    spelled = pair_items letters_of_pairs;
    before = λ m. m - 32;
    start = 32;
  }

  abbrev pub flags_list : OptionList ℕ Bit
  flags_list = record {
    keys = letters_of_flags;
    is_usual = usual_flag shape.kind;
    usual = usual_bit shape.kind;
    word = flag_item;
    Within = λ l x. BitFits shape.kind x;
    spelled = flag_items shape.kind letters_of_flags;
    before = λ m. m - 35;
    start = 35;
  }

  abbrev pub slots_section : Section (List Fact)
  slots_section = record {
    words = slot_items;
    Fits = λ m xs. (length xs ≤ shape.depth) × All (FactIn (bytes_forms shape)) xs × (m < 42 → xs ≡ []);
    from = 41;
  }

  abbrev pub cells_list : OptionList (ℕ × Cell) Fact
  cells_list = record {
    keys = numbered_cells shape.kind 0 cells;
    is_usual = in_range;
    usual = usual_cell;
    word = cell_word;
    Within = λ p x. FactIn (cell_form shape p.1) x;
    spelled = cell_items shape.kind 0 cells;
    before = λ m. tracked_before shape.kind (m - 43) cells;
    start = 43;
  }

  -- the successors, and the least number that may follow them
  abbrev pub next_section : Section (List ℕ × ℕ)
  next_section = record {
    words = λ p. successor_items p.0;
    Fits = λ m p. (length p.0 ≤ 16) × All (λ id. id < shape.points) p.0 × IsTrue (rises p.0) × (p.1 ≡ least_after 0 p.0)
        × (m < successors_place → p.0 ≡ []);
    from = successors_place - 1;
  }

  abbrev pub all_items : Sections
  all_items =
      section (option_section registers_list) (section (option_section pairs_list) (section (option_section flags_list)
      (section slots_section (section (option_section cells_list) (section (listed_section shape) (last next_section))))))

  abbrev pub values : Facts → Values all_items
  values f = (f.regs, (f.pairs, (f.flags, (f.stack.items, (f.cells.items, (named_of f, (f.next.items, f.after)))))))

  pub registers_options : AreOptions registers_list
  registers_options = record {
    usual_is = register_default shape.kind;
    words_are = registers_are shape.kind 0 32;
    rise = λ m n l. l;
    none = λ m l. omega (arith, l);
  }

  pub pairs_options : AreOptions pairs_list
  pairs_options = record {
    usual_is = λ l. refl;
    words_are = λ xs e. refl;
    rise = λ m n l. omega (arith, l);
    none = λ m l. omega (arith, l);
  }

  pub flags_options : AreOptions flags_list
  flags_options = record {
    usual_is = λ l. flag_default shape.kind;
    words_are = λ xs e. refl;
    rise = λ m n l. omega (arith, l);
    none = λ m l. omega (arith, l);
  }

  none_before : (n : ℕ) → n ≡ 0 → tracked_before shape.kind n cells ≡ 0
  none_before n e = ap (λ k. tracked_before shape.kind k cells) e

  pub cells_options : AreOptions cells_list
  cells_options = record {
    usual_is = λ p. range_default p.1.range;
    words_are = λ xs e. cells_are shape.kind 0 cells xs;
    rise = λ m n l. cells_before_rise shape.kind cells (m - 43) (n - 43) (omega (arith, l));
    none = λ m l. none_before (m - 43) (omega (arith, l));
  }

  slots_are : IsSection slots_section
  slots_are = record {
    later = λ m n xs l f. (f.0, f.1, λ h. f.2 (omega (arith, l, h)));
    empty = λ m xs l f. ap slot_items (f.2 (omega (arith, l)));
  }

  next_is : IsSection next_section
  next_is = record {
    later = λ m n p l f. (f.0, f.1, f.2, f.3, λ h. f.4 (omega (arith, l, h)));
    empty = λ m p l f. ap successor_items (f.4 (omega (arith, l)));
  }

  pub are_sections : AreSections all_items
  are_sections =
      both_of (options_are registers_list registers_options) (both_of (options_are pairs_list pairs_options)
      (both_of (options_are flags_list flags_options)
      (both_of slots_are (both_of (options_are cells_list cells_options) (both_of (listed_is shape) next_is)))))

-- the facts so far: what is due from the next place on is still as where nothing is said
pub record Regular (shape : Shape) (cells : List Cell) (f : Facts) : Type 0 where
  pub few : f.least ≤ successors_place
  pub fit : FitAll (all_items shape cells) f.least (values shape cells f)
  pub plain_pairs : shape.plain ≡ true → f.pairs ≡ map usual_pair letters_of_pairs
  pub plain_next : shape.plain ≡ true → f.next.items ≡ []

module _ (shape : Shape) (cells : List Cell) (f : Facts) (h : Regular shape cells f) where
  abbrev fit : FitAll (all_items shape cells) f.least (values shape cells f)
  fit = h.fit

  -- this much more
  abbrev MoreAll : Facts → List ℕ → Type 0
  MoreAll more w = Grown (all_items shape cells) more.least (values shape cells f) (values shape cells more) w

  -- in the section at a place, where the sections after it begin at another
  more_at : (k n p : ℕ) (y : TypeAt (all_items shape cells) k) (w : List ℕ) → after_from (all_items shape cells) k p ≡ true → f.least ≤ p
      → f.least ≤ n → (section_at (all_items shape cells) k).Fits n y
      → (section_at (all_items shape cells) k).words y
      ≡ (section_at (all_items shape cells) k).words (value_at (all_items shape cells) k (values shape cells f)) ++ w ∷ []
      → Grown (all_items shape cells) n (values shape cells f) (with_value (all_items shape cells) k (values shape cells f) y) w
  more_at k n p y w o l j g e =
      grown (all_items shape cells) (are_sections shape cells) k f.least n p (values shape cells f) y w o l j fit g e

  -- each item

  spoken : (old : List (List ℕ)) {v w : List ℕ} {new : List (List ℕ)} → new ≡ old ++ v ∷ [] → w ≡ v → new ≡ old ++ w ∷ []
  spoken old {v} {w} {new} e s = e ∙ ap (λ x. old ++ x ∷ []) (sym s)

  register_grown : (r : ℕ) (x : Fact) (w : List ℕ) → RegisterForm shape f w r x → MoreAll (with_register f r x) w
  register_grown r x w t =
      let there : r < 32 = t.there in
      let order : f.least ≤ r = t.order in
      let g = option_more (registers_list shape cells) (registers_options shape cells) f.least (r + 1) r r x f.regs fit.0 (register_at r there)
      order (add-one r) t.fits t.other in
      more_at 0 (r + 1) 32 (slice_set f.regs r x) w refl (omega arith) (omega arith) g.0
      (spoken (register_items shape.kind 0 f.regs) g.1 t.word)

  pair_grown : (k : ℕ) (x : PairFact) (w : List ℕ) (later : List (List ℕ)) → PairForm shape f w later k x → MoreAll (with_pair f k x) w
  pair_grown k x w later t =
      let there : k < 3 = t.there in
      let order : f.least ≤ 32 + k = t.order in
      let g = option_more (pairs_list shape cells) (pairs_options shape cells) f.least (33 + k) k (pair_letter k) x f.pairs fit.1.0
      (slice_get-get_or letters_of_pairs k 0 there) (omega arith) (omega arith) t.fits t.other in
      more_at 1 (33 + k) 35 (slice_set f.pairs k x) w refl (omega arith) (omega arith) g.0
      (spoken (pair_items letters_of_pairs f.pairs) g.1 t.word)

  flag_grown : (b : ℕ) (x : Bit) (w : List ℕ) (later : List (List ℕ)) → FlagForm shape f w later b x → MoreAll (with_flag f b x) w
  flag_grown b x w later t =
      let there : b < 7 = t.there in
      let order : f.least ≤ 35 + b = t.order in
      let g = option_more (flags_list shape cells) (flags_options shape cells) f.least (36 + b) b (flag_letter b) x f.flags fit.1.1.0
      (slice_get-get_or letters_of_flags b 0 there) (omega arith) (omega arith) t.fits t.other in
      more_at 2 (36 + b) 41 (slice_set f.flags b x) w refl (omega arith) (omega arith) g.0
      (spoken (flag_items shape.kind letters_of_flags f.flags) g.1 t.word)

  slot_grown : (x : Fact) (w : List ℕ) → SlotForm shape f w x → MoreAll (with_slot f x) w
  slot_grown x w t =
      let order : f.least ≤ 42 = t.order in
      let room : length f.stack.items < shape.depth = t.room in
      more_at 3 42 43 (f.stack.items ++ x ∷ []) w refl (omega arith) order (
        omega (arith, length-append f.stack.items (x ∷ [])),
        All-push (FactIn (bytes_forms shape)) f.stack.items x fit.1.1.1.0.1 t.fits,
        λ l. absurd (omega arith),
      )
      (spoken (slot_items f.stack.items) (map-append (λ y. codes "s:" ++ fact_word y) f.stack.items (x ∷ [])) t.word)

  cell_grown : (i : ℕ) (c : Cell) (x : Fact) (w : List ℕ) → length cells ≤ 16 → CellForm shape cells f w i c x
      → MoreAll (with_cell shape cells f i x) w
  cell_grown i c x w sixteen t =
      let below : i < length cells = t.below in
      let order : f.least ≤ 43 + i = t.order in
      let place = tracked_before shape.kind i cells in
      let next : tracked_before shape.kind (44 + i - 43) cells ≡ suc place =
      ap (λ n. tracked_before shape.kind n cells) (plus i) ∙ cells_before_next shape.kind cells i c t.there t.own in
      let g = option_more (cells_list shape cells) (cells_options shape cells) f.least (44 + i) place (0 + i, c) x f.cells.items
      fit.1.1.1.1.0 (cell_number shape.kind cells i 0 c t.there t.own)
      (cells_before_rise shape.kind cells (f.least - 43) i (omega arith)) next t.fits t.other in
      more_at 4 (44 + i) 59 (slice_set f.cells.items place x) w refl (omega arith) (omega arith) g.0
      (spoken (cell_items shape.kind 0 cells f.cells.items) g.1 (t.word ∙ ap (λ n. cell_word (n, c) x) (sym (none_more i))))
    where
      plus : (i : ℕ) → 44 + i - 43 ≡ suc i
      plus i = omega arith

      none_more : (i : ℕ) → 0 + i ≡ i
      none_more i = omega arith

  listed_grown : (v : NamedValues named_items) (next : ℕ) (w : List ℕ) → SetsOne named_items named_place shape f.least (named_of f) w v next
      → MoreAll (with_named f v next) w
  listed_grown v next w t =
      let between = sets_between named_items named_place shape f.least (named_of f) w v next t in
      let more = sets_more named_items named_place shape f.least (named_of f) w v next t fit.1.1.1.1.1.0.0 fit.1.1.1.1.1.0.1 in
      let below : f.least < next = between.0 in
      let high : next ≤ successors_place = between.2 in
      more_at 5 next (successors_place - 1) v w refl (omega arith) (omega arith) more.0 more.1

  successor_grown : (id : ℕ) (w : List ℕ) → SuccessorForm shape f w id → MoreAll (with_successor f id) w
  successor_grown id w t =
      let room : length f.next.items < 16 = t.room in
      let s = fit.1.1.1.1.1.1 in
      more_at 6 successors_place successors_place (f.next.items ++ id ∷ [], id + 1) w refl h.few h.few (
        omega (arith, length-append f.next.items (id ∷ [])),
        All-push (λ n. n < shape.points) f.next.items id s.1 t.there,
        rises_more 0 f.next.items id s.2 (subst (λ n. n ≤ id) s.3 t.order),
        after_more 0 f.next.items id,
        λ l. absurd (omega arith),
      )
      (spoken (successor_items f.next.items) (map-append (λ n. 62 ∷ decimal n) f.next.items (id ∷ [])) t.word)

  -- whatever item is taken

  abbrev pub IsGrown : List ℕ → Facts → Type 0
  IsGrown w more = Regular shape cells more × (spelled shape.kind cells more ≡ spelled shape.kind cells f ++ w ∷ [])

  kept : (a more : Facts) (w : List ℕ) → more ≡ a → a.least ≤ successors_place → MoreAll a w → (shape.plain ≡ true → a.pairs ≡ map usual_pair letters_of_pairs)
      → (shape.plain ≡ true → a.next.items ≡ []) → IsGrown w more
  kept a more w e few g pairs next =
      subst (IsGrown w) (sym e) (record { few = few; fit = g.fit; plain_pairs = pairs; plain_next = next }, g.words)

  pub one_more : (w : List ℕ) (later : List (List ℕ)) (more : Facts) → length cells ≤ 16 → HasForm shape cells f w later more → IsGrown w more
  one_more w later more s (register r x t e) =
      let there : r < 32 = t.there in
      kept (with_register f r x) more w e (omega arith) (register_grown r x w t) h.plain_pairs h.plain_next
  one_more w later more s (pair k x t e) =
      let there : k < 3 = t.there in
      kept (with_pair f k x) more w e (omega arith) (pair_grown k x w later t) (λ p. absurd (true_not shape.plain p t.whole)) h.plain_next
  one_more w later more s (flag b x t e) =
      let there : b < 7 = t.there in
      kept (with_flag f b x) more w e (omega arith) (flag_grown b x w later t) h.plain_pairs h.plain_next
  one_more w later more s (slot x t e) =
      kept (with_slot f x) more w e (lit≤ tt) (slot_grown x w t) h.plain_pairs h.plain_next
  one_more w later more s (cell i c x t e) =
      let below : i < length cells = t.below in
      kept (with_cell shape cells f i x) more w e (omega (arith, s)) (cell_grown i c x w s t) h.plain_pairs h.plain_next
  one_more w later more s (listed v next t e) =
      let between = sets_between named_items named_place shape f.least (named_of f) w v next t in
      kept (with_named f v next) more w e between.2 (listed_grown v next w t) h.plain_pairs h.plain_next
  one_more w later more s (successor id t e) =
      kept (with_successor f id) more w e (lit≤ tt) (successor_grown id w t) h.plain_pairs (λ p. absurd (true_not shape.plain p t.whole))
