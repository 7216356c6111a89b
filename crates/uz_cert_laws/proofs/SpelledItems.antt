-- All items of a line: what is spelled of facts is read as these facts.
use Rattle.uz_cert_laws.proofs.Common.{nat_tests, ends, Main, Handler, Alone, CertWhy, Result, pair_of, line}
use Rattle.uz_cert_laws.proofs.Common.{is_carry_and_zero_default, PairFits, BitFits, ◌≡◌, ℕ, zero, suc, ◌+◌, ◌<◌, ◌≤◌, Bool, true, false}
use Rattle.uz_cert_laws.proofs.Common.{cond, not, ◌&&◌, ◌||◌, eqb, leb, ltb, List, [], ◌∷◌, ◌++◌, map, length, take, get_or, decimal}
use Rattle.uz_cert_laws.proofs.Common.{codes, bytes_eq, lit<, lit≤, refl, sym, ◌∙◌, ap, subst, append_assoc, append-nil, add-one}
use Rattle.uz_cert_laws.proofs.Common.{length-append, arith, Some, Ok, Err, slice_get, slice_set, All-head, All-tail, decimal_digit}
use Rattle.uz_cert_laws.proofs.Common.{rises_from, rises, tracks, is_zero_or_one, is_default_flag, Kind, Cell, Fact, PairFact, Bit, Zero}
use Rattle.uz_cert_laws.proofs.Common.{One, Free, raw_of, range, one_number, is_default, is_any_pair, first_facts, bytes_forms}
use Rattle.uz_cert_laws.proofs.Common.{pair_forms, tracked_count, any_names, tracked_before, is_flag_z, take_item}
use Rattle.uz_cert_laws.proofs.Common.{items_from, read_items, Raw, Shape, Facts, numbers_from, register_item, pair_item, flag_item}
use Rattle.uz_cert_laws.proofs.Common.{fact_word, pair_word, flag_word, named_items, named_place, successors_place, NamedValues, named_of}
use Rattle.uz_cert_laws.proofs.Common.{with_named, All, AnyPair, BetweenPair, OldBit, letters_of_pairs, letters_of_flags, spelled}
use Rattle.uz_cert_laws.proofs.Tests.{three_of, same_number, both_true, given, fine_is, and_true, fine, fault_not, true_not}
use Rattle.uz_cert_laws.proofs.Tests.{refuted, then, le_is, word_is, is_lt}
use Rattle.uz_cert_laws.proofs.ReadItems.{tells_flags, TellsFlags, items_only, ShapeFits, IsMeant}
use Rattle.uz_cert_laws.proofs.ItemForms.{form_takes, pair, listed, flag, successor, slot, register, cell, HasForm, cell_form}
use Rattle.uz_cert_laws.proofs.ItemForms.{pair_letter, flag_letter}
use Rattle.uz_cert_laws.proofs.Spelled.{pair_usual_only, registers, numbered_cells, in_range, cell_word, usual_fact, usual_pair}
use Rattle.uz_cert_laws.proofs.Spelled.{usual_bit, usual_cell, registers_usual, cells_usual, register_only, flag_usual_only}
use Rattle.uz_cert_laws.proofs.Spelled.{range_only_usual}
use Rattle.uz_cert_laws.proofs.GrowingFacts.{registers_list, pairs_list, flags_list, cells_list}
use Rattle.std.proofs.Math.Seq.{take-append_seam}
use Rattle.uz_cert_laws.proofs.{Named.sets_between, Named.Say, Named.usuals, Named.listed_read, Facts.FactIn}
use Rattle.uz_cert_laws.proofs.{Facts.pair_so, Facts.one_raw, Sections.Each, Sections.Ordered, Sections.options_read}
use Rattle.uz_cert_lines.specs.declared.values.Raw.TheVariants as raw
use Rattle.uz_cert_lines.specs.declared.why.CertWhy.TheVariants as why

-- a value in the middle of a list
set_middle : {A : Type 0} (front back : List A) (n : ℕ) (x y : A) → n ≡ length front → slice_set (front ++ x ∷ back) n y ≡ front ++ y ∷ back
set_middle [] back zero x y e = refl
set_middle [] back (suc n) x y e = absurd (omega arith)
set_middle (a ∷ front) back zero x y e = absurd (omega arith)
set_middle (a ∷ front) back (suc n) x y e = ap (λ ys. a ∷ ys) (set_middle front back n x y (omega (arith, e)))

-- one value of such a list, and the place from which items are due
set_facts : {A : Type 0} (put : ℕ → List A → Facts) (front back : List A) (n next least : ℕ) (x y : A) → n ≡ length front → least ≡ next
    → put next (front ++ y ∷ back) ≡ put least (slice_set (front ++ x ∷ back) n y)
set_facts put front back n next least x y e l =
    ap (λ k. put k (front ++ y ∷ back)) (sym l) ∙ ap (put least) (sym (set_middle front back n x y e))

get_middle : (pre later : List Cell) (x : Cell) → slice_get (pre ++ x ∷ later) (length pre) ≡ Some x
get_middle [] later x = refl
get_middle (p ∷ pre) later x = get_middle pre later x

count_push : (kind : Kind) (pre : List Cell) (x : Cell)
    → tracked_count kind (pre ++ x ∷ []) ≡ cond (tracks kind x.owner) (tracked_count kind pre + 1) (tracked_count kind pre)
count_push kind [] x = refl
count_push kind (p ∷ pre) x = grind (arith, count_push kind pre x)

-- the flag Z

flag_z_so : (shape : Shape) (f : Facts) (x : Bit) (later : List (List ℕ)) → any_names later ≡ false → is_flag_z shape f (flag_word x)
    later ≡ true
flag_z_so shape f Zero later e = grind (arith, nat_tests)
flag_z_so shape f One later e = grind (arith, nat_tests)
flag_z_so shape f Free later e = grind (arith, nat_tests)
flag_z_so shape f OldBit later e = grind (arith, nat_tests)

-- the pair Z

no_mark : raw_of pair_forms (codes "?") ≡ Err why.Word
unfolding raw_of range one_number
no_mark = refl

no_old : raw_of pair_forms (codes "o") ≡ Err why.Word
unfolding raw_of
no_old = refl

zero_raw : raw_of pair_forms (codes "0") ≡ Ok (raw.One 0)
zero_raw = ap (raw_of pair_forms) (sym (decimal_digit 0 (lit< tt))) ∙ one_raw pair_forms 0 (lit≤ tt) (lit≤ tt, lit< tt)

one_raw_word : raw_of pair_forms (codes "1") ≡ Ok (raw.One 1)
one_raw_word = ap (raw_of pair_forms) (sym (decimal_digit 1 (lit< tt))) ∙ one_raw pair_forms 1 (lit≤ tt) (lit≤ tt, lit< tt)

-- a pair's word names the flag Z only where the pair is exactly 0 or 1
not_flag_z : (shape : Shape) (f : Facts) (x : PairFact) (later : List (List ℕ)) → shape.plain ≡ false → f.least ≤ 34 → PairFits x
    → (is_zero_or_one x ≡ true → any_names later ≡ true) → is_flag_z shape f (pair_word x) later ≡ false
not_flag_z shape f x later p l i z =
    grind (
      arith,
      nat_tests,
      other (codes "?") no_mark,
      other (codes "o") no_old,
      digit (bytes_eq (pair_word x) (codes "0")) (bytes_eq (pair_word x) (codes "1")) refl refl,
    )
  where
    reads : (r : Raw) × (raw_of pair_forms (pair_word x) ≡ Ok r) × (pair_of r ≡ Ok x)
    reads = pair_so x i

    -- what a word is read as, where it is the pair's
    same : (w : List ℕ) (r : Result Raw CertWhy) → raw_of pair_forms w ≡ r → bytes_eq (pair_word x) w ≡ true → r ≡ Ok reads.0
    same w r g e = sym g ∙ ap (raw_of pair_forms) (sym (word_is (pair_word x) w e)) ∙ reads.1

    other : (w : List ℕ) → raw_of pair_forms w ≡ Err why.Word → bytes_eq (pair_word x) w ≡ false
    other w none = refuted (bytes_eq (pair_word x) w) (λ e. fault_not why.Word reads.0 (same w (Err why.Word) none e))

    named : (n : ℕ) (w : List ℕ) → n < 2 → raw_of pair_forms w ≡ Ok (raw.One n) → bytes_eq (pair_word x) w ≡ true
        → not (any_names later) ≡ false
    named n w l g e =
        let is = subst (λ (r : Raw). pair_of r ≡ Ok x) (sym (fine_is (raw.One n) reads.0 (same w (Ok (raw.One n)) g e))) reads.2 in
        ap not (z (given (λ y. is_zero_or_one y ≡ true) (BetweenPair (ends n n)) x is (both_true (eqb n n) (ltb n 2) (same_number n)
        (is_lt n 2 l))))

    digit : (t u : Bool) → bytes_eq (pair_word x) (codes "0") ≡ t → bytes_eq (pair_word x) (codes "1") ≡ u
        → ((t || u) && not (any_names later)) ≡ false
    digit true u e f = named 0 (codes "0") (lit< tt) zero_raw e
    digit false true e f = named 1 (codes "1") (lit< tt) one_raw_word f
    digit false false e f = refl

-- what may be said of a state
pub record FactsFit (shape : Shape) (cells : List Cell) (f : Facts) : Type 0 where
  pub regs_fit : Each (λ r x. FactIn (bytes_forms shape) x) registers f.regs
  pub pairs_fit : Each (λ l x. PairFits x) letters_of_pairs f.pairs
  pub flags_fit : Each (λ l x. BitFits shape.kind x) letters_of_flags f.flags
  pub slots_fit : length f.stack.items ≤ shape.depth
  pub stack_fit : All (FactIn (bytes_forms shape)) f.stack.items
  pub cells_fit : Each (λ p x. FactIn (cell_form shape p.1) x) (numbered_cells shape.kind 0 cells) f.cells.items
  pub listed_fit : Say named_items shape (named_of f)
  pub next_fit : (rises f.next.items ≡ true) × All (λ id. id < shape.points) f.next.items × (length f.next.items ≤ 16)
      × (shape.plain ≡ true → f.next.items ≡ [])
  pub plain_fit : shape.plain ≡ true → f.pairs ≡ AnyPair ∷ AnyPair ∷ AnyPair ∷ []
  pub meant : is_zero_or_one (get_or f.pairs 2 AnyPair) ≡ true → IsMeant shape.kind f.flags

-- Items from the last section to the first. Of the words it is enough that they are there: only what is spelled of facts is read as
-- them, so in the end they are that.
record Done (shape : Shape) (cells : List Cell) (g f : Facts) : Type 0 where
  words : List (List ℕ)
  least : ℕ
  after : ℕ
  -- these words say the rest, and with it all
  read : items_from shape cells true f words ≡ Ok (record g { least = least; after = after })
  -- none of them is for the flags C and Z where these are past, and none sets them unless one is
  past : 37 ≤ f.least → any_names words ≡ false
  set : any_names words ≡ false → is_carry_and_zero_default shape.kind f.flags ≡ is_carry_and_zero_default shape.kind g.flags

module _ (shape : Shape) (cells : List Cell) (h : ShapeFits shape cells) (g : Facts) (s : FactsFit shape cells g) where
  abbrev DoneFrom : Facts → Type 0
  DoneFrom f = Done shape cells g f

  -- one word more, in front
  done : (f more : Facts) (w : List ℕ) (d : DoneFrom more) → f.least ≤ more.least → HasForm shape cells f w d.words more → DoneFrom f
  done f more w d rise t = record {
    words = w ∷ d.words;
    least = d.least;
    after = d.after;
    read = then (take_item shape cells f w d.words) (λ m. items_from shape cells true m d.words) more
        (Ok (record g { least = d.least; after = d.after })) (form_takes shape cells f w d.words more h.places t) d.read;
    past = λ l. by_past l (tells_flags shape cells f w d.words more t);
    set = λ none. by_set none (tells_flags shape cells f w d.words more t);
  }
    where
      by_past : 37 ≤ f.least → TellsFlags shape.kind f w more → any_names (w ∷ d.words) ≡ false
      by_past l t = grind (arith, nat_tests, d.past)

      by_set : any_names (w ∷ d.words) ≡ false → TellsFlags shape.kind f w more
          → is_carry_and_zero_default shape.kind f.flags ≡ is_carry_and_zero_default shape.kind g.flags
      by_set none t = grind (arith, nat_tests, d.set)

  at_facts : (f k : Facts) → f ≡ k → DoneFrom k → DoneFrom f
  at_facts f k e d = subst (λ (x : Facts). DoneFrom x) (sym e) d

  -- successors

  abbrev next_facts : ℕ → ℕ → List ℕ → Facts
  next_facts least after ids = record g { least = least; after = after; next = record { items = ids } }

  next_stage : (front ids : List ℕ) (least after : ℕ) → least ≤ successors_place → front ++ ids ≡ g.next.items
      → rises_from after ids ≡ true → All (λ id. id < shape.points) ids → DoneFrom (next_facts least after front)
  next_stage front [] least after l e r t = record {
    words = [];
    least = least;
    after = after;
    read = ap (λ (x : List ℕ). fine (next_facts least after x)) (sym (append-nil front) ∙ e);
    past = λ _. refl;
    set = λ _. refl;
  }
  next_stage front (id ∷ ids) least after l e r t =
      let two = and_true (leb after id) (rises_from (id + 1) ids) r in
      let count : length front + length (id ∷ ids) ≡ length g.next.items = sym (length-append front (id ∷ ids)) ∙ ap length e in
      let few : length g.next.items ≤ 16 = s.next_fit.2 in
      let later = next_stage (front ++ id ∷ []) ids successors_place (id + 1) (lit≤ tt) (append_assoc front (id ∷ []) ids ∙ e) two.1
      (All-tail (λ id. id < shape.points) id ids t) in
      done (next_facts least after front) (next_facts successors_place (id + 1) (front ++ id ∷ [])) (62 ∷ decimal id) later l
      (successor id (record {
        word = refl;
        whole = refuted shape.plain (λ p. some (length front) (length ids) (length g.next.items) count (ap length (s.next_fit.3 p)));
        there = All-head (λ id. id < shape.points) id ids t;
        room = omega (arith, count, few);
        order = le_is after id two.0;
      }) refl)
    where
      some : (m n k : ℕ) → m + suc n ≡ k → k ≡ 0 → ⊥
      some m n k e z = omega arith

  -- items of one value

  abbrev listed_facts : NamedValues named_items → ℕ → Facts
  listed_facts v least = with_named (next_facts least 0 []) v least

  listed_stage : (least : ℕ) → least ≤ named_place → DoneFrom (listed_facts (usuals named_items) least)
  listed_stage least l =
      listed_read shape named_items named_place least (λ v low. DoneFrom (listed_facts v low))
      (λ old new low next w t d. let between = sets_between named_items named_place shape low old w new next t in
      done (listed_facts old low) (listed_facts new next) w d (omega (arith, between.0)) (listed new next t refl))
      (named_of g) s.listed_fit l
      (λ low m. next_stage [] g.next.items low 0 m refl s.next_fit.0 s.next_fit.1)

  -- cells

  abbrev cells_facts : ℕ → List Fact → Facts
  cells_facts least cs = record (listed_facts (usuals named_items) least) { cells = record { items = cs } }

  abbrev CellAt : ℕ × Cell → ℕ → Type 0
  CellAt p n = (slice_get cells p.0 ≡ Some p.1) × (p.0 < length cells) × (tracks shape.kind p.1.owner ≡ true)
      × (tracked_before shape.kind p.0 cells ≡ n)

  abbrev cell_place : ℕ × Cell → ℕ → ℕ
  cell_place p n = 43 + p.0

  cell_step : (front back : List Fact) (p : ℕ × Cell) (x : Fact) (least : ℕ) → CellAt p (length front)
      → FactIn (cell_form shape p.1) x → in_range p x ≡ false → least ≤ 43 + p.0
      → DoneFrom (cells_facts (43 + p.0 + 1) (front ++ x ∷ back)) → DoneFrom (cells_facts least (front ++ usual_cell p ∷ back))
  cell_step front back p x least at i o l d =
      done (cells_facts least (front ++ usual_cell p ∷ back)) (cells_facts (43 + p.0 + 1) (front ++ x ∷ back)) (cell_word p x) d
      (omega (arith, l))
      (cell p.0 p.1 x (record { word = refl; below = at.1; there = at.0; own = at.2; fits = i; order = l; other = o })
      (set_facts cells_facts front back (tracked_before shape.kind p.0 cells) (43 + p.0 + 1) (44 + p.0) (usual_cell p) x at.3 (omega arith)))

  -- the keys of the cells from one on, after these
  cells_ordered : (pre later : List Cell) (n least : ℕ) → pre ++ later ≡ cells → tracked_count shape.kind pre ≡ n → least ≤ 43 + length pre
      → Ordered CellAt cell_place n least 59 (numbered_cells shape.kind (length pre) later)
  cells_ordered pre [] n least e c l = omega (arith, h.places.few, length-append pre [], ap length e)
  cells_ordered pre (x ∷ later) n least e c l =
      by_own (tracks shape.kind x.owner) refl
      (λ m k f g. cells_ordered (pre ++ x ∷ []) later m k (append_assoc pre (x ∷ []) later ∙ e) f g)
    where
      longer : length (pre ++ x ∷ []) ≡ suc (length pre)
      longer = length-append pre (x ∷ []) ∙ add-one (length pre)

      count_more : tracked_count shape.kind (pre ++ x ∷ []) ≡ cond (tracks shape.kind x.owner) (n + 1) n
      count_more = count_push shape.kind pre x ∙ ap (λ m. cond (tracks shape.kind x.owner) (m + 1) m) c

      there : slice_get cells (length pre) ≡ Some x
      there = ap (λ (ys : List Cell). slice_get ys (length pre)) (sym e) ∙ get_middle pre later x

      below : length pre < length cells
      below = omega (arith, length-append pre (x ∷ later), ap length e)

      before : tracked_before shape.kind (length pre) cells ≡ n
      before = ap (λ (ys : List Cell). tracked_count shape.kind (take (length pre) ys)) (sym e) ∙ ap (tracked_count shape.kind)
          (take-append_seam pre (x ∷ later)) ∙ c

      by_own : (t : Bool) → tracks shape.kind x.owner ≡ t
          → ((m k : ℕ) → tracked_count shape.kind (pre ++ x ∷ []) ≡ m → k ≤ 43 + length (pre ++ x ∷ [])
          → Ordered CellAt cell_place m k 59 (numbered_cells shape.kind (length (pre ++ x ∷ [])) later))
          → Ordered CellAt cell_place n least 59
          (cond t ((length pre, x) ∷ numbered_cells shape.kind (suc (length pre)) later)
          (numbered_cells shape.kind (suc (length pre)) later))
      by_own true t again = (
        (there, below, t, before),
        l,
        subst (λ j. Ordered CellAt cell_place (suc n) (43 + length pre + 1) 59 (numbered_cells shape.kind j later)) longer
            (again (suc n) (43 + length pre + 1) (count_more ∙ ap (λ b. cond b (n + 1) n) t ∙ add-one n) (omega (arith, longer))),
      )
      by_own false t again =
          subst (λ j. Ordered CellAt cell_place n least 59 (numbered_cells shape.kind j later)) longer
          (again n least (count_more ∙ ap (λ b. cond b (n + 1) n) t) (omega (arith, longer)))

  abbrev usual_cells : List Fact
  usual_cells = map usual_cell (numbered_cells shape.kind 0 cells)

  cells_stage : (least : ℕ) → least ≤ 43 → DoneFrom (cells_facts least usual_cells)
  cells_stage least l =
      options_read (cells_list shape cells) cell_place CellAt (λ p x. FactIn (cell_form shape p.1) x)
      (λ low values. DoneFrom (cells_facts low values)) (λ p x i e. range_only_usual shape p.1 x i e) cell_step g.cells.items least 59
      s.cells_fit (cells_ordered [] cells 0 least refl refl l) listed_stage

  -- slots

  abbrev slots_facts : ℕ → List Fact → Facts
  slots_facts least slots = record (cells_facts least usual_cells) { stack = record { items = slots } }

  slots_stage : (front slots : List Fact) (least : ℕ) → least ≤ 42 → front ++ slots ≡ g.stack.items → All (FactIn (bytes_forms shape)) slots
      → DoneFrom (slots_facts least front)
  slots_stage front [] least l e a =
      at_facts (slots_facts least front) (cells_facts least usual_cells) (ap (slots_facts least) (sym (append-nil front) ∙ e))
      (cells_stage least (omega arith))
  slots_stage front (x ∷ slots) least l e a =
      let count : length front + length (x ∷ slots) ≡ length g.stack.items = sym (length-append front (x ∷ slots)) ∙ ap length e in
      let few : length g.stack.items ≤ shape.depth = s.slots_fit in
      done (slots_facts least front) (slots_facts 42 (front ++ x ∷ [])) (codes "s:" ++ fact_word x)
      (slots_stage (front ++ x ∷ []) slots 42 (lit≤ tt) (append_assoc front (x ∷ []) slots ∙ e)
      (All-tail (FactIn (bytes_forms shape)) x slots a)) l
      (slot x (record { word = refl; fits = All-head (FactIn (bytes_forms shape)) x slots a; room = omega (arith, count, few); order = l })
      refl)

  -- flags

  abbrev flags_facts : ℕ → List Bit → Facts
  flags_facts least bs = record (slots_facts least []) { flags = bs }

  abbrev FlagAt : ℕ → ℕ → Type 0
  FlagAt letter n = (letter ≡ flag_letter n) × (n < 7)

  flag_step : (front back : List Bit) (letter : ℕ) (x : Bit) (least : ℕ) → FlagAt letter (length front)
      → BitFits shape.kind x → is_default_flag shape.kind x ≡ false → least ≤ 35 + length front
      → DoneFrom (flags_facts (35 + length front + 1) (front ++ x ∷ back))
      → DoneFrom (flags_facts least (front ++ usual_bit shape.kind letter ∷ back))
  flag_step front back letter x least at i o l d =
      let b = length front in
      let before = flags_facts least (front ++ usual_bit shape.kind letter ∷ back) in
      done before (flags_facts (35 + b + 1) (front ++ x ∷ back)) (flag_item letter x) d (omega (arith, l))
      (flag b x (record {
        word = ap (λ c. flag_item c x) at.0;
        there = at.1;
        fits = i;
        order = l;
        other = o;
        meant = λ one. flag_z_so shape before x d.words (d.past (omega (arith, one)));
      })
      (set_facts flags_facts front back b (35 + b + 1) (36 + b) (usual_bit shape.kind letter) x refl (omega arith)))

  flags_stage : (least : ℕ) → least ≤ 35 → DoneFrom (flags_facts least (map (usual_bit shape.kind) letters_of_flags))
  flags_stage least l =
      options_read (flags_list shape cells) (λ c n. 35 + n) FlagAt (λ c x. BitFits shape.kind x)
      (λ low values. DoneFrom (flags_facts low values)) (λ c x i e. flag_usual_only shape.kind x e) flag_step g.flags least 42 s.flags_fit
      (three_of (refl, lit< tt) l (three_of (refl, lit< tt) (lit≤ tt) (three_of (refl, lit< tt) (lit≤ tt) (three_of (refl, lit< tt) (lit≤ tt)
      (three_of (refl, lit< tt) (lit≤ tt) (three_of (refl, lit< tt) (lit≤ tt) (three_of (refl, lit< tt) (lit≤ tt) (lit≤ tt))))))))
      (λ low b. slots_stage [] g.stack.items low b refl s.stack_fit)

  -- pairs, before which no flag is said

  abbrev pairs_facts : ℕ → List PairFact → Facts
  pairs_facts least ps = record (flags_facts least (map (usual_bit shape.kind) letters_of_flags)) { pairs = ps }

  abbrev PairAt : ℕ → ℕ → Type 0
  PairAt letter n = (letter ≡ pair_letter n) × (n < 3)

  abbrev PairSaid : ℕ → PairFact → Type 0
  PairSaid letter x =
      PairFits x × (shape.plain ≡ true → is_any_pair x ≡ true) × (letter ≡ 122 → is_zero_or_one x ≡ true → IsMeant shape.kind g.flags)

  none_said : (kind : Kind) → is_carry_and_zero_default kind (map (usual_bit kind) letters_of_flags) ≡ true
  none_said Main = refl
  none_said Handler = refl
  none_said Alone = refl

  pair_step : (front back : List PairFact) (letter : ℕ) (x : PairFact) (least : ℕ) → PairAt letter (length front)
      → PairSaid letter x → is_any_pair x ≡ false → least ≤ 32 + length front
      → DoneFrom (pairs_facts (32 + length front + 1) (front ++ x ∷ back)) → DoneFrom (pairs_facts least (front ++ AnyPair ∷ back))
  pair_step front back letter x least at i o l d =
      let k = length front in
      let there : k < 3 = at.1 in
      let before = pairs_facts least (front ++ AnyPair ∷ back) in
      let whole = refuted shape.plain (λ p. true_not (is_any_pair x) (i.1 p) o) in
      done before (pairs_facts (32 + k + 1) (front ++ x ∷ back)) (pair_item letter x) d (omega (arith, l))
      (pair k x (record {
        word = ap (λ c. pair_item c x) at.0;
        there = there;
        whole = whole;
        fits = i.0;
        order = l;
        other = o;
        meant = λ two. not_flag_z shape before x d.words whole (omega (arith, l, there)) i.0
            (λ one. names (any_names d.words) d.set (i.2 (at.0 ∙ ap pair_letter two) one));
      })
      (set_facts pairs_facts front back k (32 + k + 1) (33 + k) AnyPair x refl (omega arith)))
    where
      -- where C or Z is said, a word for it comes
      names : (t : Bool) → (t ≡ false → is_carry_and_zero_default shape.kind (map (usual_bit shape.kind) letters_of_flags)
          ≡ is_carry_and_zero_default shape.kind g.flags) → IsMeant shape.kind g.flags → t ≡ true
      names t set m = grind (arith, nat_tests, none_said shape.kind)

  pairs_said : (ps : List PairFact) → Each (λ c x. PairFits x) letters_of_pairs ps
      → (shape.plain ≡ true → ps ≡ map usual_pair letters_of_pairs)
      → (is_zero_or_one (get_or ps 2 AnyPair) ≡ true → IsMeant shape.kind g.flags) → Each PairSaid letters_of_pairs ps
  pairs_said [] f p m = absurd f
  pairs_said (x ∷ []) f p m = absurd f.1
  pairs_said (x ∷ y ∷ []) f p m = absurd f.1.1
  pairs_said (x ∷ y ∷ z ∷ q ∷ rest) f p m = absurd f.1.1.1
  pairs_said (x ∷ y ∷ z ∷ []) f p m = (
    (f.0, λ w. any 0 w, λ e. absurd (omega (arith, e))),
    ((f.1.0, λ w. any 1 w, λ e. absurd (omega (arith, e))), ((f.1.1.0, λ w. any 2 w, λ e. m), tt)),
  )
    where
      any : (n : ℕ) → shape.plain ≡ true → is_any_pair (get_or (x ∷ y ∷ z ∷ []) n AnyPair)
          ≡ is_any_pair (get_or (AnyPair ∷ AnyPair ∷ AnyPair ∷ []) n AnyPair)
      any n w = ap (λ (ps : List PairFact). is_any_pair (get_or ps n AnyPair)) (p w)

  pairs_stage : (least : ℕ) → least ≤ 32 → DoneFrom (pairs_facts least (map usual_pair letters_of_pairs))
  pairs_stage least l =
      options_read (pairs_list shape cells) (λ c n. 32 + n) PairAt PairSaid (λ low values. DoneFrom (pairs_facts low values))
      (λ c x i e. pair_usual_only x e) pair_step g.pairs least 35 (pairs_said g.pairs s.pairs_fit s.plain_fit s.meant)
      ((refl, lit< tt), l, ((refl, lit< tt), lit≤ tt, ((refl, lit< tt), lit≤ tt, lit≤ tt))) flags_stage

  -- registers

  abbrev regs_facts : ℕ → List Fact → Facts
  regs_facts least rs = record (pairs_facts least (map usual_pair letters_of_pairs)) { regs = rs }

  abbrev RegisterAt : ℕ → ℕ → Type 0
  RegisterAt r n = (r ≡ n) × (r < 32)

  registers_ordered : (a n least : ℕ) → a + n ≤ 32 → least ≤ a → Ordered RegisterAt (λ r n. r) a least 32 (numbers_from a n)
  registers_ordered a zero least h l = omega arith
  registers_ordered a (suc n) least h l = ((refl, omega arith), l, registers_ordered (suc a) n (a + 1) (omega arith) (omega arith))

  register_step : (front back : List Fact) (r : ℕ) (x : Fact) (least : ℕ) → RegisterAt r (length front)
      → FactIn (bytes_forms shape) x → is_default shape.kind r x ≡ false → least ≤ r
      → DoneFrom (regs_facts (r + 1) (front ++ x ∷ back)) → DoneFrom (regs_facts least (front ++ usual_fact shape.kind r ∷ back))
  register_step front back r x least at i o l d =
      done (regs_facts least (front ++ usual_fact shape.kind r ∷ back)) (regs_facts (r + 1) (front ++ x ∷ back)) (register_item r x) d
      (omega (arith, l))
      (register r x (record { word = refl; there = at.1; fits = i; order = l; other = o })
      (set_facts regs_facts front back r (r + 1) (r + 1) (usual_fact shape.kind r) x at.0 refl))

  -- some words say all, and only what is spelled does
  pub items_again : (least : ℕ) × (after : ℕ)
      × (read_items shape cells (record { list = spelled shape.kind cells g; ended = true }) ≡ Ok (record g { least = least; after = after }))
  unfolding read_items first_facts
  items_again =
      let kind = shape.kind in
      let all = options_read (registers_list shape cells) (λ r n. r) RegisterAt (λ r x. FactIn (bytes_forms shape) x)
      (λ low values. DoneFrom (regs_facts low values)) (λ r x i e. register_only kind r x e) register_step g.regs 0 32 s.regs_fit
      (registers_ordered 0 32 0 (lit≤ tt) (lit≤ tt)) pairs_stage in
      let d = at_facts (first_facts kind cells) (regs_facts 0 (map (usual_fact kind) registers))
      (ap (λ (fs : List Fact). record (first_facts kind cells) { cells = record { items = fs } }) (cells_usual kind 0 cells)
      ∙ ap (regs_facts 0) (registers_usual kind)) all in
      let only = items_only shape cells (line d.words) (record g { least = d.least; after = d.after }) h d.read in
      (d.least, d.after, ap (items_from shape cells true (first_facts kind cells)) (sym only.words) ∙ d.read)
