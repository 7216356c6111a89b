-- What it takes that an item is taken: its word is spelled as one of seven forms, and it sets one thing.
use Rattle.uz_cert_laws.proofs.Common.{nat_tests, ◌≡◌, ℕ, zero, suc, ◌+◌, ◌<◌, ◌≤◌, ◌≢◌, ◌^◌, Bool, true, false, cond, not, ◌||◌, eqb}
use Rattle.uz_cert_laws.proofs.Common.{leb, ltb, List, [], ◌∷◌, ◌++◌, length, decimal, codes, lit<, lit≤, refl, ◌∙◌, ap, arith, Some, Ok}
use Rattle.uz_cert_laws.proofs.Common.{Err, is_numeral, number_below, cut_again, number_again, Lacks, lacks_cons, tracks, is_default_flag}
use Rattle.uz_cert_laws.proofs.Common.{Cell, Fact, PairFact, Bit, ◌>>=◌, digits, raw_of, fact_of, pair_of, bit_of, is_default}
use Rattle.uz_cert_laws.proofs.Common.{is_any_pair, is_range, is_handler, bytes_forms, pair_forms, is_flag_z, take_item, Shape, Facts}
use Rattle.uz_cert_laws.proofs.Common.{item, fact_word, pair_word, flag_word, sym, subst, Option, None, Result, slice_get, slice_set}
use Rattle.uz_cert_laws.proofs.Common.{PairFits, BitFits, All-head, All-tail, cut_at, cut_read, number_read, tracked_before, named_items}
use Rattle.uz_cert_laws.proofs.Common.{named_place, successors_place, NamedValues, named_of, with_named, FactForms, Raw, CertWhy, All}
use Rattle.uz_cert_lines.specs.Items.{register_set, register_key, take_register, pair_set, take_pair, flag_set, take_flag, slot_set}
use Rattle.uz_cert_lines.specs.Items.{slot_room, take_slot, with_number, cell_at, cell_forms, numbered, cell_set, cell_value, take_cell}
use Rattle.uz_cert_lines.specs.Items.{successor_set, take_successor, take_letter, take_cut, take_second, take_named, take_named_value}
use Rattle.uz_cert_lines.specs.Items.{take_keyed}
use Rattle.uz_cert_laws.proofs.Tests.{fine, some_not, so, else_so, tested, or_false, fine_is, fault_not}
use Rattle.uz_cert_laws.proofs.Tests.{passed, failed, bind_ok, le_is, lt_is, number_is}
use Rattle.uz_cert_laws.proofs.Named.{is_name, letters, order_is, SetsOne, listed_taken, listed_takes}
use Rattle.uz_cert_laws.proofs.Facts.{fact_so, pair_so, bit_so, FactIn, fact_only, pair_only, bit_only}
use Rattle.uz_hex.proofs.Plain.{decimal_lacks_above}
use Rattle.uz_cert_laws.proofs.Numbers.{lacks_is, digits_so, numeral_so}
use Rattle.std.specs.Prelude.{slice_index}
use Rattle.uz_cert_lines.specs.declared.why.CertWhy.TheVariants as why

-- what items set

abbrev pub with_register : Facts → ℕ → Fact → Facts
with_register facts r f = record facts { regs = slice_set facts.regs r f; least = r + 1 }

abbrev pub with_pair : Facts → ℕ → PairFact → Facts
with_pair facts k f = record facts { pairs = slice_set facts.pairs k f; least = 33 + k }

abbrev pub with_flag : Facts → ℕ → Bit → Facts
with_flag facts b bit = record facts { flags = slice_set facts.flags b bit; least = 36 + b }

abbrev pub with_slot : Facts → Fact → Facts
with_slot facts f = record facts { stack = record { items = facts.stack.items ++ f ∷ [] }; least = 42 }

abbrev pub with_cell : Shape → List Cell → Facts → ℕ → Fact → Facts
with_cell shape cells facts i f =
    record facts { cells = record { items = slice_set facts.cells.items (tracked_before shape.kind i cells) f }; least = 44 + i }

abbrev pub with_successor : Facts → ℕ → Facts
with_successor facts id = record facts { next = record { items = facts.next.items ++ id ∷ [] }; after = id + 1; least = successors_place }

-- the letters of pairs and flags

abbrev pub pair_letter : ℕ → ℕ
pair_letter k = slice_index (codes "xyz") k

abbrev pub flag_letter : ℕ → ℕ
flag_letter b = slice_index (codes "cznvsht") b

-- one of them

pub record RegisterForm (shape : Shape) (facts : Facts) (w : List ℕ) (r : ℕ) (f : Fact) : Type 0 where
  pub word : w ≡ item (114 ∷ decimal r) (fact_word f)
  pub there : r < 32
  pub fits : FactIn (bytes_forms shape) f
  pub order : facts.least ≤ r
  pub other : is_default shape.kind r f ≡ false

pub record PairForm (shape : Shape) (facts : Facts) (w : List ℕ) (later : List (List ℕ)) (k : ℕ) (f : PairFact) : Type 0 where
  pub word : w ≡ item (pair_letter k ∷ []) (pair_word f)
  pub there : k < 3
  pub whole : shape.plain ≡ false
  pub fits : PairFits f
  pub order : facts.least ≤ 32 + k
  pub other : is_any_pair f ≡ false
  pub meant : k ≡ 2 → is_flag_z shape facts (pair_word f) later ≡ false

pub record FlagForm (shape : Shape) (facts : Facts) (w : List ℕ) (later : List (List ℕ)) (b : ℕ) (bit : Bit) : Type 0 where
  pub word : w ≡ item (flag_letter b ∷ []) (flag_word bit)
  pub there : b < 7
  pub fits : BitFits shape.kind bit
  pub order : facts.least ≤ 35 + b
  pub other : is_default_flag shape.kind bit ≡ false
  pub meant : b ≡ 1 → is_flag_z shape facts (flag_word bit) later ≡ true

pub record SlotForm (shape : Shape) (facts : Facts) (w : List ℕ) (f : Fact) : Type 0 where
  pub word : w ≡ codes "s:" ++ fact_word f
  pub fits : FactIn (bytes_forms shape) f
  pub room : length facts.stack.items < shape.depth
  pub order : facts.least ≤ 42

abbrev pub cell_form : Shape → Cell → FactForms
cell_form shape c = cell_forms shape (Some (0, c))

pub record CellForm (shape : Shape) (cells : List Cell) (facts : Facts) (w : List ℕ) (i : ℕ) (c : Cell) (f : Fact) : Type 0 where
  pub word : w ≡ item (109 ∷ decimal i) (fact_word f)
  pub below : i < length cells
  pub there : slice_get cells i ≡ Some c
  pub own : tracks shape.kind c.owner ≡ true
  pub fits : FactIn (cell_form shape c) f
  pub order : facts.least ≤ 43 + i
  pub other : is_range c.range f ≡ false

pub record SuccessorForm (shape : Shape) (facts : Facts) (w : List ℕ) (id : ℕ) : Type 0 where
  pub word : w ≡ 62 ∷ decimal id
  pub whole : shape.plain ≡ false
  pub there : id < shape.points
  pub room : length facts.next.items < 16
  pub order : facts.after ≤ id

pub data HasForm (shape : Shape) (cells : List Cell) (facts : Facts) (w : List ℕ) (later : List (List ℕ)) (more : Facts) : Type 0 where
  register : (r : ℕ) (f : Fact) → RegisterForm shape facts w r f → more ≡ with_register facts r f → HasForm shape cells facts w later more
  pair : (k : ℕ) (f : PairFact) → PairForm shape facts w later k f → more ≡ with_pair facts k f → HasForm shape cells facts w later more
  flag : (b : ℕ) (bit : Bit) → FlagForm shape facts w later b bit → more ≡ with_flag facts b bit → HasForm shape cells facts w later more
  slot : (f : Fact) → SlotForm shape facts w f → more ≡ with_slot facts f → HasForm shape cells facts w later more
  cell : (i : ℕ) (c : Cell) (f : Fact) → CellForm shape cells facts w i c f → more ≡ with_cell shape cells facts i f → HasForm shape cells
      facts w later more
  listed : (v : NamedValues named_items) (next : ℕ) → SetsOne named_items named_place shape facts.least (named_of facts) w v next
      → more ≡ with_named facts v next → HasForm shape cells facts w later more
  successor : (id : ℕ) → SuccessorForm shape facts w id → more ≡ with_successor facts id → HasForm shape cells facts w later more

-- what is asked of the places that a line's items may speak of

abbrev pub CellsAreBytes : List Cell → Type 0
CellsAreBytes cells = All (λ c. c.range.hi ≤ 255) cells

pub record PlacesFit (shape : Shape) (cells : List Cell) : Type 0 where
  pub few : length cells ≤ 16
  pub bytes : CellsAreBytes cells
  pub points : shape.points ≤ 2 ^ 32

cell_range : (cells : List Cell) (i : ℕ) (c : Cell) → CellsAreBytes cells → slice_get cells i ≡ Some c → c.range.hi ≤ 255
cell_range [] i c h e = absurd cc
cell_range (x ∷ xs) zero c h e =
    let same : x ≡ c = cc in
    subst (λ (y : Cell). y.range.hi ≤ 255) same (All-head (λ y. y.range.hi ≤ 255) x xs h)
cell_range (x ∷ xs) (suc i) c h e = cell_range xs i c (All-tail (λ y. y.range.hi ≤ 255) x xs h) e

-- the numbers in a cell's word are those of bytes
cell_limit : (shape : Shape) (cells : List Cell) (i : ℕ) (c : Cell) → CellsAreBytes cells → slice_get cells i ≡ Some c
    → (cell_form shape c).limit ≤ 256
cell_limit shape cells i c h e = grind (arith, cell_range cells i c h e)

numbered_is : (t : Bool) (m : Result Raw CertWhy) (r : Raw) → numbered t m ≡ Ok r → (t ≡ true) × (m ≡ Ok r)
numbered_is true m r e = (refl, e)
numbered_is false m r e = grind (arith, nat_tests)

cell_there : (cells : List Cell) (o : Option ℕ) (p : ℕ × Cell) → cell_at cells o ≡ Some p → (o ≡ Some p.0)
    × (slice_get cells p.0 ≡ Some p.1)
cell_there cells None p e = absurd cc
cell_there cells (Some i) p e = grind (arith, nat_tests)

-- what is taken is one of these

module _ (shape : Shape) (cells : List Cell) (facts : Facts) (w : List ℕ) (later : List (List ℕ)) (more : Facts) where
  abbrev Form : Type 0
  Form = HasForm shape cells facts w later more

  register_taken : (key value : List ℕ) → w ≡ (114 ∷ key) ++ 61 ∷ value → take_register shape facts key value ≡ Ok more → Form
  unfolding take_register
  register_taken key value e h = by_key (number_below 32 key) refl h
    where
      by_key : (o : Option ℕ) → number_below 32 key ≡ o → register_key shape facts value o ≡ Ok more → Form
      by_key None k h = absurd (fault_not why.Word more h)
      by_key (Some r) k h =
          let number = number_read 32 r key (lit≤ tt) k in
          let m = bind_ok (raw_of (bytes_forms shape) value) (λ raw. fact_of raw >>= (λ fact. register_set shape facts r fact)) more h in
          let n = bind_ok (fact_of m.0) (λ fact. register_set shape facts r fact) more m.2 in
          let fact = fact_only (bytes_forms shape) value m.0 n.0 (lit≤ tt) m.1 n.1 in
          let set = order_is facts more r (is_default shape.kind r n.0) (with_register facts r n.0) n.2 in
          register r n.0
          (record {
            word = e ∙ ap (λ t. (114 ∷ t) ++ 61 ∷ value) number.0 ∙ ap (λ t. (114 ∷ decimal r) ++ 61 ∷ t) fact.0;
            there = number.1;
            fits = fact.1;
            order = set.0;
            other = set.1;
          }) set.2

  pair_taken : (value : List ℕ) (k : ℕ) → w ≡ pair_letter k ∷ 61 ∷ value → k < 3 → (k ≡ 2 → is_flag_z shape facts value later ≡ false)
      → take_pair shape facts k value ≡ Ok more → Form
  unfolding take_pair
  pair_taken value k e there z h =
      let p = failed shape.plain (raw_of pair_forms value >>= (λ raw. pair_of raw >>= (λ fact. pair_set facts k fact))) why.Word more h in
      let m = bind_ok (raw_of pair_forms value) (λ raw. pair_of raw >>= (λ fact. pair_set facts k fact)) more p.1 in
      let n = bind_ok (pair_of m.0) (λ fact. pair_set facts k fact) more m.2 in
      let fact = pair_only value m.0 n.0 m.1 n.1 in
      let set = order_is facts more (32 + k) (is_any_pair n.0) (with_pair facts k n.0) n.2 in
      pair k n.0
      (record {
        word = e ∙ ap (λ t. pair_letter k ∷ 61 ∷ t) fact.0;
        there = there;
        whole = p.0;
        fits = fact.1;
        order = set.0;
        other = set.1;
        meant = λ is. ap (λ t. is_flag_z shape facts t later) (sym fact.0) ∙ z is;
      }) set.2

  flag_taken : (value : List ℕ) (b : ℕ) → w ≡ flag_letter b ∷ 61 ∷ value → b < 7 → (b ≡ 1 → is_flag_z shape facts value later ≡ true)
      → take_flag shape facts b value ≡ Ok more → Form
  unfolding take_flag
  flag_taken value b e there z h =
      let m = bind_ok (bit_of (is_handler shape.kind) value) (λ bit. flag_set shape facts b bit) more h in
      let bit = bit_only shape.kind value m.0 m.1 in
      let set = order_is facts more (35 + b) (is_default_flag shape.kind m.0) (with_flag facts b m.0) m.2 in
      flag b m.0
      (record {
        word = e ∙ ap (λ t. flag_letter b ∷ 61 ∷ t) bit.0;
        there = there;
        fits = bit.1;
        order = set.0;
        other = set.1;
        meant = λ is. ap (λ t. is_flag_z shape facts t later) (sym bit.0) ∙ z is;
      }) set.2

  slot_taken : (value : List ℕ) → w ≡ 115 ∷ 58 ∷ value → take_slot shape facts value ≡ Ok more → Form
  unfolding take_slot
  slot_taken value e h =
      let m = bind_ok (raw_of (bytes_forms shape) value)
      (λ raw. slot_room shape facts >>= (λ room. fact_of raw >>= (λ fact. slot_set facts fact))) more h in
      let r = bind_ok (slot_room shape facts) (λ room. fact_of m.0 >>= (λ fact. slot_set facts fact)) more m.2 in
      let n = bind_ok (fact_of m.0) (λ fact. slot_set facts fact) more r.2 in
      let room = passed (ltb (length facts.stack.items) shape.depth) (Ok 0) why.Limit r.0 r.1 in
      let fact = fact_only (bytes_forms shape) value m.0 n.0 (lit≤ tt) m.1 n.1 in
      let set = order_is facts more 42 false (with_slot facts n.0) n.2 in
      slot n.0
      (record {
        word = e ∙ ap (λ t. 115 ∷ 58 ∷ t) fact.0;
        fits = fact.1;
        room = lt_is (length facts.stack.items) shape.depth room.0;
        order = set.0;
      }) set.2

  cell_taken : (key value : List ℕ) → PlacesFit shape cells → w ≡ (109 ∷ key) ++ 61 ∷ value → take_cell shape cells facts key value ≡ Ok more
      → Form
  unfolding take_cell
  cell_taken key value fits e h = by_cell (cell_at cells (number_below (length cells) key)) refl p.1
    where
      told : Option (ℕ × Cell) → Result Facts CertWhy
      told o = numbered (is_numeral key) (raw_of (cell_forms shape o) value) >>= (λ raw. cell_value shape cells facts o raw)

      p : (digits key ≡ true) × (told (cell_at cells (number_below (length cells) key)) ≡ Ok more)
      p = passed (digits key) (told (cell_at cells (number_below (length cells) key))) why.Word more h

      by_cell : (o : Option (ℕ × Cell)) → cell_at cells (number_below (length cells) key) ≡ o → told o ≡ Ok more → Form
      by_cell None at t =
          let m = bind_ok (numbered (is_numeral key) (raw_of (cell_forms shape None) value)) (λ raw. cell_value shape cells facts None raw)
          more t in
          absurd (fault_not why.Unknown more m.2)
      by_cell (Some q) at t =
          let few : length cells ≤ 16 = fits.few in
          let m = bind_ok (numbered (is_numeral key) (raw_of (cell_forms shape (Some q)) value))
          (λ raw. cell_value shape cells facts (Some q) raw) more t in
          let raw = numbered_is (is_numeral key) (raw_of (cell_forms shape (Some q)) value) m.0 m.1 in
          let own = passed (tracks shape.kind q.1.owner) (fact_of m.0 >>= (λ fact. cell_set shape cells facts q.0 q.1.range fact))
          why.Unknown more m.2 in
          let n = bind_ok (fact_of m.0) (λ fact. cell_set shape cells facts q.0 q.1.range fact) more own.1 in
          let there = cell_there cells (number_below (length cells) key) q at in
          let number = number_read (length cells) q.0 key (omega (arith, few)) there.0 in
          let fact = fact_only (cell_form shape q.1) value m.0 n.0 (cell_limit shape cells q.0 q.1 fits.bytes there.1) raw.1 n.1 in
          let set = order_is facts more (43 + q.0) (is_range q.1.range n.0) (with_cell shape cells facts q.0 n.0) n.2 in
          cell q.0 q.1 n.0
          (record {
            word = e ∙ ap (λ t. (109 ∷ t) ++ 61 ∷ value) number.0 ∙ ap (λ t. (109 ∷ decimal q.0) ++ 61 ∷ t) fact.0;
            below = number.1;
            there = there.1;
            own = own.0;
            fits = fact.1;
            order = set.0;
            other = set.1;
          }) set.2

  successor_taken : (id : List ℕ) → shape.points ≤ 2 ^ 32 → w ≡ 62 ∷ id → take_successor shape facts id ≡ Ok more → Form
  unfolding take_successor
  successor_taken id points e h =
      let next = successor_set facts (number_below shape.points id) in
      let room_or = cond (ltb (length facts.next.items) 16) next (Err why.Limit) in
      let p = failed (shape.plain || not (digits id)) (cond (not (is_numeral id)) (Err why.Number) room_or) why.Word more h in
      let q = failed (not (is_numeral id)) room_or why.Number more p.1 in
      let r = passed (ltb (length facts.next.items) 16) next why.Limit more q.1 in
      by_number (or_false shape.plain (not (digits id)) p.0).0 r.0 (number_below shape.points id) refl r.1
    where
      by_number : shape.plain ≡ false → ltb (length facts.next.items) 16 ≡ true → (o : Option ℕ) → number_below shape.points id ≡ o
          → successor_set facts o ≡ Ok more → Form
      by_number whole room None n h = absurd (fault_not why.Unknown more h)
      by_number whole room (Some n) is h =
          let number = number_read shape.points n id points is in
          let order = passed (leb facts.after n) (Ok (with_successor facts n)) why.Order more h in
          successor n
          (record {
            word = e ∙ ap (λ t. 62 ∷ t) number.0;
            whole = whole;
            there = number.1;
            room = lt_is (length facts.next.items) 16 room;
            order = le_is facts.after n order.0;
          }) (sym (fine_is (with_successor facts n) more order.1))

  -- items that are named by a letter
  letter_taken : (value : List ℕ) (letter : ℕ) → w ≡ letter ∷ 61 ∷ value → take_letter shape facts letter value later ≡ Ok more → Form
  unfolding take_letter
  letter_taken value letter e h =
      tested (eqb letter 120) h (λ t. is_pair 0 120 (lit< tt) refl t (λ k. absurd (omega (arith, k))))
      (λ _ h. tested (eqb letter 121) h (λ t. is_pair 1 121 (lit< tt) refl t (λ k. absurd (omega (arith, k))))
      (λ _ h. tested (eqb letter 122) h (λ t h. tested (is_flag_z shape facts value later) h
      (λ z. is_flag 1 122 (lit< tt) refl t (λ _. z)) (λ z. is_pair 2 122 (lit< tt) refl t (λ _. z)))
      (λ _ h. tested (eqb letter 99) h (λ t. is_flag 0 99 (lit< tt) refl t (λ k. absurd (omega (arith, k))))
      (λ _ h. tested (eqb letter 110) h (λ t. is_flag 2 110 (lit< tt) refl t (λ k. absurd (omega (arith, k))))
      (λ _ h. tested (eqb letter 118) h (λ t. is_flag 3 118 (lit< tt) refl t (λ k. absurd (omega (arith, k))))
      (λ _ h. tested (eqb letter 115) h (λ t. is_flag 4 115 (lit< tt) refl t (λ k. absurd (omega (arith, k))))
      (λ _ h. tested (eqb letter 104) h (λ t. is_flag 5 104 (lit< tt) refl t (λ k. absurd (omega (arith, k))))
      (λ _ h. tested (eqb letter 116) h (λ t. is_flag 6 116 (lit< tt) refl t (λ k. absurd (omega (arith, k))))
      (λ _ h. absurd (fault_not why.Word more h))))))))))
    where
      is_pair : (k c : ℕ) → k < 3 → c ≡ pair_letter k → eqb letter c ≡ true → (k ≡ 2 → is_flag_z shape facts value later ≡ false)
          → take_pair shape facts k value ≡ Ok more → Form
      is_pair k c l is t z = pair_taken value k (e ∙ ap (λ x. x ∷ 61 ∷ value) (number_is letter c t ∙ is)) l z

      is_flag : (b c : ℕ) → b < 7 → c ≡ flag_letter b → eqb letter c ≡ true → (b ≡ 1 → is_flag_z shape facts value later ≡ true)
          → take_flag shape facts b value ≡ Ok more → Form
      is_flag b c l is t z = flag_taken value b (e ∙ ap (λ x. x ∷ 61 ∷ value) (number_is letter c t ∙ is)) l z

  -- items that have a name
  keyed_taken : (key value : List ℕ) → PlacesFit shape cells → w ≡ key ++ 61 ∷ value → take_keyed shape cells facts key value later ≡ Ok more
      → Form
  keyed_taken [] value fits e h = absurd (fault_not why.Word more h)
  keyed_taken (c ∷ cs) value fits e h =
      tested (eqb c 114) h (λ t. register_taken cs value (at 114 t))
      (λ _ h. tested (eqb c 109) h (λ t. cell_taken cs value fits (at 109 t))
      (λ _ h. tested (eqb (length cs) 0) h (λ t. letter_taken value c (e ∙ ap (λ ks. (c ∷ ks) ++ 61 ∷ value) (no_key cs t)))
      (λ _ h. let m = listed_taken named_items named_place shape facts (named_of facts) (with_named facts) w (c ∷ cs) value more refl e h in
      listed m.0 m.1 m.2 m.3)))
    where
      at : (b : ℕ) → eqb c b ≡ true → w ≡ (b ∷ cs) ++ 61 ∷ value
      at b t = e ∙ ap (λ x. (x ∷ cs) ++ 61 ∷ value) (number_is c b t)

      no_key : (ks : List ℕ) → eqb (length ks) 0 ≡ true → ks ≡ []
      no_key [] t = refl
      no_key (k ∷ ks) t = absurd (some_not (length ks) (number_is (suc (length ks)) 0 t))

  named_taken : PlacesFit shape cells → take_named shape cells facts w later ≡ Ok more → Form
  unfolding take_named
  named_taken fits h = by_cut (cut_at 61 w) refl h
    where
      by_cut : (o : Option (List ℕ × List ℕ)) → cut_at 61 w ≡ o → take_cut shape cells facts o later ≡ Ok more → Form
      by_cut None c h = absurd (fault_not why.Word more h)
      by_cut (Some p) c h = keyed_taken p.0 p.1 fits (cut_read 61 w p c) h

pub item_taken : (shape : Shape) (cells : List Cell) (facts : Facts) (w : List ℕ) (later : List (List ℕ)) (more : Facts)
    → PlacesFit shape cells → take_item shape cells facts w later ≡ Ok more → HasForm shape cells facts w later more
unfolding take_item
item_taken shape cells facts [] later more fits h = absurd (fault_not why.Word more h)
item_taken shape cells facts (c ∷ cs) later more fits h =
    tested (eqb c 62) h (λ t. successor_taken shape cells facts (c ∷ cs) later more cs fits.points (ap (λ x. x ∷ cs) (number_is c 62 t)))
    (λ _ h. tested (eqb c 115) h (λ t. second t cs refl) (λ _. named_taken shape cells facts (c ∷ cs) later more fits))
  where
    second : eqb c 115 ≡ true → (ds : List ℕ) → cs ≡ ds → take_second shape cells facts (c ∷ cs) ds later ≡ Ok more
        → HasForm shape cells facts (c ∷ cs) later more
    second s [] e h = named_taken shape cells facts (c ∷ cs) later more fits h
    second s (d ∷ ds) e h =
        tested (eqb d 58) h
        (λ t. slot_taken shape cells facts (c ∷ cs) later more ds
        (ap (λ x. c ∷ x) e ∙ ap (λ x. x ∷ d ∷ ds) (number_is c 115 s) ∙ ap (λ x. 115 ∷ x ∷ ds) (number_is d 58 t)))
        (λ _. named_taken shape cells facts (c ∷ cs) later more fits)

-- what is spelled is taken

key_lacks : (letter n : ℕ) → letter ≢ 61 → n < 2 ^ 64 → Lacks 61 (letter ∷ decimal n)
key_lacks letter n h k = lacks_cons 61 letter (decimal n) h (decimal_lacks_above 61 n (lit< tt) k)

module _ (shape : Shape) (cells : List Cell) (facts : Facts) (later : List (List ℕ)) where
  -- this word is taken, and makes these facts
  abbrev Takes : List ℕ → Facts → Type 0
  Takes w more = take_item shape cells facts w later ≡ Ok more

  register_takes : (w : List ℕ) (r : ℕ) (f : Fact) → RegisterForm shape facts w r f → Takes w (with_register facts r f)
  unfolding take_item take_named take_register
  register_takes w r f t =
      let there : r < 32 = t.there in
      let fact = fact_so (bytes_forms shape) f (lit≤ tt) t.fits in
      ap (λ v. take_item shape cells facts v later) t.word
      ∙ ap (λ o. take_cut shape cells facts o later)
      (cut_again 61 (114 ∷ decimal r) (fact_word f) (key_lacks 114 r (λ e. omega (arith, e)) (omega (arith, there))))
      ∙ grind (arith, nat_tests, number_again 32 r (lit≤ tt) there, fact.1, fact.2, t.order, t.other)

  -- by the letter

  pair_letter_takes : (value : List ℕ) (k : ℕ) → k < 3 → (k ≡ 2 → is_flag_z shape facts value later ≡ false)
      → take_item shape cells facts (item (pair_letter k ∷ []) value) later ≡ take_pair shape facts k value
  unfolding take_item take_named take_letter
  pair_letter_takes value zero l z = refl
  pair_letter_takes value (suc zero) l z = refl
  pair_letter_takes value (suc (suc zero)) l z =
      else_so (is_flag_z shape facts value later) (take_flag shape facts 1 value) (take_pair shape facts 2 value) (z refl)
  pair_letter_takes value (suc (suc (suc k))) l z = absurd (omega (arith, l))

  pair_takes : (w : List ℕ) (k : ℕ) (f : PairFact) → PairForm shape facts w later k f → Takes w (with_pair facts k f)
  unfolding take_pair
  pair_takes w k f t =
      let fact = pair_so f t.fits in
      ap (λ v. take_item shape cells facts v later) t.word ∙ pair_letter_takes (pair_word f) k t.there t.meant
      ∙ grind (arith, nat_tests, t.whole, fact.1, fact.2, t.order, t.other)

  flag_letter_takes : (value : List ℕ) (b : ℕ) → b < 7 → (b ≡ 1 → is_flag_z shape facts value later ≡ true)
      → take_item shape cells facts (item (flag_letter b ∷ []) value) later ≡ take_flag shape facts b value
  unfolding take_item take_named take_letter
  flag_letter_takes value zero l z = refl
  flag_letter_takes value (suc zero) l z =
      so (is_flag_z shape facts value later) (take_flag shape facts 1 value) (take_pair shape facts 2 value) (z refl)
  flag_letter_takes value (suc (suc zero)) l z = refl
  flag_letter_takes value (suc (suc (suc zero))) l z = refl
  flag_letter_takes value (suc (suc (suc (suc zero)))) l z = refl
  flag_letter_takes value (suc (suc (suc (suc (suc zero))))) l z = refl
  flag_letter_takes value (suc (suc (suc (suc (suc (suc zero)))))) l z = refl
  flag_letter_takes value (suc (suc (suc (suc (suc (suc (suc b))))))) l z = absurd (omega (arith, l))

  flag_takes : (w : List ℕ) (b : ℕ) (bit : Bit) → FlagForm shape facts w later b bit → Takes w (with_flag facts b bit)
  unfolding take_flag
  flag_takes w b bit t =
      ap (λ v. take_item shape cells facts v later) t.word ∙ flag_letter_takes (flag_word bit) b t.there t.meant
      ∙ grind (arith, nat_tests, bit_so shape.kind bit t.fits, t.order, t.other)

  slot_takes : (w : List ℕ) (f : Fact) → SlotForm shape facts w f → Takes w (with_slot facts f)
  unfolding take_item take_slot
  slot_takes w f t =
      let fact = fact_so (bytes_forms shape) f (lit≤ tt) t.fits in
      ap (λ v. take_item shape cells facts v later) t.word
      ∙ grind (arith, nat_tests, fact.1, fact.2, t.room, t.order)

  cell_takes : (w : List ℕ) (i : ℕ) (c : Cell) (f : Fact) → PlacesFit shape cells → CellForm shape cells facts w i c f
      → Takes w (with_cell shape cells facts i f)
  unfolding take_item take_named take_cell
  cell_takes w i c f fits t =
      let few : length cells ≤ 16 = fits.few in
      let below : i < length cells = t.below in
      let fact = fact_so (cell_form shape c) f (cell_limit shape cells i c fits.bytes t.there) t.fits in
      let number = number_below (length cells) (decimal i) in
      let at : cell_at cells number ≡ Some (i, c) =
      ap (cell_at cells) (number_again (length cells) i (omega (arith, few)) below) ∙ ap (with_number i) t.there in
      ap (λ v. take_item shape cells facts v later) t.word
      ∙ ap (λ o. take_cut shape cells facts o later)
      (cut_again 61 (109 ∷ decimal i) (fact_word f) (key_lacks 109 i (λ e. omega (arith, e)) (omega (arith, few, below))))
      ∙ grind (
        arith,
        nat_tests,
        digits_so i (omega (arith, few, below)),
        numeral_so i (omega (arith, few, below)),
        at,
        fact.1,
        fact.2,
        t.own,
        t.order,
        t.other,
      )

  -- by the name
  name_takes : (key value : List ℕ) → is_name key ≡ true
      → take_item shape cells facts (item key value) later ≡ take_named_value shape facts key value
  unfolding take_item take_named
  name_takes [] value e = absurd cc
  name_takes (c ∷ []) value e = absurd cc
  name_takes (c ∷ d ∷ cs) value e =
      let is = letters c d cs e in
      grind (
        arith,
        nat_tests,
        is.no_successor,
        is.no_slot,
        is.no_register,
        is.no_cell,
        cut_again 61 (c ∷ d ∷ cs) value (lacks_is 61 (c ∷ d ∷ cs) is.lack),
      )

  successor_takes : (w : List ℕ) (id : ℕ) → PlacesFit shape cells → SuccessorForm shape facts w id → Takes w (with_successor facts id)
  unfolding take_item take_successor
  successor_takes w id fits t =
      let points : shape.points ≤ 2 ^ 32 = fits.points in
      let there : id < shape.points = t.there in
      let next = successor_set facts (number_below shape.points (decimal id)) in
      let room_or = cond (ltb (length facts.next.items) 16) next (Err why.Limit) in
      ap (λ v. take_item shape cells facts v later) t.word
      ∙ grind (
        arith,
        nat_tests,
        t.whole,
        t.room,
        t.order,
        digits_so id (omega (arith, points, there)),
        numeral_so id (omega (arith, points, there)),
        number_again shape.points id points there,
      )

-- each of these forms is taken
pub form_takes : (shape : Shape) (cells : List Cell) (facts : Facts) (w : List ℕ) (later : List (List ℕ)) (more : Facts)
    → PlacesFit shape cells → HasForm shape cells facts w later more → take_item shape cells facts w later ≡ Ok more
form_takes shape cells facts w later more fits (register r f t e) = register_takes shape cells facts later w r f t ∙ ap (λ x. fine x) (sym e)
form_takes shape cells facts w later more fits (pair k f t e) = pair_takes shape cells facts later w k f t ∙ ap (λ x. fine x) (sym e)
form_takes shape cells facts w later more fits (flag b bit t e) = flag_takes shape cells facts later w b bit t ∙ ap (λ x. fine x) (sym e)
form_takes shape cells facts w later more fits (slot f t e) = slot_takes shape cells facts later w f t ∙ ap (λ x. fine x) (sym e)
form_takes shape cells facts w later more fits (cell i c f t e) =
    cell_takes shape cells facts later w i c f fits t ∙ ap (λ x. fine x) (sym e)
form_takes shape cells facts w later more fits (listed v next t e) =
    let n = listed_takes named_items named_place shape facts (named_of facts) (with_named facts) w v next refl t in
    ap (λ x. take_item shape cells facts x later) n.word ∙ name_takes shape cells facts later n.key n.value n.name ∙ n.takes
    ∙ ap (λ x. fine x) (sym e)
form_takes shape cells facts w later more fits (successor id t e) =
    successor_takes shape cells facts later w id fits t ∙ ap (λ x. fine x) (sym e)
