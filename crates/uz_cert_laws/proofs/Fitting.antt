-- What a well formed certificate lets be said of states is what the forms of their lines let in, and the other way round.
use Rattle.uz_cert_laws.proofs.Common.{nat_tests, All-weaker, All-map, ◌≡◌, ℕ, suc, ◌+◌, ◌-◌, ◌*◌, ◌/◌, ◌<◌, ◌≤◌, ◌^◌, Bool, true, false}
use Rattle.uz_cert_laws.proofs.Common.{cond, not, ◌&&◌, eqb, leb, List, [], ◌∷◌, map, length, filter, lit<, lit≤, refl, sym, ◌∙◌, ap}
use Rattle.uz_cert_laws.proofs.Common.{subst, arith, All-nil, All-cons, All-head, All-tail, Ends, is_within, tracks, RangeFits, FactFits}
use Rattle.uz_cert_laws.proofs.Common.{spans_fit, Kind, Main, Handler, Alone, Cell, Fact, Any, Between, Line, Loop, Old, OldFlags}
use Rattle.uz_cert_laws.proofs.Common.{range_fact, is_handler, bytes_forms, none_in_main, span_of_fact, FactForms, Shape, All}
use Rattle.uz_cert_laws.proofs.Tests.{and_true, both_true, true_not, le_is, else_so, not_le}
use Rattle.uz_cert_laws.proofs.Facts.{FactIn, handler_is, part_from, part_not_whole, whole_ends}
use Rattle.uz_schedule.specs.WellFormed.{CellFactFits}
use Rattle.uz_cert_laws.proofs.{ItemForms.cell_form, Spelled.numbered_cells, Sections.Each, Sections.each_length, Sections.each_other}
use Rattle.std.proofs.{Common.mul_comm, lemmas.Nat.div_below, lemmas.Nat.le-div}

-- lists

pub each_of_all : {K A : Type 0} (P : A → Type 0) (ks : List K) (xs : List A) → length xs ≡ length ks → All P xs → Each (λ k x. P x) ks xs
each_of_all P [] [] e h = tt
each_of_all P [] (x ∷ xs) e h = absurd (omega (arith, e))
each_of_all P (k ∷ ks) [] e h = absurd (omega (arith, e))
each_of_all P (k ∷ ks) (x ∷ xs) e h = (All-head P x xs h, each_of_all P ks xs (omega (arith, e)) (All-tail P x xs h))

pub all_of_each : {K A : Type 0} (P : A → Type 0) (ks : List K) (xs : List A) → Each (λ k x. P x) ks xs → All P xs
all_of_each P [] [] h = All-nil P
all_of_each P [] (x ∷ xs) h = absurd h
all_of_each P (k ∷ ks) [] h = absurd h
all_of_each P (k ∷ ks) (x ∷ xs) h = All-cons P x xs h.0 (all_of_each P ks xs h.1)

pub all_map : {A B : Type 0} (P : A → Type 0) (Q : B → Type 0) (f : A → B) (xs : List A) → ((x : A) → P x → Q (f x)) → All P xs
    → All Q (map f xs)
all_map P Q f xs g h = All-map Q f xs (All-weaker P (λ x. Q (f x)) g xs h)

pub map_back : {A B : Type 0} (P : A → Type 0) (f : A → B) (g : B → A) (xs : List A) → ((x : A) → P x → g (f x) ≡ x) → All P xs
    → map g (map f xs) ≡ xs
map_back P f g [] e h = refl
map_back {A} P f g (x ∷ xs) e h =
    ap (λ (y : A). y ∷ map g (map f xs)) (e x (All-head P x xs h)) ∙ ap (λ (ys : List A). x ∷ ys) (map_back P f g xs e (All-tail P x xs h))

-- facts of points

pub fact_in : (shape : Shape) (f : Fact) → shape.plain ≡ false → FactFits shape.kind f → FactIn (bytes_forms shape) f
fact_in shape Any p h = (refl, lit< tt)
fact_in shape (Between e) p h = (h, omega arith, omega (arith, h.range.high))
fact_in shape (Line a b) p h = (ap not p, h.some, omega (arith, h.factor), omega (arith, h.offset))
fact_in shape (Loop a b) p h = (ap not p, h.some, omega (arith, h.factor), omega (arith, h.offset))
fact_in shape (Old r) p h = (both_true (is_handler shape.kind) (not shape.plain) (ap is_handler h.0) (ap not p), h.1)
fact_in shape OldFlags p h = both_true (is_handler shape.kind) (not shape.plain) (ap is_handler h) (ap not p)

pub fact_out : (shape : Shape) (f : Fact) → FactIn (bytes_forms shape) f → FactFits shape.kind f
fact_out shape Any h = tt
fact_out shape (Between e) h = h.0
fact_out shape (Line a b) h = record { some = h.1; factor = omega (arith, h.2); offset = omega (arith, h.3) }
fact_out shape (Loop a b) h = record { some = h.1; factor = omega (arith, h.2); offset = omega (arith, h.3) }
fact_out shape (Old r) h = (handler_is shape.kind (and_true (is_handler shape.kind) (not shape.plain) h.0).0, h.1)
fact_out shape OldFlags h = handler_is shape.kind (and_true (is_handler shape.kind) (not shape.plain) h).0

-- the forms of a cell of a point
abbrev pub point_cell : FactForms
point_cell = record { low = 0; limit = 256; top = 255; sloped = true; old = false }

pub cell_form_is : (shape : Shape) (c : Cell) → shape.plain ≡ false → cell_form shape c ≡ point_cell
cell_form_is shape c p =
    ap (λ t. cond {A = FactForms} t (record {
      low = c.range.lo;
      limit = c.range.hi + 1;
      top = 255;
      sloped = false;
      old =
          false;
    }) point_cell) p

cell_in : (f : Fact) → CellFactFits f → FactIn point_cell f
cell_in Any h = (refl, lit< tt)
cell_in (Between e) h = (h, omega arith, omega (arith, h.range.high))
cell_in (Line a b) h = (refl, h.some, omega (arith, h.factor), omega (arith, h.offset))
cell_in (Loop a b) h = (refl, h.some, omega (arith, h.factor), omega (arith, h.offset))
cell_in (Old r) h = absurd h
cell_in OldFlags h = absurd h

cell_out : (f : Fact) → FactIn point_cell f → CellFactFits f
cell_out Any h = tt
cell_out (Between e) h = h.0
cell_out (Line a b) h = record { some = h.1; factor = omega (arith, h.2); offset = omega (arith, h.3) }
cell_out (Loop a b) h = record { some = h.1; factor = omega (arith, h.2); offset = omega (arith, h.3) }
cell_out (Old r) h = true_not false h.0 refl
cell_out OldFlags h = true_not false h refl

numbered_length : (kind : Kind) (i : ℕ) (cs : List Cell) → length (numbered_cells kind i cs) ≡ length (filter (λ c. tracks kind c.owner) cs)
numbered_length kind i [] = refl
numbered_length kind i (c ∷ cs) = grind (arith, numbered_length kind (suc i) cs)

pub cells_in : (shape : Shape) (cells : List Cell) (fs : List Fact) → shape.plain ≡ false → length fs ≡ length
    (filter (λ c. tracks shape.kind c.owner) cells)
    → All CellFactFits fs → Each (λ p x. FactIn (cell_form shape p.1) x) (numbered_cells shape.kind 0 cells) fs
cells_in shape cells fs p e h =
    each_other (λ k x. CellFactFits x) (λ q x. FactIn (cell_form shape q.1) x) (numbered_cells shape.kind 0 cells) fs
    (λ q x i. subst (λ (f : FactForms). FactIn f x) (sym (cell_form_is shape q.1 p)) (cell_in x i))
    (each_of_all CellFactFits (numbered_cells shape.kind 0 cells) fs (e ∙ sym (numbered_length shape.kind 0 cells)) h)

pub cells_out : (shape : Shape) (cells : List Cell) (fs : List Fact) → shape.plain ≡ false
    → Each (λ p x. FactIn (cell_form shape p.1) x) (numbered_cells shape.kind 0 cells) fs
    → (length fs ≡ length (filter (λ c. tracks shape.kind c.owner) cells)) × All CellFactFits fs
cells_out shape cells fs p h = (
  each_length (λ q x. FactIn (cell_form shape q.1) x) (numbered_cells shape.kind 0 cells) fs h ∙ numbered_length shape.kind 0 cells,
  all_of_each CellFactFits (numbered_cells shape.kind 0 cells) fs
      (each_other (λ q x. FactIn (cell_form shape q.1) x) (λ k x. CellFactFits x) (numbered_cells shape.kind 0 cells) fs
      (λ q x i. cell_out x (subst (λ (f : FactForms). FactIn f x) (cell_form_is shape q.1 p) i)) h),
)

-- ranges of entries

pub range_in : (f : FactForms) (e : Ends) → f.top ≡ 255 → RangeFits 255 e → f.low ≤ e.lo → e.hi < f.limit → FactIn f (range_fact e)
range_in f e t h l k = grind (arith, nat_tests, part_from e h)

-- what a fact without slopes and old values says as a range
pub record SaysRange (f : FactForms) (x : Fact) : Type 0 where
  pub back : range_fact (span_of_fact x) ≡ x
  pub fits : RangeFits 255 (span_of_fact x)
  pub low : f.low ≤ (span_of_fact x).lo
  pub high : (span_of_fact x).hi < f.limit

pub says_range : (f : FactForms) (x : Fact) → f.top ≡ 255 → f.sloped ≡ false → f.old ≡ false → FactIn f x → SaysRange f x
says_range f Any t s o h = grind arith
says_range f (Between e) t s o h =
    let back = else_so (eqb e.lo 0 && eqb e.hi 255) Any (Between e) (part_not_whole 255 e h.0) in
    record { back = back; fits = h.0.range; low = h.1; high = h.2 }
says_range f (Line a b) t s o h = absurd (true_not f.sloped h.0 s)
says_range f (Loop a b) t s o h = absurd (true_not f.sloped h.0 s)
says_range f (Old r) t s o h = absurd (true_not f.old h.0 o)
says_range f OldFlags t s o h = absurd (true_not f.old h o)

pub span_back : (e : Ends) → span_of_fact (range_fact e) ≡ e
span_back e = grind (arith, nat_tests, whole_ends e)

-- ranges of cells in entries

abbrev pub entry_cell : Cell → FactForms
entry_cell c = record { low = c.range.lo; limit = c.range.hi + 1; top = 255; sloped = false; old = false }

pub entry_form_is : (shape : Shape) (c : Cell) → shape.plain ≡ true → cell_form shape c ≡ entry_cell c
entry_form_is shape c p = ap (λ t. cond {A = FactForms} t (entry_cell c) point_cell) p

pub spans_in : (kind : Kind) (i : ℕ) (cs : List Cell) (spans : List Ends) → All (RangeFits 255) spans
    → spans_fit (filter (λ c. tracks kind c.owner) cs) spans ≡ true
    → Each (λ p x. FactIn (entry_cell p.1) x) (numbered_cells kind i cs) (map range_fact spans)
spans_in kind i [] [] h e = tt
spans_in kind i [] (s ∷ spans) h e = absurd cc
spans_in kind i (c ∷ cs) spans h e = by_own (tracks kind c.owner) e (λ ss g f. spans_in kind (suc i) cs ss g f)
  where
    by_own : (t : Bool) → spans_fit (cond t (c ∷ filter (λ c. tracks kind c.owner) cs) (filter (λ c. tracks kind c.owner) cs)) spans ≡ true
        → ((ss : List Ends) → All (RangeFits 255) ss → spans_fit (filter (λ c. tracks kind c.owner) cs) ss ≡ true
        → Each (λ p x. FactIn (entry_cell p.1) x) (numbered_cells kind (suc i) cs) (map range_fact ss))
        → Each (λ p x. FactIn (entry_cell p.1) x) (cond t ((i, c) ∷ numbered_cells kind (suc i) cs) (numbered_cells kind (suc i) cs))
        (map range_fact spans)
    by_own false e later = later spans h e
    by_own true e later = by_spans spans h e
      where
        by_spans : (ss : List Ends) → All (RangeFits 255) ss → spans_fit (c ∷ filter (λ c. tracks kind c.owner) cs) ss ≡ true
            → Each (λ p x. FactIn (entry_cell p.1) x) ((i, c) ∷ numbered_cells kind (suc i) cs) (map range_fact ss)
        by_spans [] h e = absurd cc
        by_spans (s ∷ ss) h e =
            let two = and_true (is_within s c.range) (spans_fit (filter (λ c. tracks kind c.owner) cs) ss) e in
            let inside = and_true (leb c.range.lo s.lo) (leb s.hi c.range.hi) two.0 in (
              range_in (entry_cell c) s refl (All-head (RangeFits 255) s ss h) (le_is c.range.lo s.lo inside.0)
                  (omega (arith, le_is s.hi c.range.hi inside.1)),
              later ss (All-tail (RangeFits 255) s ss h) two.1,
            )

pub spans_out : (kind : Kind) (i : ℕ) (cs : List Cell) (fs : List Fact) → Each (λ p x. FactIn (entry_cell p.1) x) (numbered_cells kind i cs)
    fs
    → All (RangeFits 255) (map span_of_fact fs) × (spans_fit (filter (λ c. tracks kind c.owner) cs) (map span_of_fact fs) ≡ true)
    × (map range_fact (map span_of_fact fs) ≡ fs)
spans_out kind i [] [] h = (All-nil (RangeFits 255), refl, refl)
spans_out kind i [] (f ∷ fs) h = absurd h
spans_out kind i (c ∷ cs) fs h = by_own (tracks kind c.owner) fs h (λ gs g. spans_out kind (suc i) cs gs g)
  where
    by_own : (t : Bool) (gs : List Fact) → Each (λ p x. FactIn (entry_cell p.1) x) (cond t ((i, c) ∷ numbered_cells kind (suc i) cs)
        (numbered_cells kind (suc i) cs)) gs
        → ((gs : List Fact) → Each (λ p x. FactIn (entry_cell p.1) x) (numbered_cells kind (suc i) cs) gs
        → All (RangeFits 255) (map span_of_fact gs) × (spans_fit (filter (λ c. tracks kind c.owner) cs) (map span_of_fact gs) ≡ true)
        × (map range_fact (map span_of_fact gs) ≡ gs))
        → All (RangeFits 255) (map span_of_fact gs)
        × (spans_fit (cond t (c ∷ filter (λ c. tracks kind c.owner) cs) (filter (λ c. tracks kind c.owner) cs)) (map span_of_fact gs)
        ≡ true)
        × (map range_fact (map span_of_fact gs) ≡ gs)
    by_own false gs h later = later gs h
    by_own true [] h later = absurd h
    by_own true (g ∷ gs) h later =
        let one = says_range (entry_cell c) g refl refl refl h.0 in
        let rest = later gs h.1 in
        let high : (span_of_fact g).hi < c.range.hi + 1 = one.high in (
          All-cons (RangeFits 255) (span_of_fact g) (map span_of_fact gs) one.fits rest.0,
          grind (arith, nat_tests, one.low, high, rest.1),
          ap (λ (x : Fact). x ∷ map range_fact (map span_of_fact gs)) one.back ∙ ap (λ (xs : List Fact). g ∷ xs) rest.2,
        )

-- numbers that are 0 in main

pub under_none : (kind : Kind) (limit n : ℕ) → (kind ≡ Main → n ≡ 0) → n < limit → n < none_in_main kind limit
under_none Main limit n z b = omega (arith, z refl)
under_none Handler limit n z b = b
under_none Alone limit n z b = b

pub none_under : (kind : Kind) (limit n : ℕ) → 1 ≤ limit → n < none_in_main kind limit → (n < limit) × (kind ≡ Main → n ≡ 0)
none_under Main limit n l b = (omega arith, λ e. omega arith)
none_under Handler limit n l b = (b, λ e. absurd cc)
none_under Alone limit n l b = (b, λ e. absurd cc)

pub none_small : (kind : Kind) (limit : ℕ) → limit ≤ 2 ^ 31 → none_in_main kind limit ≤ 2 ^ 31
none_small Main limit h = lit≤ tt
none_small Handler limit h = h
none_small Alone limit h = h

-- so many lines and counts stay within what is left

pub box_under : (left l0 l1 c0 c1 : ℕ) → c0 ≤ c1 → (l1 - l0 + 1) * (c1 - c0 + 1) ≤ left → c1 < c0 + left / (l1 - l0 + 1)
box_under left l0 l1 c0 c1 o h =
    let counts : c1 - c0 + 1 ≤ left / (l1 - l0 + 1) = le-div (c1 - c0 + 1) left (l1 - l0 + 1) (omega arith)
    (turned (l1 - l0 + 1) (c1 - c0 + 1) left h) in
    omega arith
  where
    turned : (a b n : ℕ) → a * b ≤ n → b * a ≤ n
    turned a b n h = subst (λ m. m ≤ n) (mul_comm a b) h

pub under_box : (left l0 l1 c0 c1 : ℕ) → c0 ≤ c1 → c1 < c0 + left / (l1 - l0 + 1) → (l1 - l0 + 1) * (c1 - c0 + 1) ≤ left
under_box left l0 l1 c0 c1 o h =
    subst (λ m. m ≤ left) (mul_comm (c1 - c0 + 1) (l1 - l0 + 1)) (by_test (leb ((c1 - c0 + 1) * (l1 - l0 + 1)) left) refl)
  where
    by_test : (t : Bool) → leb ((c1 - c0 + 1) * (l1 - l0 + 1)) left ≡ t → (c1 - c0 + 1) * (l1 - l0 + 1) ≤ left
    by_test true e = le_is ((c1 - c0 + 1) * (l1 - l0 + 1)) left e
    by_test false e =
        let less : left / (l1 - l0 + 1) < c1 - c0 + 1 = div_below left (l1 - l0 + 1) (c1 - c0 + 1) (omega arith)
        (not_le ((c1 - c0 + 1) * (l1 - l0 + 1)) left e) in
        absurd (omega arith)
