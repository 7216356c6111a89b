-- The cells that a kind tracks: in a list with their ranges, and by their addresses.
use Rattle.uz_check.proofs.Common.{◌≡◌, ◌⊎◌, inl, inr, Contains, ℕ, zero, suc, ◌-◌, ◌<◌, ◌≤◌, Bool, true, false, cond, List, [], ◌∷◌}
use Rattle.uz_check.proofs.Common.{filter, refl, sym, ◌∙◌, ap, subst, arith, Some, None, nat_eq, slice_index, if◌then◌else◌, eqb_tells}
use Rattle.uz_check.proofs.Common.{Ends, Kind, Main, Handler, Owner, MainOwner, HandlerOwner, Cell, Head, kind_tracks, tracked, PadHistory}
use Rattle.uz_check.proofs.Common.{State, IsWithin, span_at, CellsHold, HeaderHolds, cell_place, cell_range, IsIn, AllHold, pushed}
use Rattle.uz_rules.specs.MemoryMeets.{HeadFits}
use Rattle.uz_transfer.specs.Kinds.{tracks, place_from, range_from}
use Rattle.uz_check.proofs.Fits.{HeadLimits, SpansFit}
use Rattle.uz_check.proofs.Ram.{pushed_off}

-- the tracked cells of a list, by whom each is written
abbrev pub kept_by : Kind → List Cell → List Cell
kept_by kind cells = filter (λ c. tracks kind c.owner) cells

owners : (kind : Kind) (test : Owner → Bool) → ((o : Owner) → tracks kind o ≡ test o) → (cells : List Cell) → kept_by kind cells ≡ filter
    (λ c. test c.owner) cells
owners kind test same [] = refl
owners kind test same (c ∷ cells) =
    ap (λ b. cond b (c ∷ kept_by kind cells) (kept_by kind cells)) (same c.owner)
    ∙ ap (λ xs. cond (test c.owner) (c ∷ xs) xs) (owners kind test same cells)

same_owners : (kind : Kind) (o : Owner) → tracks kind o ≡ kind_tracks kind o
same_owners Main MainOwner = refl
same_owners Handler MainOwner = refl
same_owners kind o = refl

pub tracked_is : (head : Head) (kind : Kind) → tracked head kind ≡ kept_by kind head.cells.items
tracked_is head kind = sym (owners kind (kind_tracks kind) (same_owners kind) head.cells.items)

within_is : (e : Ends) (v : ℕ) → IsIn e v → IsWithin v e
within_is e v h = record { above = h.0; below = h.1 }

-- each tracked cell is in its range, by place
by_place : (kind : Kind) (cells : List Cell) (spans : List Ends) (bytes : List ℕ) (n at j : ℕ) → SpansFit (kept_by kind cells) spans
    → AllHold (kept_by kind cells) spans bytes
    → place_from kind cells n at ≡ Some j → (n ≤ j) × IsWithin (slice_index bytes at) (span_at spans (j - n))
by_place kind [] spans bytes n at j fit h e = absurd cc
by_place kind (c ∷ cells) spans bytes n at j fit h e =
    place_by (nat_eq c.at at) (tracks kind c.owner) refl (λ xs m. by_place kind cells xs bytes m at j) spans fit h e
  where
    place_by : (t k : Bool) → nat_eq c.at at ≡ t
        → ((xs : List Ends) (m : ℕ) → SpansFit (kept_by kind cells) xs → AllHold (kept_by kind cells) xs bytes → place_from kind cells m
        at ≡ Some j → (m ≤ j) × IsWithin (slice_index bytes at) (span_at xs (j - m)))
        → (xs : List Ends) → SpansFit (cond k (c ∷ kept_by kind cells) (kept_by kind cells)) xs
        → AllHold (cond k (c ∷ kept_by kind cells) (kept_by kind cells)) xs bytes
        → (if t then (if k then Some n else None) else place_from kind cells (if k then suc n else n) at) ≡ Some j → (n ≤ j)
        × IsWithin (slice_index bytes at) (span_at xs (j - n))
    place_by t true p later [] fit h e = absurd fit
    place_by true true p later (r ∷ xs) fit h e =
        let i : n ≡ j = cc in
        let a : c.at ≡ at = elim (eqb_tells c.at at) [ inl x ↦ x.1 | inr x ↦ absurd (let q : true ≡ false = sym p ∙ x.0 in cc) ] in
        let z : j - n ≡ 0 = omega (arith, i) in (
          omega (arith, i),
          subst (λ m. IsWithin (slice_index bytes at) (span_at (r ∷ xs) m)) (sym z)
              (subst (λ b. IsWithin (slice_index bytes b) r) a (within_is r (slice_index bytes c.at) h.0)),
        )
    place_by false true p later (r ∷ xs) fit h e =
        let more = later xs (suc n) fit.2 h.1 e in
        let z : suc (j - suc n) ≡ j - n = omega (arith, more.0) in
        (omega (arith, more.0), subst (λ m. IsWithin (slice_index bytes at) (span_at (r ∷ xs) m)) z more.1)
    place_by true false p later xs fit h e = absurd cc
    place_by false false p later xs fit h e = later xs n fit h e

pub cells_by_place : (head : Head) (kind : Kind) (spans : List Ends) (bytes : List ℕ) → SpansFit (tracked head kind) spans
    → AllHold (tracked head kind) spans bytes → CellsHold head kind spans bytes
cells_by_place head kind spans bytes fit h at j e =
    let z : j - 0 ≡ j = omega arith in
    let fits = subst (λ xs. SpansFit xs spans) (tracked_is head kind) fit in
    let holds = subst (λ xs. AllHold xs spans bytes) (tracked_is head kind) h in
    subst (λ m. IsWithin (slice_index bytes at) (span_at spans m)) z (by_place kind head.cells.items spans bytes 0 at j fits holds e).1

-- and in its own range
own_range : (kind : Kind) (cells : List Cell) (spans : List Ends) (bytes : List ℕ) (at : ℕ) (e : Ends) → SpansFit (kept_by kind cells) spans
    → AllHold (kept_by kind cells) spans bytes
    → (c : Cell) → Contains cells c → tracks kind c.owner ≡ true → IsWithin (slice_index bytes c.at) c.range
own_range kind [] spans bytes at e fit h d (i, below, is) k = absurd (omega (arith, below))
own_range kind (c ∷ cells) spans bytes at e fit h d (zero, below, is) k =
    let same : c ≡ d = is in
    first_by spans (tracks kind c.owner) (ap (λ (x : Cell). tracks kind x.owner) same ∙ k) fit h
  where
    first_by : (xs : List Ends) (t : Bool) → t ≡ true → SpansFit (cond t (c ∷ kept_by kind cells) (kept_by kind cells)) xs
        → AllHold (cond t (c ∷ kept_by kind cells) (kept_by kind cells)) xs bytes → IsWithin (slice_index bytes d.at) d.range
    first_by xs false q fit h = absurd cc
    first_by [] true q fit h = absurd fit
    first_by (r ∷ xs) true q fit h =
        let same : c ≡ d = is in
        subst (λ (x : Cell). IsWithin (slice_index bytes x.at) x.range) same
        (record { above = omega (arith, fit.0, h.0.0); below = omega (arith, fit.1, h.0.1) })
own_range kind (c ∷ cells) spans bytes at e fit h d (suc i, below, is) k =
    rest_by (λ xs fit h. own_range kind cells xs bytes at e fit h d (i, omega (arith, below), is) k) spans (tracks kind c.owner) fit h
  where
    rest_by : ((xs : List Ends) → SpansFit (kept_by kind cells) xs → AllHold (kept_by kind cells) xs bytes
        → IsWithin (slice_index bytes d.at) d.range) → (xs : List Ends) (t : Bool)
        → SpansFit (cond t (c ∷ kept_by kind cells) (kept_by kind cells)) xs
        → AllHold (cond t (c ∷ kept_by kind cells) (kept_by kind cells)) xs bytes → IsWithin (slice_index bytes d.at) d.range
    rest_by later [] true fit h = absurd fit
    rest_by later (r ∷ xs) true fit h = later xs fit.2 h.1
    rest_by later xs false fit h = later xs fit h

-- the cell at an address
pub record CellAt (cells : List Cell) (at : ℕ) (e : Ends) : Type 0 where
  pub cell : Cell
  pub has : Contains cells cell
  pub at_is : cell.at ≡ at
  pub range : cell.range ≡ e

pub cell_at : (cells : List Cell) (at : ℕ) (e : Ends) → range_from cells at ≡ Some e → CellAt cells at e
cell_at [] at e h = absurd cc
cell_at (c ∷ cells) at e h = at_by (nat_eq c.at at) refl (cell_at cells at e) h
  where
    at_by : (t : Bool) → nat_eq c.at at ≡ t → (range_from cells at ≡ Some e → CellAt cells at e)
        → (if t then Some c.range else range_from cells at) ≡ Some e → CellAt (c ∷ cells) at e
    at_by true p later q =
        let a : c.at ≡ at = elim (eqb_tells c.at at) [ inl x ↦ x.1 | inr x ↦ absurd (let q : true ≡ false = sym p ∙ x.0 in cc) ] in
        record { cell = c; has = (zero, omega arith, refl); at_is = a; range = cc }
    at_by false p later q =
        let r = later q in
        record { cell = r.cell; has = (suc r.has.0, omega (arith, r.has.1), r.has.2); at_is = r.at_is; range = r.range }

-- every cell is in its own range where those of a kind that tracks it hold
pub in_own_range : (head : Head) (kind : Kind) (spans : List Ends) (bytes : List ℕ) → SpansFit (tracked head kind) spans
    → AllHold (tracked head kind) spans bytes
    → (c : Cell) → Contains head.cells.items c → tracks kind c.owner ≡ true → IsWithin (slice_index bytes c.at) c.range
in_own_range head kind spans bytes fit h c has k =
    let fits = subst (λ xs. SpansFit xs spans) (tracked_is head kind) fit in
    let holds = subst (λ xs. AllHold xs spans bytes) (tracked_is head kind) h in
    own_range kind head.cells.items spans bytes c.at c.range fits holds c has k

pub head_holds : (head : Head) (bytes : List ℕ) → ((c : Cell) → Contains head.cells.items c → IsWithin (slice_index bytes c.at) c.range)
    → HeaderHolds head bytes
head_holds head bytes h at e is =
    let c = cell_at head.cells.items at e is in
    subst (λ a. IsWithin (slice_index bytes a) e) c.at_is (subst (λ r. IsWithin (slice_index bytes c.cell.at) r) c.range (h c.cell c.has))

-- A cell that one kind tracks is in the header, and the other kind doesn't track it

pub record OtherTracks (head : Head) (kind : Kind) (at : ℕ) : Type 0 where
  pub range : Ends
  pub there : cell_range head at ≡ Some range
  pub none : cell_place head kind at ≡ None

not_both : (a b : Kind) → ((o : Owner) → tracks a o ≡ true → tracks b o ≡ false) → (cells : List Cell) (n m at j : ℕ) → place_from a cells n
    at ≡ Some j → (e : Ends) × (range_from cells at ≡ Some e) × (place_from b cells m at ≡ None)
not_both a b apart [] n m at j e = absurd cc
not_both a b apart (c ∷ cells) n m at j e = not_by (nat_eq c.at at) (tracks a c.owner) refl refl (λ i k. not_both a b apart cells i k at j)
    e
  where
    not_by : (t k : Bool) → nat_eq c.at at ≡ t → tracks a c.owner ≡ k → ((i k : ℕ) → place_from a cells i at ≡ Some j → (e : Ends)
        × (range_from cells at ≡ Some e) × (place_from b cells k at ≡ None))
        → (if t then (if k then Some n else None) else place_from a cells (if k then suc n else n) at) ≡ Some j → (e : Ends)
        × (range_from (c ∷ cells) at ≡ Some e) × (place_from b (c ∷ cells) m at ≡ None)
    not_by true true p q later e = (c.range, rw p refl, rw (p, apart c.owner q) refl)
    not_by true false p q later e = absurd cc
    not_by false k p q later e =
        let r = later (cond k (suc n) n) (cond (tracks b c.owner) (suc m) m) e in
        (r.0, rw p r.1, rw p r.2)

mains_apart : (o : Owner) → tracks Main o ≡ true → tracks Handler o ≡ false
mains_apart MainOwner e = refl
mains_apart HandlerOwner e = absurd cc

handlers_apart : (o : Owner) → tracks Handler o ≡ true → tracks Main o ≡ false
handlers_apart MainOwner e = absurd cc
handlers_apart HandlerOwner e = refl

pub mains_alone : (head : Head) (at j : ℕ) → cell_place head Main at ≡ Some j → OtherTracks head Handler at
mains_alone head at j e = let r = not_both Main Handler mains_apart head.cells.items 0 0 at j e in
    record { range = r.0; there = r.1; none = r.2 }

pub handlers_alone : (head : Head) (at j : ℕ) → cell_place head Handler at ≡ Some j → OtherTracks head Main at
handlers_alone head at j e = let r = not_both Handler Main handlers_apart head.cells.items 0 0 at j e in
    record { range = r.0; there = r.1; none = r.2 }

pub main_or_handler : (o : Owner) → (tracks Main o ≡ true) ⊎ (tracks Handler o ≡ true)
main_or_handler MainOwner = inl refl
main_or_handler HandlerOwner = inr refl

-- an entry's pushes leave what lies off the stack
pub off_pushed : (s : State PadHistory) (bottom top a : ℕ) → bottom < s.core.sp → s.core.sp ≤ top → (a < bottom) ⊎ (top < a)
    → slice_index (pushed s) a ≡ slice_index s.space.bytes a
off_pushed s bottom top a low high off =
    elim off [
      | inl l ↦ pushed_off s a (λ e. omega (arith, e, l, low)) (λ e. omega (arith, e, l, low))
      | inr r ↦ pushed_off s a (λ e. omega (arith, e, r, high)) (λ e. omega (arith, e, r, high))
    ]

pub cells_same : (head : Head) (kind : Kind) (spans : List Ends) (old new : List ℕ) → ((at j : ℕ) → cell_place head kind at ≡ Some j
    → slice_index new at ≡ slice_index old at) → CellsHold head kind spans old → CellsHold head kind spans new
cells_same head kind spans old new same h at j e = subst (λ v. IsWithin v (span_at spans j)) (sym (same at j e)) (h at j e)

-- the header's limits, by addresses
pub head_fits : (head : Head) → HeadLimits head → HeadFits head
head_fits head h = record {
  low = h.low;
  high = h.high;
  room = omega (arith, h.order, h.room);
  cells_ram = λ a e is.
      let c = cell_at head.cells.items a e is in
      let ram = h.ram c.cell c.has in
      (omega (arith, c.at_is, ram.0), omega (arith, c.at_is, ram.1));
  cells_off = λ a e is.
      let c = cell_at head.cells.items a e is in
      subst (λ b. (b < head.lo) ⊎ (head.hi < b)) c.at_is (h.off c.cell c.has);
}

-- A tracked cell is one of the header

later : (x : Cell) (xs : List Cell) (c : Cell) → Contains xs c → Contains (x ∷ xs) c
later x xs c has = (suc has.0, omega (arith, has.1), has.2)

filtered_cons : (x : Cell) (xs ys : List Cell) (c : Cell) (b : Bool) → ((d : Cell) → Contains ys d → Contains xs d)
    → Contains (cond b (x ∷ ys) ys) c → Contains (x ∷ xs) c
filtered_cons x xs ys c true h (zero, below, is) = (zero, omega arith, is)
filtered_cons x xs ys c true h (suc i, below, is) = later x xs c (h c (i, omega (arith, below), is))
filtered_cons x xs ys c false h has = later x xs c (h c has)

pub filtered : (p : Cell → Bool) (xs : List Cell) (c : Cell) → Contains (filter p xs) c → Contains xs c
filtered p [] c has = has
filtered p (x ∷ xs) c has = filtered_cons x xs (filter p xs) c (p x) (filtered p xs) has

pub tracked_there : (head : Head) (kind : Kind) (c : Cell) → Contains (tracked head kind) c → Contains head.cells.items c
tracked_there head kind c has = filtered (λ c. kind_tracks kind c.owner) head.cells.items c has
