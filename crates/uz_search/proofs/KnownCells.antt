-- A store to a tracked cell stays in the header's range of the cell.
use Rattle.uz_search.proofs.Common.{◌≡◌, ℕ, suc, ◌≤◌, ◌-◌, ◌⊎◌, List, [], ◌∷◌, Option, Some, None, Bool, true, false, ◌&&◌, ◌||◌, nat_eq}
use Rattle.uz_search.proofs.Common.{nat_le, nat_lt, refl, sym, ap, ◌∙◌, subst, inl, inr, ⊎_elim, slice_set, if◌then◌else◌, true≢false}
use Rattle.uz_search.proofs.Common.{arith, All, nat_tests, All-head, All-tail, Ends, is_within, tracked, HeadFits, spans_fit, Val, Head}
use Rattle.uz_search.proofs.Common.{Kind, Main, Handler, Alone, is_single, cell_place, cell_range, may_store, range_inside, span_of}
use Rattle.uz_search.proofs.Common.{and_parts, same_Some}
use Rattle.std.proofs.Common.{filter}
use Rattle.uz_schedule.specs.Tracked.{tracks as tracks_cell}
use Rattle.uz_schedule.specs.WellFormed.{CellFits}
use Rattle.uz_transfer.specs.Kinds.{tracks, place_from, range_from, misses}
use Rattle.uz_transfer.specs.Refusals.{cell_admits}
use Rattle.uz_schedule.specs.declared.header.Cell.{Cell}
use Rattle.uz_schedule.specs.declared.kinds.Owner.{Owner}
use Rattle.uz_schedule.specs.declared.kinds.Owner.TheVariants.{Main as MainOwner, Handler as HandlerOwner}

-- both definitions of what a kind tracks
same_tracks : (kind : Kind) (owner : Owner) → tracks kind owner ≡ tracks_cell kind owner
same_tracks Main MainOwner = refl
same_tracks Main HandlerOwner = refl
same_tracks Handler MainOwner = refl
same_tracks Handler HandlerOwner = refl
same_tracks Alone owner = refl

-- the tracked cells among these, of which n came before, keep their ranges where the cell at an address takes a range in its own
abbrev Keeps : List Cell → List Ends → ℕ → ℕ → Ends → Type 0
Keeps tracked_cells spans n j v = (n ≤ j) × (spans_fit tracked_cells (slice_set spans (j - n) v) ≡ true)

first_set : (c : Cell) (rest : List Cell) (spans : List Ends) (n j : ℕ) (v : Ends) → n ≡ j → range_inside v c.range ≡ true
    → spans_fit (c ∷ rest) spans ≡ true → Keeps (c ∷ rest) spans n j v
first_set c rest [] n j v same inside fit = absurd (true≢false (sym fit))
first_set c rest (s ∷ spans) n j v same inside fit =
    let zero_is : j - n ≡ 0 = omega (arith, same) in
    let later = (and_parts (is_within s c.range) (spans_fit rest spans) fit).1 in
    (omega (arith, same), ap (λ m. spans_fit (c ∷ rest) (slice_set (s ∷ spans) m v)) zero_is ∙ (λ i. inside i && later i))

later_set : (c : Cell) (rest : List Cell) (spans : List Ends) (n j : ℕ) (v : Ends) → spans_fit (c ∷ rest) spans ≡ true
    → ((ss : List Ends) → spans_fit rest ss ≡ true → Keeps rest ss (suc n) j v) → Keeps (c ∷ rest) spans n j v
later_set c rest [] n j v fit more = absurd (true≢false (sym fit))
later_set c rest (s ∷ spans) n j v fit more =
    let b = and_parts (is_within s c.range) (spans_fit rest spans) fit in
    let r = more spans b.1 in
    let le = r.0 in
    let next : j - n ≡ suc (j - suc n) = omega (arith, le) in
    let first = b.0 in
    let after = r.1 in
    (omega (arith, le), ap (λ m. spans_fit (c ∷ rest) (slice_set (s ∷ spans) m v)) next ∙ (λ i. first i && after i))

-- one cell before the others
one_set : (here mine : Bool) (c : Cell) (rest : List Cell) (spans : List Ends) (n j : ℕ) (e v : Ends) (place : ℕ → Option ℕ)
    (range : Option Ends)
    → (if here then (if mine then Some n else None) else place (if mine then suc n else n)) ≡ Some j
    → (if here then Some c.range else range) ≡ Some e → range_inside v e ≡ true
    → spans_fit (if mine then c ∷ rest else rest) spans ≡ true
    → ((m : ℕ) (ss : List Ends) → place m ≡ Some j → range ≡ Some e → spans_fit rest ss ≡ true → Keeps rest ss m j v)
    → Keeps (if mine then c ∷ rest else rest) spans n j v
one_set true true c rest spans n j e v place range at is inside fit more =
    first_set c rest spans n j v (same_Some n j at) (subst (λ z. range_inside v z ≡ true) (sym (same_Some c.range e is)) inside) fit
one_set true false c rest spans n j e v place range at is inside fit more = cc
one_set false true c rest spans n j e v place range at is inside fit more = later_set c rest spans n j v fit
    (λ ss fits. more (suc n) ss at is fits)
one_set false false c rest spans n j e v place range at is inside fit more = more n spans at is fit

pub cell_set : (kind : Kind) (cells : List Cell) (spans : List Ends) (n j at : ℕ) (e v : Ends)
    → place_from kind cells n at ≡ Some j → range_from cells at ≡ Some e → range_inside v e ≡ true
    → spans_fit (filter (λ c. tracks_cell kind c.owner) cells) spans ≡ true
    → Keeps (filter (λ c. tracks_cell kind c.owner) cells) spans n j v
cell_set kind [] spans n j at e v place range inside fit = cc
cell_set kind (c ∷ cells) spans n j at e v place range inside fit =
    one_set (nat_eq c.at at) (tracks_cell kind c.owner) c (filter (λ c. tracks_cell kind c.owner) cells) spans n j e v
    (λ m. place_from kind cells m at) (range_from cells at)
    (ap (λ b. if nat_eq c.at at then (if b then Some n else None) else place_from kind cells (if b then suc n else n) at)
    (sym (same_tracks kind c.owner)) ∙ place)
    range inside fit (λ m ss at' range' fits. cell_set kind cells ss m j at e v at' range' inside fits)

-- Where a store is allowed

-- the cell at an address is one of RAM
high_one : (here mine : Bool) (c : Cell) (n at j : ℕ) (place : ℕ → Option ℕ) → nat_eq c.at at ≡ here → 256 ≤ c.at
    → (if here then (if mine then Some n else None) else place (if mine then suc n else n)) ≡ Some j
    → ((m : ℕ) → place m ≡ Some j → 256 ≤ at) → 256 ≤ at
high_one true mine c n at j place is low h more = grind (arith, nat_tests)
high_one false mine c n at j place is low h more = more (if mine then suc n else n) h

place_high : (head : Head) (kind : Kind) (cells : List Cell) (n at j : ℕ) → All (CellFits head) cells → place_from kind cells n at ≡ Some j
    → 256 ≤ at
place_high head kind [] n at j fits h = cc
place_high head kind (c ∷ cells) n at j fits h =
    high_one (nat_eq c.at at) (tracks kind c.owner) c n at j (λ m. place_from kind cells m at) refl
    (All-head (CellFits head) c cells fits).low h
    (λ m later. place_high head kind cells m at j (All-tail (CellFits head) c cells fits) later)

-- no cell stands where a range misses all
missed_one : (here mine : Bool) (c : Cell) (n at j : ℕ) (a : Ends) (place : ℕ → Option ℕ) → nat_eq c.at at ≡ here → a.lo ≡ at → a.hi ≡ at
    → (nat_lt c.at a.lo || nat_lt a.hi c.at) ≡ true
    → (if here then (if mine then Some n else None) else place (if mine then suc n else n)) ≡ Some j → ((m : ℕ) → place m ≡ Some j → ⊥) → ⊥
missed_one true mine c n at j a place is low high apart h more = grind (arith, nat_tests)
missed_one false mine c n at j a place is low high apart h more = more (if mine then suc n else n) h

place_missed : (kind : Kind) (cells : List Cell) (n at j : ℕ) (a : Ends) → a.lo ≡ at → a.hi ≡ at → misses cells a ≡ true → place_from kind
    cells n at ≡ Some j → ⊥
place_missed kind [] n at j a low high missed h = cc
place_missed kind (c ∷ cells) n at j a low high missed h =
    let b = and_parts (nat_lt c.at a.lo || nat_lt a.hi c.at) (misses cells a) missed in
    missed_one (nat_eq c.at at) (tracks kind c.owner) c n at j a (λ m. place_from kind cells m at) refl low high b.0 h
    (λ m later. place_missed kind cells m at j a low high b.1 later)

-- a value that is admitted lies in the cell's range
record Admitted (range : Option Ends) (v : Ends) : Type 0 where
  own : Ends
  is : range ≡ Some own
  inside : range_inside v own ≡ true

admitted : (place : Option ℕ) (range : Option Ends) (v : Ends) → cell_admits place range v ≡ true → Admitted range v
admitted (Some j) (Some e) v h = record { own = e; is = refl; inside = h }
admitted (Some j) None v h = absurd (true≢false (sym h))
admitted None range v h = absurd (true≢false (sym h))

or_cases : (a b : Bool) → (a || b) ≡ true → (a ≡ true) ⊎ (b ≡ true)
or_cases true b h = inl refl
or_cases false b h = inr h

-- a store at one address, where it is allowed, keeps the cells in their ranges
pub store_keeps : (head : Head) (kind : Kind) (a : Ends) (v : Val) (spans : List Ends) (j : ℕ) → HeadFits head → is_single a ≡ true
    → may_store head kind a v ≡ true → cell_place head kind a.lo ≡ Some j
    → spans_fit (tracked head kind) spans ≡ true → spans_fit (tracked head kind) (slice_set spans j (span_of v)) ≡ true
store_keeps head kind a v spans j fits single may place fit = ⊎_elim
    (λ (io : (is_single a && (nat_le 0x20 a.lo && nat_le a.lo 0xFF)) ≡ true).
    let high = place_high head kind head.cells.items 0 a.lo j fits.cells place in
    let low = (and_parts (nat_le 0x20 a.lo) (nat_le a.lo 0xFF) (and_parts (is_single a) (nat_le 0x20 a.lo && nat_le a.lo 0xFF) io).1).1 in
    absurd (above a.lo high low))
    (λ rest. ⊎_elim
    (λ (cell : (is_single a && cell_admits (cell_place head kind a.lo) (cell_range head a.lo) (span_of v)) ≡ true).
    let ad = admitted (cell_place head kind a.lo) (cell_range head a.lo) (span_of v)
    (and_parts (is_single a) (cell_admits (cell_place head kind a.lo) (cell_range head a.lo) (span_of v)) cell).1 in
    let kept = cell_set kind head.cells.items spans 0 j a.lo ad.own (span_of v) place ad.is ad.inside fit in
    let same : j - 0 ≡ j = omega arith in
    subst (λ m. spans_fit (tracked head kind) (slice_set spans m (span_of v)) ≡ true) same kept.1)
    (λ (ram : ((nat_le 0x100 a.lo && nat_le a.hi 0x10FF) && ((nat_lt a.hi head.lo || nat_lt head.hi a.lo) && misses head.cells.items a))
    ≡ true).
    let missed = (and_parts (nat_lt a.hi head.lo || nat_lt head.hi a.lo) (misses head.cells.items a)
    (and_parts (nat_le 0x100 a.lo && nat_le a.hi 0x10FF) ((nat_lt a.hi head.lo || nat_lt head.hi a.lo) && misses head.cells.items a)
    ram).1).1 in
    let same : a.hi ≡ a.lo = single_is a.lo a.hi single in
    absurd (place_missed kind head.cells.items 0 a.lo j a refl same missed place))
    (or_cases (is_single a && cell_admits (cell_place head kind a.lo) (cell_range head a.lo) (span_of v))
    ((nat_le 0x100 a.lo && nat_le a.hi 0x10FF) && ((nat_lt a.hi head.lo || nat_lt head.hi a.lo) && misses head.cells.items a)) rest))
    (or_cases (is_single a && (nat_le 0x20 a.lo && nat_le a.lo 0xFF)) _ may)
  where
    above : (n : ℕ) → 256 ≤ n → nat_le n 0xFF ≡ true → ⊥
    above n high low = grind (arith, nat_tests)

    single_is : (lo hi : ℕ) → nat_eq lo hi ≡ true → hi ≡ lo
    single_is lo hi h = grind (arith, nat_tests)
