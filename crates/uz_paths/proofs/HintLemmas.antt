-- What hints that aren't at fault give of cells and facts, and one more register of a start.
use Rattle.std.proofs.Common.{◌≡◌, ◌∙◌, sym, ap, refl, arith, ℕ, zero, suc, ◌+◌, ◌<◌, ◌≤◌, Bool, true, false, List, [], ◌∷◌, ◌++◌, length}
use Rattle.std.proofs.Common.{take, drop, get_or, add-one, cond}
use Rattle.std.specs.Prelude.{Option, Some, None, slice_get, nat_lt, IfSome, ◌==◌, ◌&&◌}
use Rattle.std.proofs.Math.Seq.{take-suc, drop-cons}
use Rattle.std.proofs.lemmas.List.Edits.{length-insert}
use Rattle.std.specs.Ordering.{nat_cmp}
use Rattle.std.specs.FinMap.{FinMap}
use Rattle.std.proofs.lemmas.Bool.Decides.{nat_tests}
use Rattle.std.proofs.lemmas.Option.{slice_get_within, slice_get-get_or}
use Rattle.avr_asm.specs.declared.output.Hint.{Hint}
use Rattle.avr_asm.specs.declared.output.Hint.TheVariants.{Cell, Fact}
use Rattle.uz_schedule.specs.declared.kinds.Response.{Response}
use Rattle.uz_paths.specs.declared.words.PlaceRange.{PlaceRange}
use Rattle.uz_paths.specs.declared.cells.Tracked.{Tracked}
use Rattle.uz_paths.specs.Words.{range_at, or_later, first_fact, cell_hint, cell_count}
use Rattle.uz_paths.specs.Cells.{owner_of, place_in, with_hint, with_cells, HasRoom}
use Rattle.uz_paths.specs.Faults.{IsFine, FineBefore, CellFine, CellPart, CellsFine, FactPart, FactsFine}
use Rattle.uz_paths.specs.Reading.{byte_range, ranges_from}

cell_part : (image : FinMap nat_cmp ℕ) (irq : Response) (hints : List Hint) (i : ℕ) (h : Hint) → IsFine image irq hints i h → CellPart hints
    i h
cell_part image irq hints i (Cell at owner lo hi first) f = f
cell_part image irq hints i other f = tt

pub cells_fine : (image : FinMap nat_cmp ℕ) (irq : Response) (hints : List Hint) → FineBefore image irq hints (length hints)
    → CellsFine hints
cells_fine image irq hints fine i h there = cell_part image irq hints i h (fine i h (slice_get_within hints i h there) there)

fact_part : (image : FinMap nat_cmp ℕ) (irq : Response) (hints : List Hint) (i : ℕ) (h : Hint) → IsFine image irq hints i h → FactPart h
fact_part image irq hints i (Fact at place lo hi) f = (f.order, f.there, f.byte)
fact_part image irq hints i other f = tt

pub facts_fine : (image : FinMap nat_cmp ℕ) (irq : Response) (hints : List Hint) → FineBefore image irq hints (length hints)
    → FactsFine hints
facts_fine image irq hints fine i h there = fact_part image irq hints i h (fine i h (slice_get_within hints i h there) there)

-- The range that a fine fact gives a register

abbrev pub InBytes : PlaceRange → Type 0
InBytes r = (r.lo ≤ r.hi) × (r.hi ≤ 255)

range_fits : (pc place : ℕ) (h : Hint) → place < 32 → FactPart h → IfSome (range_at pc place h) InBytes
range_fits pc place (Fact at of lo hi) register f = by_test (of == place) (λ e. let same : of ≡ place = grind (arith, nat_tests, e) in
    f.2 (omega arith)) (at == pc)
  where
    by_test : (same : Bool) → (same ≡ true → hi ≤ 255) → (here : Bool) → IfSome (cond (here && same) (Some (record { lo = lo; hi = hi }))
        None) InBytes
    by_test true bound true = (f.0, bound refl)
    by_test true bound false = tt
    by_test false bound true = tt
    by_test false bound false = tt
range_fits pc place other register f = tt

later_fits : (a b : Option PlaceRange) → IfSome a InBytes → IfSome b InBytes → IfSome (or_later a b) InBytes
later_fits None b h k = k
later_fits (Some r) b h k = h

pub first_fits : (pc place : ℕ) (hints : List Hint) → place < 32 → FactsFine hints → IfSome (first_fact pc place hints) InBytes
first_fits pc place [] register fine = tt
first_fits pc place (h ∷ hints) register fine =
    later_fits (range_at pc place h) (first_fact pc place hints) (range_fits pc place h register (fine 0 h refl))
    (first_fits pc place hints register (λ i g there. fine (suc i) g there))

-- One more register

pub ranges_more : (hints : List Hint) (pc k n : ℕ) → ranges_from hints pc k (n + 1) ≡ ranges_from hints pc k n
    ++ byte_range (first_fact pc (k + n) hints) ∷ []
ranges_more hints pc k zero =
    let same : k + 0 ≡ k = omega arith in
    ap (λ i. byte_range (first_fact pc i hints) ∷ []) (sym same)
ranges_more hints pc k (suc n) =
    let next : suc n + 1 ≡ suc (suc n) = omega arith in
    let less : n + 1 ≡ suc n = omega arith in
    let same : suc k + n ≡ k + suc n = omega arith in
    ap (ranges_from hints pc k) next
    ∙ (ap (λ xs. byte_range (first_fact pc k hints) ∷ xs) (ap (ranges_from hints pc (suc k)) (sym less) ∙ ranges_more hints pc (suc k) n)
    ∙ ap (λ i. byte_range (first_fact pc k hints) ∷ (ranges_from hints pc (suc k) n ++ byte_range (first_fact pc i hints) ∷ [])) same)

-- Cells

place_within : (at : ℕ) (ts : List Tracked) → place_in at ts ≤ length ts
place_within at [] = omega arith
place_within at (t ∷ ts) = by_test (nat_lt at t.cell.at) (place_within at ts)
  where
    by_test : (b : Bool) → place_in at ts ≤ length ts → cond b 0 (suc (place_in at ts)) ≤ suc (length ts)
    by_test true h = omega arith
    by_test false h = omega arith

-- there is room for a cell that isn't the 17th
pub room : (hints : List Hint) (ts : List Tracked) (i : ℕ) (h : Hint) → CellsFine hints → slice_get hints i ≡ Some h
    → length ts ≡ cell_count (take i hints) → HasRoom ts h
room hints ts i (Cell at owner lo hi first) fine there count =
    let f : CellFine hints i at owner lo hi first = fine i (Cell at owner lo hi first) there in
    let few : cell_count (take i hints) < 16 = f.place.few in
    (omega arith, f.range.order)
room hints ts i other fine there count = tt

with_one : (ts : List Tracked) (h : Hint) → length (with_hint ts h) ≡ length ts + cell_count (h ∷ [])
with_one ts (Cell at owner lo hi first) = length-insert ts (place_in at ts)
    (record { cell = record { at = at; owner = owner_of owner; range = record { lo = lo; hi = hi } }; first = first }) (place_within at ts)
with_one ts other = omega arith

count_append : (a b : List Hint) → cell_count (a ++ b) ≡ cell_count a + cell_count b
count_append [] b = omega arith
count_append (h ∷ a) b = by_test (cell_hint h) (count_append a b)
  where
    by_test : (t : Bool) → cell_count (a ++ b) ≡ cell_count a + cell_count b → cond t (suc (cell_count (a ++ b))) (cell_count (a ++ b))
        ≡ cond t (suc (cell_count a)) (cell_count a) + cell_count b
    by_test true e = omega arith
    by_test false e = e

pub count_more : (hints : List Hint) (ts : List Tracked) (i : ℕ) (d : Hint) → i < length hints → length ts ≡ cell_count (take i hints)
    → length (with_hint ts (get_or hints i d)) ≡ cell_count (take (i + 1) hints)
count_more hints ts i d within count =
    let more : take (i + 1) hints ≡ take i hints ++ get_or hints i d ∷ [] = rw add-one (take-suc hints i d within) in
    let both : cell_count (take (i + 1) hints) ≡ cell_count (take i hints) + cell_count (get_or hints i d ∷ []) = ap cell_count more
    ∙ count_append (take i hints) (get_or hints i d ∷ []) in
    let one : length (with_hint ts (get_or hints i d)) ≡ length ts + cell_count (get_or hints i d ∷ []) = with_one ts (get_or hints i d) in
    omega arith

pub left_more : (hints : List Hint) (ts : List Tracked) (i : ℕ) (d : Hint) → i < length hints → with_cells (with_hint ts (get_or hints i d))
    (drop (i + 1) hints) ≡ with_cells ts (drop i hints)
left_more hints ts i d within =
    let less : drop i hints ≡ get_or hints i d ∷ drop (i + 1) hints = rw add-one (drop-cons hints i d within) in
    sym (ap (with_cells ts) less)

pub room_at : (hints : List Hint) (ts : List Tracked) (i : ℕ) (d : Hint) → CellsFine hints → i < length hints → length ts ≡ cell_count
    (take i hints) → HasRoom ts (get_or hints i d)
room_at hints ts i d fine within count = room hints ts i (get_or hints i d) fine (slice_get-get_or hints i d within) count
