-- What is read of hints that aren't at fault is within the limits of a certificate's text.
use Rattle.std.proofs.Common.{◌≡◌, ◌∙◌, sym, ap, refl, arith, ℕ, zero, suc, ◌+◌, ◌<◌, ◌≤◌, Bool, true, false, List, [], ◌∷◌, map, length}
use Rattle.std.proofs.Common.{drop, cond, subst}
use Rattle.std.specs.Prelude.{IfSome, None, Option, Some, option_map, slice_get, ◌⊎◌, filter, All}
use Rattle.std.specs.List.{AllByRecursion}
use Rattle.std.specs.Ordering.{nat_cmp}
use Rattle.std.specs.FinMap.{FinMap}
use Rattle.std.proofs.lemmas.Bool.Decides.{nat_tests}
use Rattle.std.proofs.lemmas.List.Elements.{All-cons, All-nil}
use Rattle.std.proofs.lemmas.Option.{slice_get_within}
use Rattle.avr_asm.specs.declared.output.Hint.{Hint}
use Rattle.avr_asm.specs.declared.output.Hint.TheVariants.{Start, Lines, Stack, Cell}
use Rattle.uz_schedule.specs.Ends.{one_number, is_within}
use Rattle.uz_schedule.specs.Limits.{rises_from, rises}
use Rattle.uz_schedule.specs.Tracked.{tracks}
use Rattle.uz_schedule.specs.WellFormed.{RangeFits, CellFits, HeadFits, spans_fit}
use Rattle.uz_schedule.specs.declared.header.Head.{Head}
use Rattle.uz_schedule.specs.declared.kinds.Kind.{Kind}
use Rattle.uz_schedule.specs.declared.kinds.Kind.TheVariants.{Main, Handler, Alone}
use Rattle.uz_schedule.specs.declared.kinds.Response.{Response}
use Rattle.uz_paths.specs.declared.cells.Tracked.{Tracked}
use Rattle.uz_paths.specs.declared.words.Beginning.{Beginning}
use Rattle.uz_paths.specs.declared.words.FrameSize.{FrameSize}
use Rattle.uz_paths.specs.declared.words.PlaceRange.{PlaceRange}
use Rattle.uz_paths.specs.declared.words.StackRegion.{StackRegion}
use Rattle.uz_paths.specs.declared.reading.Reading.{Reading}
use Rattle.uz_paths.specs.Words.{first_fact, first_start, first_lines, first_stack}
use Rattle.uz_paths.specs.Cells.{owner_of, cells_of, first_values}
use Rattle.uz_paths.specs.Faults.{OffStack, StartFine, LinesFine, StackFine, IsFine, FineBefore, CellsFine, CellPart, FactsFine}
use Rattle.uz_paths.specs.Faults.{starts_main}
use Rattle.uz_paths.specs.Reading.{byte_range, ranges_from, IsHeader, IsReading, ReadingFits}
use Rattle.uz_paths.proofs.HintLemmas.{InBytes, cells_fine, facts_fine, first_fits}
use Rattle.uz_paths.proofs.CellLemmas.{addresses, each_there, each_cell, OfCell, LoneHead, lone, rises_all}

-- Where a first hint stands

start_there : (hints : List Hint) (b : Beginning) → first_start hints ≡ Some b → (i : ℕ) × (slice_get hints i ≡ Some (Start b.kind b.pc))
start_there [] b e = absurd (cc)
start_there (Start kind at ∷ hints) b e = (0, ap (λ o. option_map (λ s. Start s.kind s.pc) o) e)
start_there (other ∷ hints) b e = (suc (start_there hints b e).0, (start_there hints b e).1)

lines_there : (hints : List Hint) (f : FrameSize) → first_lines hints ≡ Some f → (i : ℕ) × (slice_get hints i ≡ Some (Lines f.lines f.fall))
lines_there [] f e = absurd (cc)
lines_there (Lines lines fall ∷ hints) f e = (0, ap (λ o. option_map (λ s. Lines s.lines s.fall) o) e)
lines_there (other ∷ hints) f e = (suc (lines_there hints f e).0, (lines_there hints f e).1)

stack_there : (hints : List Hint) (s : StackRegion) → first_stack hints ≡ Some s → (i : ℕ)
    × (slice_get hints i ≡ Some (Stack s.lo s.hi s.main s.handler))
stack_there [] s e = absurd (cc)
stack_there (Stack lo hi main handler ∷ hints) s e = (0, ap (λ o. option_map (λ r. Stack r.lo r.hi r.main r.handler) o) e)
stack_there (other ∷ hints) s e = (suc (stack_there hints s e).0, (stack_there hints s e).1)

-- Cells

-- what holds of each cell of the hints
pub record CellHolds (head : Head) (t : Tracked) : Type 0 where
  pub fits : CellFits head t.cell
  pub within : tracks Handler t.cell.owner ≡ true → (t.cell.range.lo ≤ t.first) × (t.first ≤ t.cell.range.hi)

off_head : (head : Head) (hints : List Hint) (at : ℕ) → first_stack hints ≡ Some
    (record { lo = head.lo; hi = head.hi; main = head.main; handler = head.handler }) → OffStack at (first_stack hints) → (at < head.lo)
    ⊎ (head.hi < at)
off_head head hints at e off = subst (OffStack at) e off

handlers : (owner : Kind) → tracks Handler (owner_of owner) ≡ true → owner ≡ Handler
handlers Main e = absurd (cc)
handlers Handler e = refl
handlers Alone e = absurd (cc)

cell_holds : (head : Head) (hints : List Hint) (i : ℕ) (h : Hint) → first_stack hints ≡ Some
    (record { lo = head.lo; hi = head.hi; main = head.main; handler = head.handler }) → CellPart hints i h → OfCell (CellHolds head) h
cell_holds head hints i (Cell at owner lo hi first) e p = record {
  fits = record {
    low = p.place.low;
    high = p.place.high;
    off_stack = off_head head hints at e p.place.off_stack;
    range = record { order = p.range.order; high = p.range.byte };
  };
  within = λ own. p.range.within (handlers owner own);
}
cell_holds head hints i other e p = tt

lone_part : (hints : List Hint) (i : ℕ) (h : Hint) → CellPart hints i h → LoneHead h (drop (i + 1) hints)
lone_part hints i (Cell at owner lo hi first) p = p.place.apart_after
lone_part hints i other p = tt

cells_hold : (head : Head) (hints : List Hint) → first_stack hints ≡ Some
    (record { lo = head.lo; hi = head.hi; main = head.main; handler = head.handler }) → CellsFine hints → AllByRecursion (CellHolds head)
    (cells_of hints)
cells_hold head hints e fine = each_cell (CellHolds head) hints []
    (each_there (OfCell (CellHolds head)) hints (λ i h there. cell_holds head hints i h e (fine i h there))) tt

cells_rise : (hints : List Hint) → CellsFine hints → rises_from 0 (addresses (cells_of hints)) ≡ true
cells_rise hints fine = rises_all hints [] (lone hints (λ i h there. lone_part hints i h (fine i h there))) tt refl

all_cells : (head : Head) (ts : List Tracked) → AllByRecursion (CellHolds head) ts → All (CellFits head) (map (λ t. t.cell) ts)
all_cells head [] h = All-nil (CellFits head)
all_cells head (t ∷ ts) h = All-cons (CellFits head) t.cell (map (λ u. u.cell) ts) h.0.fits (all_cells head ts h.1)

same_addresses : (ts : List Tracked) → map (λ c. c.at) (map (λ t. t.cell) ts) ≡ addresses ts
same_addresses [] = refl
same_addresses (t ∷ ts) = ap (λ xs. t.cell.at ∷ xs) (same_addresses ts)

all_firsts : (head : Head) (ts : List Tracked) → AllByRecursion (CellHolds head) ts → All (RangeFits 255) (first_values ts)
all_firsts head [] h = All-nil (RangeFits 255)
all_firsts head (t ∷ ts) h = by_test (tracks Handler t.cell.owner) refl (all_firsts head ts h.1)
  where
    by_test : (b : Bool) → tracks Handler t.cell.owner ≡ b → All (RangeFits 255) (first_values ts)
        → All (RangeFits 255) (map (λ u. one_number u.first) (cond b (t ∷ filter (λ u. tracks Handler u.cell.owner) ts)
        (filter (λ u. tracks Handler u.cell.owner) ts)))
    by_test true e later =
        let top = (h.0.within e).1 in
        let byte = h.0.fits.range.high in
        All-cons (RangeFits 255) (one_number t.first) (first_values ts) (record { order = omega arith; high = omega (arith, top, byte) })
        later
    by_test false e later = later

firsts_within : (head : Head) (ts : List Tracked) → AllByRecursion (CellHolds head) ts
    → spans_fit (filter (λ c. tracks Handler c.owner) (map (λ t. t.cell) ts)) (first_values ts) ≡ true
firsts_within head [] h = refl
firsts_within head (t ∷ ts) h = by_test (tracks Handler t.cell.owner) refl (firsts_within head ts h.1)
  where
    inside : tracks Handler t.cell.owner ≡ true → is_within (one_number t.first) t.cell.range ≡ true
    inside e = let w = h.0.within e in grind (arith, nat_tests, w)

    by_test : (b : Bool) → tracks Handler t.cell.owner ≡ b → spans_fit (filter (λ c. tracks Handler c.owner) (map (λ u. u.cell) ts))
        (first_values ts) ≡ true
        → spans_fit (cond b (t.cell ∷ filter (λ c. tracks Handler c.owner) (map (λ u. u.cell) ts))
        (filter (λ c. tracks Handler c.owner) (map (λ u. u.cell) ts)))
        (map (λ u. one_number u.first) (cond b (t ∷ filter (λ u. tracks Handler u.cell.owner) ts)
        (filter (λ u. tracks Handler u.cell.owner) ts))) ≡ true
    by_test true e later = rw (inside e) later
    by_test false e later = later

-- All that is read

fine_at : (image : FinMap nat_cmp ℕ) (irq : Response) (hints : List Hint) → FineBefore image irq hints (length hints) → (i : ℕ) (h : Hint)
    → slice_get hints i ≡ Some h → IsFine image irq hints i h
fine_at image irq hints fine i h there = fine i h (slice_get_within hints i h there) there

head_fits : (image : FinMap nat_cmp ℕ) (irq : Response) (hints : List Hint) (head : Head) → FineBefore image irq hints (length hints)
    → IsHeader irq hints head → length head.cells.items ≤ 16 → HeadFits head
head_fits image irq hints head fine is few =
    let there = stack_there hints (record { lo = head.lo; hi = head.hi; main = head.main; handler = head.handler }) is.stack in
    let f : StackFine hints there.0 head.lo head.hi head.main head.handler = fine_at image irq hints fine there.0
    (Stack head.lo head.hi head.main head.handler) there.1 in
    let hold : AllByRecursion (CellHolds head) (cells_of hints) = cells_hold head hints is.stack (cells_fine image irq hints fine) in
    record {
      stack = record { low = f.low; order = f.order; high = f.high; main = f.main_few; handler = f.handler_few; room = f.room };
      few = few;
      cells = subst (All (CellFits head)) (sym is.cells) (all_cells head (cells_of hints) hold);
      rise = ap (λ cs. rises (map (λ c. c.at) cs)) is.cells ∙ (ap (rises_from 0) (same_addresses (cells_of hints)) ∙ cells_rise hints
          (cells_fine image irq hints fine));
    }

-- the registers at a start

count_ranges : (hints : List Hint) (pc k n : ℕ) → length (ranges_from hints pc k n) ≡ n
count_ranges hints pc k zero = refl
count_ranges hints pc k (suc n) = ap suc (count_ranges hints pc (suc k) n)

byte_fits : (o : Option PlaceRange) → IfSome o InBytes → RangeFits 255 (byte_range o)
byte_fits None h = record { order = omega arith; high = omega arith }
byte_fits (Some r) h = record { order = h.0; high = h.1 }

ranges_fit : (hints : List Hint) (pc k n : ℕ) → FactsFine hints → k + n ≤ 32 → All (RangeFits 255) (ranges_from hints pc k n)
ranges_fit hints pc k zero fine few = All-nil (RangeFits 255)
ranges_fit hints pc k (suc n) fine few =
    All-cons (RangeFits 255) (byte_range (first_fact pc k hints)) (ranges_from hints pc (suc k) n)
    (byte_fits (first_fact pc k hints) (first_fits pc k hints (omega arith) fine)) (ranges_fit hints pc (suc k) n fine (omega arith))

pub reading_fits : (image : FinMap nat_cmp ℕ) (irq : Response) (hints : List Hint) (r : Reading) → IsReading image irq hints r
    → length r.head.cells.items ≤ 16 → ReadingFits r
reading_fits image irq hints r is few =
    let s = start_there hints r.start is.start in
    let start : StartFine image hints s.0 r.start.kind r.start.pc = fine_at image irq hints is.fine s.0 (Start r.start.kind r.start.pc)
    s.1 in
    let l = lines_there hints r.size is.size in
    let size : LinesFine irq hints l.0 r.size.lines r.size.fall = fine_at image irq hints is.fine l.0 (Lines r.size.lines r.size.fall)
    l.1 in
    let hold : AllByRecursion (CellHolds r.head) (cells_of hints) = cells_hold r.head hints is.head.stack
    (cells_fine image irq hints is.fine) in
    record {
      head = head_fits image irq hints r.head is.fine is.head few;
      some = size.some;
      few = size.few;
      fall_some = size.fall_some;
      fall_in_line = size.fall_in_line;
      above = λ main. rw is.head.response (size.above (ap starts_main is.start ∙ main));
      enters = start.enters;
      pc = start.reads.within;
      register_count = ap length is.registers ∙ count_ranges hints r.start.pc 0 32;
      registers = subst (All (RangeFits 255)) (sym is.registers) (ranges_fit hints r.start.pc 0 32 (facts_fine image irq hints is.fine)
          (omega arith));
      firsts = record {
        ranges = subst (All (RangeFits 255)) (sym is.firsts) (all_firsts r.head (cells_of hints) hold);
        within = ap (λ cs. spans_fit (filter (λ c. tracks Handler c.owner) cs) r.firsts.items) is.head.cells
            ∙ (ap (spans_fit (filter (λ c. tracks Handler c.owner) (map (λ t. t.cell) (cells_of hints)))) is.firsts ∙ firsts_within r.head
            (cells_of hints) hold);
      };
    }
