-- The cells of hints that aren't at fault: addresses rise, each cell is within its limits, and each first value in its range.
use Rattle.std.proofs.Common.{◌≡◌, ◌≢◌, refl, arith, ℕ, suc, ◌+◌, ◌≤◌, Bool, true, false, List, [], ◌∷◌, map, drop, cond, subst}
use Rattle.std.specs.Prelude.{Some, slice_get, ⊤, insert, nat_lt, nat_le, ◌==◌, ◌&&◌, ◌||◌}
use Rattle.std.specs.List.{AllByRecursion}
use Rattle.std.proofs.lemmas.Bool.Decides.{nat_tests}
use Rattle.std.proofs.lemmas.Bool.{and_parts, or_parts}
use Rattle.avr_asm.specs.declared.output.Hint.{Hint}
use Rattle.avr_asm.specs.declared.output.Hint.TheVariants.{Cell}
use Rattle.uz_schedule.specs.Limits.{rises_from}
use Rattle.uz_schedule.specs.declared.kinds.Kind.{Kind}
use Rattle.uz_paths.specs.declared.cells.Tracked.{Tracked}
use Rattle.uz_paths.specs.Words.{has_cell}
use Rattle.uz_paths.specs.Cells.{owner_of, place_in, with_cell, with_hint, with_cells}

-- One more cell

pub each_inserted : (P : Tracked → Type 0) (t : Tracked) (ts : List Tracked) → P t → AllByRecursion P ts → AllByRecursion P (with_cell t ts)
each_inserted P t [] p q = (p, tt)
each_inserted P t (u ∷ us) p q = by_test (nat_lt t.cell.at u.cell.at) (each_inserted P t us p q.1)
  where
    by_test : (b : Bool) → AllByRecursion P (with_cell t us) → AllByRecursion P (insert (u ∷ us) (cond b 0 (suc (place_in t.cell.at us))) t)
    by_test true r = (p, q)
    by_test false r = (q.0, r)

abbrev pub addresses : List Tracked → List ℕ
addresses ts = map (λ u. u.cell.at) ts

pub rises_inserted : (least : ℕ) (t : Tracked) (ts : List Tracked) → rises_from least (addresses ts) ≡ true → least ≤ t.cell.at
    → AllByRecursion (λ u. u.cell.at ≢ t.cell.at) ts → rises_from least (addresses (with_cell t ts)) ≡ true
rises_inserted least t [] rises low apart = rises_one least t.cell.at low
  where
    rises_one : (a b : ℕ) → a ≤ b → (nat_le a b && true) ≡ true
    rises_one a b h = grind (arith, nat_tests)
rises_inserted least t (u ∷ us) rises low apart = by_test (nat_lt t.cell.at u.cell.at) refl
    (λ above. rises_inserted (u.cell.at + 1) t us (and_parts (nat_le least u.cell.at) (rises_from (u.cell.at + 1) (addresses us)) rises).1 above
    apart.1)
  where
    parts : (nat_le least u.cell.at ≡ true) × (rises_from (u.cell.at + 1) (addresses us) ≡ true)
    parts = and_parts (nat_le least u.cell.at) (rises_from (u.cell.at + 1) (addresses us)) rises

    joined : (a b c d : Bool) → a ≡ true → b ≡ true → (a && b) ≡ true
    joined a b c d e f = rw (e, f) refl

    first_low : nat_le least t.cell.at ≡ true
    first_low = grind (arith, nat_tests)

    by_test : (b : Bool) → nat_lt t.cell.at u.cell.at ≡ b
        → (u.cell.at + 1 ≤ t.cell.at → rises_from (u.cell.at + 1) (addresses (with_cell t us)) ≡ true)
        → rises_from least (addresses (insert (u ∷ us) (cond b 0 (suc (place_in t.cell.at us))) t)) ≡ true
    by_test true e later =
        let next : nat_le (t.cell.at + 1) u.cell.at ≡ true = grind (arith, nat_tests, e) in
        rw (first_low, next) parts.1
    by_test false e later =
        let above : u.cell.at + 1 ≤ t.cell.at = grind (arith, nat_tests, e, apart.0) in
        rw parts.0 (later above)

-- All cells

pub each_map : {X : Type 0} (P Q : X → Type 0) → ((x : X) → P x → Q x) → (xs : List X) → AllByRecursion P xs → AllByRecursion Q xs
each_map P Q f [] h = tt
each_map P Q f (x ∷ xs) h = (f x h.0, each_map P Q f xs h.1)

pub each_there : {X : Type 0} (Q : X → Type 0) (xs : List X) → ((i : ℕ) (x : X) → slice_get xs i ≡ Some x → Q x) → AllByRecursion Q xs
each_there Q [] h = tt
each_there Q (x ∷ xs) h = (h 0 x refl, each_there Q xs (λ i y there. h (suc i) y there))

abbrev pub tracked_cell : ℕ → Kind → ℕ → ℕ → ℕ → Tracked
tracked_cell at owner lo hi first = record {
  cell = record { at = at; owner = owner_of owner; range = record { lo = lo; hi = hi } };
  first = first;
}

-- what is asked of the cell that a hint is
abbrev pub OfCell : (Tracked → Type 0) → Hint → Type 0
OfCell P (Cell at owner lo hi first) = P (tracked_cell at owner lo hi first)
OfCell P other = ⊤

each_with : (P : Tracked → Type 0) (h : Hint) (ts : List Tracked) → OfCell P h → AllByRecursion P ts → AllByRecursion P (with_hint ts h)
each_with P (Cell at owner lo hi first) ts p q = each_inserted P (tracked_cell at owner lo hi first) ts p q
each_with P other ts p q = q

pub each_cell : (P : Tracked → Type 0) (hints : List Hint) (ts : List Tracked) → AllByRecursion (OfCell P) hints → AllByRecursion P ts
    → AllByRecursion P (with_cells ts hints)
each_cell P [] ts p q = q
each_cell P (h ∷ hints) ts p q = each_cell P hints (with_hint ts h) p.1 (each_with P h ts p.0 q)

-- no later cell has the address of the cell that a hint is
abbrev pub LoneHead : Hint → List Hint → Type 0
LoneHead (Cell at owner lo hi first) hints = has_cell at hints ≡ false
LoneHead other hints = ⊤

abbrev pub Lone : List Hint → Type 0
Lone [] = ⊤
Lone (h ∷ hints) = LoneHead h hints × Lone hints

pub lone : (hints : List Hint) → ((i : ℕ) (h : Hint) → slice_get hints i ≡ Some h → LoneHead h (drop (i + 1) hints)) → Lone hints
lone [] f = tt
lone (h ∷ hints) f = (
  f 0 h refl,
  lone hints (λ i g there.
      let next : suc i + 1 ≡ suc (i + 1) = omega arith in
      subst (λ n. LoneHead g (drop n (h ∷ hints))) next (f (suc i) g there)),
)

-- none of the cells that were put comes again
abbrev Free : List Tracked → List Hint → Type 0
Free ts hints = AllByRecursion (λ u. has_cell u.cell.at hints ≡ false) ts

rises_with : (h : Hint) (hints : List Hint) (ts : List Tracked) → LoneHead h hints → Free ts (h ∷ hints)
    → rises_from 0 (addresses ts) ≡ true → rises_from 0 (addresses (with_hint ts h)) ≡ true × Free (with_hint ts h) hints
rises_with (Cell at owner lo hi first) hints ts l f r = (
  rises_inserted 0 (tracked_cell at owner lo hi first) ts r (omega arith) (each_map _ _ (apart) ts f),
  each_inserted (λ u. has_cell u.cell.at hints ≡ false) (tracked_cell at owner lo hi first) ts l
      (each_map _ _ (λ u h. (or_parts (at == u.cell.at) (has_cell u.cell.at hints) h).1) ts f),
)
  where
    apart : (u : Tracked) → ((at == u.cell.at) || has_cell u.cell.at hints) ≡ false → u.cell.at ≢ at
    apart u h = let e : (at == u.cell.at) ≡ false = (or_parts (at == u.cell.at) (has_cell u.cell.at hints) h).0 in
        grind (arith, nat_tests, e)
rises_with other hints ts l f r = (r, f)

pub rises_all : (hints : List Hint) (ts : List Tracked) → Lone hints → Free ts hints → rises_from 0 (addresses ts) ≡ true
    → rises_from 0 (addresses (with_cells ts hints)) ≡ true
rises_all [] ts l f r = r
rises_all (h ∷ hints) ts l f r =
    rises_all hints (with_hint ts h) l.1 (rises_with h hints ts l.0 f r).1 (rises_with h hints ts l.0 f r).0
