-- Held buttons: what was latched stays.
use Rattle.std.proofs.Common.{◌≡◌, ℕ, zero, suc, ◌+◌, ◌-◌, ◌<◌, ◌≤◌, Bool, true, false, if◌then◌else◌, List, ◌∷◌, ◌++◌, length, min}
use Rattle.std.proofs.Common.{take, replicate, nat_le, refl, sym, ◌∙◌, ap, subst, arith, length-append}
use Rattle.std.specs.Prelude.{slice_index_or, Some, None}
use Rattle.std.proofs.Math.ListN.{get_or-append}
use Rattle.std.proofs.lemmas.Bool.Decides.{nat_tests}
use Rattle.std.proofs.lemmas.List.{get_or-take, length-map, length-replicate, length-take, map-append}
use Rattle.std.proofs.lemmas.List as lists
use Rattle.uz_core.specs.PadLine.{PadHistory, latches}
use Rattle.uz_pads.specs.declared.pads.Pad.{Pad}
use Rattle.uz_pads.specs.declared.pads.Pads.{Pads}
use Rattle.uz_pads.specs.Pads.{StandsFor, StateStandsFor, pairs_of, list_of, pad_state_of, latched_pad, no_pad, held_list, holding, pads_left}

same_pairs : (times : ℕ) (pad : Pad) → pairs_of (replicate times pad) ≡ replicate times (pad.one, pad.two)
same_pairs zero pad = refl
same_pairs (suc n) pad = ap (λ (pairs : List (ℕ × ℕ)). (pad.one, pad.two) ∷ pairs) (same_pairs n pad)

count_of : (list : List Pad) → length (pairs_of list) ≡ length list
count_of list = length-map list (λ (pad : Pad). (pad.one, pad.two))

size_of : (n times : ℕ) (pad : Pad) (list : List Pad) → n ≤ length list → length (take n list ++ replicate times pad) ≡ n + times
size_of n times pad list h =
    let both = length-append (take n list) (replicate times pad) in
    let first = length-take n list in
    let rest = length-replicate times pad in
    omega (arith, both, first, rest)

first_min : (n len more : ℕ) → len ≡ n + more → n ≡ min n len
first_min n len more h = grind (arith, nat_tests)

within_min : (n next len : ℕ) → next ≡ min n len → n ≤ len → next ≡ n
within_min n next len h l = grind (arith, nat_tests)

is_some : (n len : ℕ) → n ≤ len → nat_le n len ≡ true
is_some n len h = grind (arith, nat_tests)

one_or_more : (n : ℕ) → nat_le 1 n ≡ true → 1 ≤ n
one_or_more n h = grind (arith, nat_tests)

-- the pair of latch n stands in the first n pairs
same_latched : (n times : ℕ) (pad : Pad) (list : List Pad) → n ≤ length list →
    latched_pad n list ≡ latched_pad n (take n list ++ replicate times pad)
same_latched n times pad list h = by_test (nat_le 1 n) refl
  where
    held : List Pad
    held = take n list ++ replicate times pad

    chosen : (b : Bool) → nat_le 1 n ≡ b →
        (if b then (if nat_le n (length list) then Some (slice_index_or list (n - 1) no_pad) else None) else None) ≡
        (if b then (if nat_le n (length held) then Some (slice_index_or held (n - 1) no_pad) else None) else None)
    chosen false e = refl
    chosen true e =
        let some = one_or_more n e in
        let size = size_of n times pad list h in
        let first = length-take n list in
        let within : n - 1 < length (take n list) = omega arith in
        let before : n - 1 < n = omega arith in
        let fits : n ≤ length held = omega arith in
        ap (λ b. if b then Some (slice_index_or list (n - 1) no_pad) else None) (is_some n (length list) h ∙ sym (is_some n (length held) fits))
        ∙ ap (λ x. if nat_le n (length held) then Some x else None)
        (sym (get_or-append (take n list) (replicate times pad) no_pad (n - 1) within ∙ get_or-take n list (n - 1) no_pad before))

    by_test : (b : Bool) → nat_le 1 n ≡ b → latched_pad n list ≡ latched_pad n held
    by_test b e =
        ap (λ c. if c then (if nat_le n (length list) then Some (slice_index_or list (n - 1) no_pad) else None) else None) e
        ∙ (chosen b e
        ∙ ap (λ c. if c then (if nat_le n (length held) then Some (slice_index_or held (n - 1) no_pad) else None) else None) (sym e))

held_stands : (p : Pads) (pad : Pad) (times : ℕ) (history : PadHistory) → StandsFor p history
    → latches history.levels ≤ length history.pairs →
    StateStandsFor (take (latches history.levels) (list_of p) ++ replicate times pad) (pad_state_of p) (holding pad times history)
held_stands p pad times history h l =
    let n = latches history.levels in
    let list = list_of p in
    let count = ap (λ (pairs : List (ℕ × ℕ)). length pairs) h.pairs ∙ count_of list in
    let few : n ≤ length list = omega arith in
    let next = within_min n p.next (length list) h.next few in
    record {
      pairs = ap (λ pairs. take n pairs ++ replicate times (pad.one, pad.two)) h.pairs ∙
          (ap (λ pairs. pairs ++ replicate times (pad.one, pad.two)) (lists.take-map (λ (pad : Pad). (pad.one, pad.two)) n list) ∙
          (ap (λ pairs. pairs_of (take n list) ++ pairs) (sym (same_pairs times pad)) ∙
          sym (map-append (λ (pad : Pad). (pad.one, pad.two)) (take n list) (replicate times pad))));
      begun = h.begun;
      level = h.level;
      next = next ∙ first_min n (length (take n list ++ replicate times pad)) times (size_of n times pad list few);
      current = h.current ∙ same_latched n times pad list few;
      moves = h.moves;
    }

pub holds : (p q : Pads) (pad : Pad) (times : ℕ) → list_of q ≡ held_list pad times p → pad_state_of q ≡ pad_state_of p →
    (history : PadHistory) → StandsFor p history → latches history.levels ≤ length history.pairs → StandsFor q (holding pad times history)
holds p q pad times list state history h l =
    let count = ap (λ (pairs : List (ℕ × ℕ)). length pairs) h.pairs ∙ count_of (list_of p) in
    let few : latches history.levels ≤ length (list_of p) = omega arith in
    let next : p.next ≡ latches history.levels = within_min (latches history.levels) p.next (length (list_of p)) h.next few in
    subst (λ l. StateStandsFor l (pad_state_of q) (holding pad times history)) (sym list)
    (subst (λ s. StateStandsFor (held_list pad times p) s (holding pad times history)) (sym state)
    (subst (λ n. StateStandsFor (take n (list_of p) ++ replicate times pad) (pad_state_of p) (holding pad times history)) (sym next)
    (held_stands p pad times history h l)))

below_len : (n next len : ℕ) → next ≡ min n len → 0 < len - next → n < len
below_len n next len h l = grind (arith, nat_tests)

pub is_within : (p : Pads) (history : PadHistory) → StandsFor p history → 0 < pads_left p → latches history.levels < length history.pairs
is_within p history h l =
    let count = ap (λ (pairs : List (ℕ × ℕ)). length pairs) h.pairs ∙ count_of (list_of p) in
    let below = below_len (latches history.levels) p.next (length (list_of p)) h.next l in
    omega (arith, count, below)
