-- The pads keep what they stand for.
use Rattle.std.proofs.Common.{◌≡◌, ℕ, ◌+◌, ◌-◌, ◌*◌, Bool, true, false, not, ◌&&◌, if◌then◌else◌, List, [], ◌∷◌, length, min, map, nat_le}
use Rattle.std.proofs.Common.{nat_lt, refl, sym, ◌∙◌, ap, subst, arith}
use Rattle.std.specs.Prelude.{slice_index, slice_index_or, count_by, Option, Some, None}
use Rattle.std.proofs.lemmas.Bool.Decides.{nat_tests}
use Rattle.std.proofs.lemmas.List.{length-map}
use Rattle.std.proofs.lemmas.List.Sums.{sum_by-cons}
use Rattle.std.proofs.Math.ListN.{get_or-map}
use Rattle.uz_core.specs.Arithmetic.{bit_value, bit_is_set}
use Rattle.uz_core.specs.PadLine.{PadHistory, changes_of, changes_since_latch, is_fall, is_rise, latches, moves, pad_lines, with_level}
use Rattle.uz_pads.specs.declared.pads.Pad.{Pad}
use Rattle.uz_pads.specs.declared.pads.Pads.{Pads}
use Rattle.uz_pads.specs.declared.pads.PadState.{PadState}
use Rattle.uz_pads.specs.Pads.{StandsFor, StateStandsFor, pairs_of, list_of, with_pad_state, latched_pad, no_pad, pads_loaded, pads_after}
use Rattle.uz_pads.specs.Pads.{pads_lines, data_lines_of}

-- A latch by its parts

loaded_list : (b : Bool) (p : Pads) (current : Option Pad) → (if b then record p { current = current; next = p.next + 1 } else record p
    { current = None }).list ≡ p.list
loaded_list true p current = refl
loaded_list false p current = refl

loaded_next : (b : Bool) (p : Pads) (current : Option Pad) → (if b then record p { current = current; next = p.next + 1 } else record p
    { current = None }).next ≡ (if b then p.next + 1 else p.next)
loaded_next true p current = refl
loaded_next false p current = refl

loaded_current : (b : Bool) (p : Pads) (current : Option Pad) → (if b then record p { current = current; next = p.next + 1 } else record p
    { current = None }).current ≡ (if b then current else None)
loaded_current true p current = refl
loaded_current false p current = refl

next_more : (n len next : ℕ) → next ≡ min n len → (if nat_lt next len then next + 1 else next) ≡ min (1 + n) len
next_more n len next h = grind (arith, nat_tests)

some_or_none : {A : Type 0} (a b : Bool) (x y : A) → a ≡ b → (a ≡ true → x ≡ y) → (if a then Some x else None)
    ≡ (if b then Some y else None)
some_or_none true true x y e f = ap (λ z. Some z) (f refl)
some_or_none false false x y e f = refl
some_or_none true false x y e f = absurd cc
some_or_none false true x y e f = absurd cc

more_is_first : (n : ℕ) → nat_le 1 (1 + n) ≡ true
more_is_first n = grind (arith, nat_tests)

in_list : (n next len : ℕ) → next ≡ min n len → nat_lt next len ≡ nat_le (1 + n) len
in_list n next len h = grind (arith, nat_tests)

same_place : (n next len : ℕ) → next ≡ min n len → nat_lt next len ≡ true → next ≡ 1 + n - 1
same_place n next len h t = grind (arith, nat_tests)

current_more : (n next : ℕ) (list : List Pad) → next ≡ min n (length list) →
    (if nat_lt next (length list) then Some (slice_index_or list next no_pad) else None) ≡ latched_pad (1 + n) list
current_more n next list h =
    some_or_none (nat_lt next (length list)) (nat_le (1 + n) (length list)) _ _ (in_list n next (length list) h)
    (λ t. ap (λ x. slice_index_or list x no_pad) (same_place n next (length list) h t)) ∙
    ap (λ b. if b then (if nat_le (1 + n) (length list) then Some (slice_index_or list (1 + n - 1) no_pad) else None) else None)
    (sym (more_is_first n))

-- A value of PORTA by its parts: with a fall of bit 2 or none, and a rise of bit 3 or none

abbrev moves_after : Bool → ℕ → ℕ → ℕ
moves_after fall rise moves = if fall then rise else (if nat_lt moves 12 then moves + rise else moves)

abbrev after_by : Bool → ℕ → ℕ → Pads → Pads
after_by fall rise value p =
    if fall then record (pads_loaded p) { level = value; moves = rise } else record p {
      level = value;
      moves = if nat_lt p.moves 12 then
          p.moves + rise else p.moves;
    }

record Counts (p : Pads) (list : List Pad) (n : ℕ) : Type 0 where
  items : p.list ≡ list
  next : p.next ≡ min n (length list)
  current : p.current ≡ latched_pad n list

counts_after : (fall : Bool) (rise value n : ℕ) (p : Pads) → Counts p p.list n → Counts (after_by fall rise value p) p.list
    ((if fall then 1 else 0) + n)
counts_after true rise value n p h =
    let current = Some (slice_index_or p.list p.next no_pad) in
    let b = nat_lt p.next (length p.list) in
    record {
      items = loaded_list b p current;
      next = loaded_next b p current ∙ next_more n (length p.list) p.next h.next;
      current = loaded_current b p current ∙ current_more n p.next p.list h.next;
    }
counts_after false rise value n p h = let same : 0 + n ≡ n = omega arith in record {
  items = refl;
  next = h.next ∙ ap (λ x. min x (length p.list)) (sym same);
  current = h.current ∙ ap (λ x. latched_pad x p.list) (sym same);
}

level_after : (fall : Bool) (rise value : ℕ) (p : Pads) → (after_by fall rise value p).level ≡ value
level_after true rise value p = refl
level_after false rise value p = refl

moves_of_after : (fall : Bool) (rise value : ℕ) (p : Pads) → (after_by fall rise value p).moves ≡ moves_after fall rise p.moves
moves_of_after true rise value p = refl
moves_of_after false rise value p = refl

one_more : (r : Bool) (n k : ℕ) → k ≡ min n 12 → (if nat_lt k 12 then k + bit_value r else k) ≡ min ((if r then 1 else 0) + n) 12
one_more true n k h = grind (arith, nat_tests)
one_more false n k h = grind (arith, nat_tests)

first_one : (r : Bool) → bit_value r ≡ min (0 + (if r then 1 else 0)) 12
first_one true = refl
first_one false = refl

moves_more : (fall : Bool) (c : ℕ × ℕ) (cs : List (ℕ × ℕ)) (k : ℕ) → k ≡ min (count_by (is_rise 3) cs) 12 →
    moves_after fall (bit_value (is_rise 3 c)) k ≡ min (count_by (is_rise 3) (if fall then c ∷ [] else c ∷ cs)) 12
moves_more true c cs k h = first_one (is_rise 3 c)
moves_more false c cs k h = one_more (is_rise 3 c) (count_by (is_rise 3) cs) k h ∙ ap (λ x. min x 12)
    (sym (sum_by-cons (λ x. if is_rise 3 x then 1 else 0) c cs))

after_value : (p : Pads) (pairs : List (ℕ × ℕ)) (v value : ℕ) (older : List ℕ) → StandsFor p (record { pairs = pairs; levels = v ∷ older })
    →
    StandsFor (after_by (is_fall 2 (v, value)) (bit_value (is_rise 3 (v, value))) value p)
    (record { pairs = pairs; levels = value ∷ v ∷ older })
after_value p pairs v value older h =
    let fall = is_fall 2 (v, value) in
    let rise = bit_value (is_rise 3 (v, value)) in
    let q : Pads = after_by fall rise value p in
    let counted : latches (value ∷ v ∷ older) ≡ (if fall then 1 else 0) + latches (v ∷ older) =
    sum_by-cons (λ c. if is_fall 2 c then 1 else 0) (v, value) (changes_of (v ∷ older)) in
    let counts : Counts q p.list ((if fall then 1 else 0) + latches (v ∷ older)) = counts_after fall rise value (latches (v ∷ older))
    p (record { items = refl; next = h.next; current = h.current }) in
    record {
      pairs = h.pairs ∙ ap pairs_of (sym counts.items);
      begun = tt;
      level = level_after fall rise value p;
      next = counts.next ∙ (ap (λ n. min n (length p.list)) (sym counted)
          ∙ ap (λ list. min (latches (value ∷ v ∷ older)) (length list)) (sym counts.items));
      current = counts.current ∙ (ap (λ n. latched_pad n p.list) (sym counted)
          ∙ ap (λ list. latched_pad (latches (value ∷ v ∷ older)) list) (sym counts.items));
      moves = moves_of_after fall rise value p ∙ moves_more fall (v, value) (changes_since_latch (changes_of (v ∷ older))) p.moves h.moves;
    }

after_levels : (p : Pads) (pairs : List (ℕ × ℕ)) (levels : List ℕ) (value : ℕ) → StandsFor p (record { pairs = pairs; levels = levels }) →
    StandsFor (pads_after value p) (record { pairs = pairs; levels = value ∷ levels })
after_levels p pairs [] value h = absurd h.begun
after_levels p pairs (v ∷ older) value h =
    subst (λ x. StandsFor (after_by (is_fall 2 (x, value)) (bit_value (is_rise 3 (x, value))) value p)
    (record { pairs = pairs; levels = value ∷ v ∷ older })) (sym h.level) (after_value p pairs v value older h)

pub stands_after : (p : Pads) (history : PadHistory) (value : ℕ) → StandsFor p history → StandsFor (pads_after value p)
    (with_level value history)
stands_after p history value h = after_levels p history.pairs history.levels value h

-- The lines

in_time : (c : Bool) (pad : Pad) (m k : ℕ) → nat_lt k 12 ≡ c → nat_lt m 12 ≡ c → (c ≡ true → k ≡ m) →
    data_lines_of (Some pad) k ≡ bit_value (not (nat_lt m 12 && bit_is_set pad.one m)) + bit_value (not
    (nat_lt m 12 && bit_is_set pad.two m))
    * 2
in_time true pad m k e f g =
    ap (λ x. data_lines_of (Some pad) x) (g refl) ∙
    (ap (λ b. if b then bit_value (not (bit_is_set pad.one m)) + bit_value (not (bit_is_set pad.two m)) * 2 else 3) f ∙
    ap (λ b. bit_value (not (b && bit_is_set pad.one m)) + bit_value (not (b && bit_is_set pad.two m)) * 2) (sym f))
in_time false pad m k e f g =
    ap (λ b. if b then bit_value (not (bit_is_set pad.one k)) + bit_value (not (bit_is_set pad.two k)) * 2 else 3) e ∙
    ap (λ b. bit_value (not (b && bit_is_set pad.one m)) + bit_value (not (b && bit_is_set pad.two m)) * 2) (sym f)

below_min : (m : ℕ) → nat_lt (min m 12) 12 ≡ nat_lt m 12
below_min m = grind (arith, nat_tests)

same_min : (m : ℕ) → nat_lt m 12 ≡ true → min m 12 ≡ m
same_min m h = grind (arith, nat_tests)

by_tests : (a b : Bool) (pad : Pad) (m : ℕ) →
    data_lines_of (if a then (if b then Some pad else None) else None) (min m 12) ≡
    bit_value (not (a && b && nat_lt m 12 && bit_is_set pad.one m)) + bit_value (not (a && b && nat_lt m 12 && bit_is_set pad.two m)) * 2
by_tests true true pad m = in_time (nat_lt m 12) pad m (min m 12) (below_min m) refl (same_min m)
by_tests true false pad m = refl
by_tests false b pad m = refl

-- a player's words, by their number and one by one
one_at : (list : List Pad) (i : ℕ) → slice_index (map (λ pair. pair.0) (pairs_of list)) i ≡ (slice_index_or list i no_pad).one
one_at list i = get_or-map (λ (pair : ℕ × ℕ). pair.0) (pairs_of list) i (0, 0) ∙ ap (λ (pair : ℕ × ℕ). pair.0)
    (get_or-map (λ (pad : Pad). (pad.one, pad.two)) list i no_pad)

two_at : (list : List Pad) (i : ℕ) → slice_index (map (λ pair. pair.1) (pairs_of list)) i ≡ (slice_index_or list i no_pad).two
two_at list i = get_or-map (λ (pair : ℕ × ℕ). pair.1) (pairs_of list) i (0, 0) ∙ ap (λ (pair : ℕ × ℕ). pair.1)
    (get_or-map (λ (pad : Pad). (pad.one, pad.two)) list i no_pad)

one_count : (list : List Pad) → length (map (λ pair. pair.0) (pairs_of list)) ≡ length list
one_count list = length-map (pairs_of list) (λ (pair : ℕ × ℕ). pair.0) ∙ length-map list (λ (pad : Pad). (pad.one, pad.two))

two_count : (list : List Pad) → length (map (λ pair. pair.1) (pairs_of list)) ≡ length list
two_count list = length-map (pairs_of list) (λ (pair : ℕ × ℕ). pair.1) ∙ length-map list (λ (pad : Pad). (pad.one, pad.two))

line_of_list : (list : List Pad) (n m : ℕ) → data_lines_of (latched_pad n list) (min m 12) ≡
    (let words = map (λ pair. pair.0) (pairs_of list) in
    bit_value (not (nat_le 1 n && nat_le n (length words) && nat_lt m 12 && bit_is_set (slice_index words (n - 1)) m))) +
    (let words = map (λ pair. pair.1) (pairs_of list) in
    bit_value (not (nat_le 1 n && nat_le n (length words) && nat_lt m 12 && bit_is_set (slice_index words (n - 1)) m))) * 2
line_of_list list n m =
    let pad = slice_index_or list (n - 1) no_pad in
    let shown : ℕ → ℕ → ℕ = λ len word. bit_value (not (nat_le 1 n && nat_le n len && nat_lt m 12 && bit_is_set word m)) in
    by_tests (nat_le 1 n) (nat_le n (length list)) pad m ∙
    (ap (λ len. shown len pad.one + shown (length list) pad.two * 2) (sym (one_count list)) ∙
    (ap (λ word. shown (length (map (λ pair. pair.0) (pairs_of list))) word + shown (length list) pad.two * 2) (sym (one_at list (n - 1))) ∙
    (ap (λ len. shown (length (map (λ pair. pair.0) (pairs_of list))) (slice_index (map (λ pair. pair.0) (pairs_of list)) (n - 1)) + shown
    len pad.two * 2) (sym (two_count list)) ∙
    ap (λ word. shown (length (map (λ pair. pair.0) (pairs_of list))) (slice_index (map (λ pair. pair.0) (pairs_of list)) (n - 1)) + shown
    (length (map (λ pair. pair.1) (pairs_of list))) word * 2) (sym (two_at list (n - 1))))))

pub lines_stand : (p : Pads) (history : PadHistory) → StandsFor p history → pads_lines p ≡ pad_lines history
lines_stand p history h =
    ap (λ current. data_lines_of current p.moves) h.current ∙
    (ap (λ k. data_lines_of (latched_pad (latches history.levels) p.list) k) h.moves ∙
    (line_of_list p.list (latches history.levels) (moves history.levels) ∙
    ap (λ pairs. pad_lines (record { pairs = pairs; levels = history.levels })) (sym h.pairs)))

-- A state of pads, with another list of the same pairs

-- pads are told apart by their pairs
same_list : (a b : List Pad) → pairs_of a ≡ pairs_of b → a ≡ b
same_list [] [] e = refl
same_list [] (y ∷ b) e = absurd cc
same_list (x ∷ a) [] e = absurd cc
same_list (x ∷ a) (y ∷ b) e =
    let mine : ℕ × ℕ = (x.one, x.two) in
    let other : ℕ × ℕ = (y.one, y.two) in
    let heads : mine ≡ other = cc in
    let one : x.one ≡ y.one = ap (λ (p : ℕ × ℕ). p.0) heads in
    let two : x.two ≡ y.two = ap (λ (p : ℕ × ℕ). p.1) heads in
    let rest : pairs_of a ≡ pairs_of b = cc in
    let pad : x ≡ y = ap (λ n. let p : Pad = record { one = n; two = x.two } in p) one
    ∙ ap (λ n. let p : Pad = record { one = y.one; two = n } in p) two in
    ap (λ p. p ∷ a) pad ∙ ap (λ ps. y ∷ ps) (same_list a b rest)

pub stands_again : (p : Pads) (state : PadState) (list : List Pad) (history : PadHistory) → StateStandsFor list state history
    → pairs_of (list_of p) ≡ pairs_of list → StandsFor (with_pad_state state p) history
stands_again p state list history h e = subst (λ l. StateStandsFor l state history) (same_list list (list_of p) (sym e)) h
