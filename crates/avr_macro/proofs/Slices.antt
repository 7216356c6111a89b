-- Lines by their places, one more at a time.
use Rattle.std.proofs.Common.{◌≡◌, ℕ, zero, suc, ◌+◌, ◌-◌, ◌<◌, ◌≤◌, List, [], ◌∷◌, ◌++◌, length, get_or, take, drop, map, refl, sym, ◌∙◌}
use Rattle.std.proofs.Common.{ap, append_assoc, add-one, drop-cons, arith, Option, Some, None}
use Rattle.std.specs.List.{slice_range}
use Rattle.std.proofs.lemmas.List.{drop-drop, drop-take, drop_all, take-take}
use Rattle.std.proofs.Math.Seq.{take-length}

abbrev Texts : Type 0
Texts = List (List ℕ)

-- ---- parts of a body

-- the lines after some
pub after_some : (xs : Texts) (at end n : ℕ) → at + n ≤ end → slice_range xs (at + n) end ≡ drop n (slice_range xs at end)
after_some xs at end n h =
    let left : (end - at) ≡ n + (end - (at + n)) = omega arith in
    cc (drop-take n (end - (at + n)) (drop at xs), drop-drop n at xs)

-- a whole body
pub whole_body : (xs : Texts) (n : ℕ) → n ≡ length xs → slice_range xs 0 n ≡ xs
whole_body xs n e = let k : n - 0 ≡ length xs = omega (arith, e) in cc (take-length xs)

-- lines after the next one
pub inner_part : (xs : Texts) (at end from to : ℕ) → from ≤ to → at + (1 + to) ≤ end
    → slice_range xs (at + 1 + from) (at + 1 + to) ≡ slice_range (drop 1 (slice_range xs at end)) from to
inner_part xs at end from to order h =
    let size : (at + 1 + to) - (at + 1 + from) ≡ to - from = omega arith in
    let place : at + 1 + from ≡ at + (1 + from) = omega arith in
    let left : end - at ≡ (1 + from) + ((end - at) - (1 + from)) = omega arith in
    let room : to - from ≤ (end - at) - (1 + from) = omega arith in
    cc (
      drop-drop (1 + from) at xs,
      take-take (to - from) ((end - at) - (1 + from)) (drop (1 + from) (drop at xs)) room,
      drop-take (1 + from) ((end - at) - (1 + from)) (drop at xs),
      drop-drop from 1 (slice_range xs at end),
    )

pub first_part : (xs : Texts) (at end n start stop : ℕ) → at + (n + 2) ≤ end → start ≡ at + 1 → stop ≡ start + n
    → slice_range xs start stop ≡ slice_range (drop 1 (slice_range xs at end)) 0 n
first_part xs at end n start stop h e f =
    let from : start ≡ at + 1 + 0 = omega (arith, e) in
    let to : stop ≡ at + 1 + n = omega (arith, e, f) in
    ap (λ k. slice_range xs k stop) from ∙ ap (slice_range xs (at + 1 + 0)) to ∙ inner_part xs at end 0 n (omega arith) (omega (arith, h))

-- the lines after the next one
pub after_next : (xs : Texts) (at end start : ℕ) → start ≡ at + 1 → at < end → slice_range xs start end ≡ drop 1 (slice_range xs at end)
after_next xs at end start e h = ap (λ k. slice_range xs k end) e ∙ after_some xs at end 1 (omega arith)

-- the next line of some
pub next_line : (xs : Texts) (n end : ℕ) → n < end → end ≤ length xs
    → slice_range xs n end ≡ get_or xs n [] ∷ slice_range xs (n + 1) end
next_line xs n end h within =
    let some : end - n ≡ suc (end - (n + 1)) = omega arith in
    let here : n < length xs = omega arith in
    cc (drop-cons xs n [] here, add-one n)

-- all lines from a place on
pub next_line_of_all : (xs : Texts) (n : ℕ) → n < length xs → drop n xs ≡ get_or xs n [] ∷ drop (n + 1) xs
next_line_of_all xs n h = drop-cons xs n [] h ∙ ap (λ k. get_or xs n [] ∷ drop k xs) (sym (add-one n))

pub none_left : (xs : Texts) (n : ℕ) → length xs ≤ n → drop n xs ≡ []
none_left xs n h = drop_all n xs h

-- what is made of each line, one more at a time
pub made_more : (f : List ℕ → List ℕ) (xs front more whole : Texts) (line : List ℕ) (n end : ℕ) → n < end → end ≤ length xs
    → more ≡ front ++ line ∷ [] → line ≡ f (get_or xs n []) → front ++ map f (slice_range xs n end) ≡ whole
    → more ++ map f (slice_range xs (n + 1) end) ≡ whole
made_more f xs front more whole line n end h within e is so_far =
    cc (append_assoc front (line ∷ []) (map f (slice_range xs (n + 1) end)), next_line xs n end h within)

-- the lines themselves, one more at a time
pub copied_more : (xs front more whole : Texts) (line : List ℕ) (n end : ℕ) → n < end → end ≤ length xs → more ≡ front ++ line ∷ []
    → line ≡ get_or xs n [] → front ++ slice_range xs n end ≡ whole → more ++ slice_range xs (n + 1) end ≡ whole
copied_more xs front more whole line n end h within e is so_far =
    cc (append_assoc front (line ∷ []) (slice_range xs (n + 1) end), next_line xs n end h within)

-- none is left
pub no_line : (xs : Texts) (n end : ℕ) → end ≤ n → slice_range xs n end ≡ []
no_line xs n end h = let none : end - n ≡ 0 = omega arith in cc

drop_index : (xs : Texts) (n k : ℕ) → get_or (drop n xs) k [] ≡ get_or xs (n + k) []
drop_index xs zero k = ap (λ m. get_or xs m []) (omega arith)
drop_index [] (suc n) k = refl
drop_index (x ∷ xs) (suc n) k = let place : suc (n + k) ≡ suc n + k = omega arith in cc (drop_index xs n k)

take_index : (xs : Texts) (n k : ℕ) → k < n → get_or (take n xs) k [] ≡ get_or xs k []
take_index xs zero k h = absurd (omega (arith, h))
take_index (x ∷ xs) (suc n) (suc k) h = take_index xs n k (omega (arith, h))
take_index other (suc n) k h = refl

-- a line after the next one
pub later_line : (xs : Texts) (at end n : ℕ) → at + (n + 2) ≤ end → get_or (drop 1 (slice_range xs at end)) n [] ≡ get_or xs (at + 1 + n) []
later_line xs at end n h =
    let place : at + (1 + n) ≡ at + 1 + n = omega arith in
    cc (drop_index (slice_range xs at end) 1 n, take_index (drop at xs) (end - at) (1 + n) (omega (arith, h)), drop_index xs at (1 + n))

-- ---- the end of a block

-- so many lines further on
abbrev pub further : ℕ → Option ℕ → Option ℕ
further n None = None
further n (Some m) = Some (n + m)
