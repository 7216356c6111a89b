-- Lines that are kept in one text.
use Rattle.std.proofs.Common.{◌≡◌, ℕ, zero, suc, ◌+◌, ◌-◌, ◌<◌, ◌≤◌, ◌≢◌, List, [], ◌∷◌, ◌++◌, length, get_or, take}
use Rattle.std.proofs.Common.{drop, refl, sym, subst, ◌∙◌, ap, arith}
use Rattle.std.specs.List.{slice_range}
use Rattle.std.proofs.lemmas.List.{length-append}
use Rattle.avr_macro.specs.Bodies.{RiseTo, lines_in, start_in}

pub count_lines : (text ends : List ℕ) (start : ℕ) → length (lines_in text start ends) ≡ length ends
count_lines text [] start = refl
count_lines text (end ∷ ends) start = ap suc (count_lines text ends end)

-- the start of the text's rest
pub start_within : (size start : ℕ) (ends : List ℕ) → RiseTo size start ends → start ≤ size
start_within size start [] r = omega (arith, r)
start_within size start (end ∷ ends) r = omega (arith, r.0, start_within size end ends r.1)

-- a line by its place
pub line_by_place : (text ends : List ℕ) (start n : ℕ) → n < length ends
    → get_or (lines_in text start ends) n [] ≡ slice_range text (start_in start ends n) (get_or ends n 0)
line_by_place text [] start n h = absurd (omega (arith, h))
line_by_place text (end ∷ ends) start zero h = refl
line_by_place text (end ∷ ends) start (suc n) h = line_by_place text ends end n (omega (arith, h))

pub start_before : (ends : List ℕ) (start n : ℕ) → n < length ends → start_in start ends (suc n) ≡ get_or ends n 0
start_before (end ∷ []) start zero h = refl
start_before (end ∷ next ∷ ends) start zero h = refl
start_before (end ∷ next ∷ ends) start (suc n) h = start_before (next ∷ ends) end n (omega (arith, h))
start_before other start n h = absurd (omega (arith, h))

pub first_start : (ends : List ℕ) (start n : ℕ) → n ≡ 0 → start_in start ends n ≡ start
first_start ends start zero e = refl
first_start ends start (suc n) e = absurd (omega (arith, e))

pub later_start : (ends : List ℕ) (start n before : ℕ) → n ≢ 0 → before ≡ n - 1 → n < length ends
    → start_in start ends n ≡ get_or ends before 0
later_start ends start zero before some e h = absurd (some refl)
later_start ends start (suc n) before some e h =
    let place : n ≡ before = omega (arith, e) in
    start_before ends start n (omega (arith, h)) ∙ ap (λ k. get_or ends k 0) place

pub line_order : (size start : ℕ) (ends : List ℕ) (n : ℕ) → RiseTo size start ends → n < length ends
    → (start_in start ends n ≤ get_or ends n 0) × (get_or ends n 0 ≤ size)
line_order size start [] n r h = absurd (omega (arith, h))
line_order size start (end ∷ ends) zero r h = (r.0, start_within size end ends r.1)
line_order size start (end ∷ ends) (suc n) r h = line_order size end ends n r.1 (omega (arith, h))

-- a line more
rise_more : (size start more : ℕ) (ends : List ℕ) → RiseTo size start ends → size ≤ more → RiseTo more start (ends ++ more ∷ [])
rise_more size start more [] r h = (omega (arith, r, h), refl)
rise_more size start more (end ∷ ends) r h = (r.0, rise_more size end more ends r.1 h)

part_stays : (text more : List ℕ) (start end : ℕ) → start ≤ end → end ≤ length text
    → slice_range (text ++ more) start end ≡ slice_range text start end
part_stays text more start end order h = sliced text more start (end - start) (omega (arith, order, h))
  where
    taken : (text more : List ℕ) (n : ℕ) → n ≤ length text → take n (text ++ more) ≡ take n text
    taken text more zero h = refl
    taken [] more (suc n) h = absurd (omega (arith, h))
    taken (b ∷ bs) more (suc n) h = ap (λ xs. b ∷ xs) (taken bs more n (omega (arith, h)))

    sliced : (text more : List ℕ) (start n : ℕ) → start + n ≤ length text → take n (drop start (text ++ more)) ≡ take n (drop start text)
    sliced text more zero n h = taken text more n (omega (arith, h))
    sliced [] more (suc start) n h = absurd (omega (arith, h))
    sliced (b ∷ bs) more (suc start) n h = sliced bs more start n (omega (arith, h))

last_part : (text more : List ℕ) → slice_range (text ++ more) (length text) (length (text ++ more)) ≡ more
last_part text more =
    let n : length (text ++ more) - length text ≡ length more = omega (arith, length-append text more) in
    ap (λ k. take k (drop (length text) (text ++ more))) n ∙ ap (take (length more)) (rest text) ∙ whole more
  where
    rest : (text : List ℕ) → drop (length text) (text ++ more) ≡ more
    rest [] = refl
    rest (b ∷ bs) = rest bs

    whole : (xs : List ℕ) → take (length xs) xs ≡ xs
    whole [] = refl
    whole (b ∷ bs) = ap (λ xs. b ∷ xs) (whole bs)

lines_more : (text more ends : List ℕ) (start : ℕ) → RiseTo (length text) start ends
    → lines_in (text ++ more) start (ends ++ length (text ++ more) ∷ []) ≡ lines_in text start ends ++ more ∷ []
lines_more text more [] start r = cc (last_part text more)
lines_more text more (end ∷ ends) start r =
    cc (part_stays text more start end r.0 (start_within (length text) end ends r.1), lines_more text more ends end r.1)

-- lines with one more
pub line_added : (text more line ends later : List ℕ) (size : ℕ) (ls : List (List ℕ)) → RiseTo (length text) 0 ends
    → lines_in text 0 ends ≡ ls → more ≡ text ++ line → size ≡ length more → later ≡ ends ++ size ∷ []
    → lines_in more 0 later ≡ ls ++ line ∷ []
line_added text more line ends later size ls r v e s f = cc (lines_more text line ends 0 r)

pub rise_added : (text more line ends later : List ℕ) (size : ℕ) → RiseTo (length text) 0 ends → more ≡ text ++ line → size ≡ length more
    → later ≡ ends ++ size ∷ [] → RiseTo (length more) 0 later
rise_added text more line ends later size r e s f =
    let longer : length text ≤ size = omega (arith, s, ap length e, length-append text line) in
    subst (λ es. RiseTo (length more) 0 es) (sym f) (subst (λ k. RiseTo k 0 (ends ++ size ∷ [])) s (rise_more _ _ _ _ r longer))

-- a line by its place, and its bounds
pub place_within : (text ends : List ℕ) (ls : List (List ℕ)) (n : ℕ) → lines_in text 0 ends ≡ ls → n < length ls → n < length ends
place_within text ends ls n e h = subst (λ k. n < k) (sym (ap length e) ∙ count_lines text ends 0) h

pub line_bounds : (text ends part : List ℕ) (ls : List (List ℕ)) (n start end : ℕ) → RiseTo (length text) 0 ends
    → lines_in text 0 ends ≡ ls → n < length ls → part ≡ ends → start ≡ start_in 0 part n → end ≡ get_or part n 0
    → (start ≤ end) × (end ≤ length text)
line_bounds text ends part ls n start end r v h p s e =
    let few = place_within text ends ls n v h in
    let bounds = line_order (length text) 0 ends n r few in
    let last : end ≡ get_or ends n 0 = e ∙ ap (λ es. get_or es n 0) p in
    let first : start ≡ start_in 0 ends n = s ∙ ap (λ es. start_in 0 es n) p in
    (omega (arith, bounds.0, last, first), omega (arith, bounds.1, last))

pub line_is : (text ends part whole : List ℕ) (ls : List (List ℕ)) (n start end : ℕ) → lines_in text 0 ends ≡ ls → n < length ls
    → part ≡ ends → start ≡ start_in 0 part n → end ≡ get_or part n 0 → whole ≡ text → slice_range whole start end ≡ get_or ls n []
line_is text ends part whole ls n start end v h p s e w =
    let few = place_within text ends ls n v h in
    let last : end ≡ get_or ends n 0 = e ∙ ap (λ es. get_or es n 0) p in
    let first : start ≡ start_in 0 ends n = s ∙ ap (λ es. start_in 0 es n) p in
    cc (line_by_place text ends 0 n few)
