-- Positions of a frame, in clocks from its begin: each is one clock of one line, and places go on with them.
use Rattle.uz_search.proofs.Common.{◌≡◌, ◌≢◌, ℕ, zero, suc, ◌<◌, ◌≤◌, ◌+◌, ◌-◌, ◌%◌, inl, inr, ⊎_elim, length, refl, sym, ap, ◌∙◌, arith}
use Rattle.uz_search.proofs.Common.{mod-add-mod, mod-eq_of_lt, add-mod_right, cases_eq, cases_lt, length_of, start_of, frame_of, Schedule}
use Rattle.uz_search.proofs.Common.{place_below}
use Rattle.uz_schedule.proofs.Starts.{start_more}
use Rattle.uz_search.proofs.FramePlaces.{Reaches}

-- a clock of an earlier line comes earlier
earlier : (s : Schedule) (l q l' q' : ℕ) → l < l' → q < length_of s l → start_of s l + q < start_of s l' + q'
earlier s l q l' q' lt in_line =
    let whole : suc l + (l' - suc l) ≡ l' = omega (arith, lt) in
    let later = start_more s (suc l) (l' - suc l) in
    let there = ap (start_of s) whole in
    let step : start_of s (suc l) ≡ start_of s l + length_of s l = refl in
    omega (arith, later, there, step, in_line)

-- a position is a clock of one line only
pub one_place : (s : Schedule) (l q l' q' : ℕ) → q < length_of s l → q' < length_of s l' → start_of s l + q ≡ start_of s l' + q'
    → (l ≡ l') × (q ≡ q')
one_place s l q l' q' h h' e = ⊎_elim
    (λ (same : l ≡ l'). (same, (let start = ap (start_of s) same in omega (arith, start, e))))
    (λ (other : l ≢ l'). ⊎_elim
    (λ (lt : l < l'). let b = earlier s l q l' q' lt h in absurd (omega (arith, b, e)))
    (λ (ge : l' ≤ l). let b = earlier s l' q' l q (omega (arith, ge, other)) h' in absurd (omega (arith, b, e)))
    (cases_lt l l'))
    (cases_eq l l')

-- and of some line
pub some_place : (s : Schedule) (n y : ℕ) → y < start_of s n → (l : ℕ) × (q : ℕ) × (l < n) × (q < length_of s l)
    × (start_of s l + q ≡ y)
some_place s zero y below = absurd (omega (arith, below))
some_place s (suc n) y below = ⊎_elim
    (λ (lt : y < start_of s n). let r = some_place s n y lt in (r.0, r.1, (let b = r.2 in omega (arith, b)), r.3, r.4))
    (λ (ge : start_of s n ≤ y). (n, y - start_of s n, omega arith, omega (arith, below, ge), omega (arith, ge)))
    (cases_lt y (start_of s n))

-- what is reached some clocks on lies so many positions on
pub reach_position : (s : Schedule) (line clock k l q p : ℕ) → line < length s.lines → Reaches s line clock k l q
    → p % frame_of s ≡ start_of s line + clock → (p + k) % frame_of s ≡ start_of s l + q
reach_position s line clock k l q p below reach place =
    sym (mod-add-mod p (frame_of s) k) ∙ ap (λ m. (m + k) % frame_of s) place ∙ goes reach
  where
    goes : Reaches s line clock k l q → (start_of s line + clock + k) % frame_of s ≡ start_of s l + q
    goes (h, inl a) =
        let start = ap (start_of s) a.0 in
        let e : start_of s line + clock + k ≡ start_of s l + q = omega (arith, a.1, start) in
        ap (λ m. m % frame_of s) e ∙ mod-eq_of_lt (place_below s l q (omega (arith, a.0, below)) h)
    goes (h, inr (inl n, b)) =
        let end = ap (start_of s) n.0 in
        let step : start_of s (suc line) ≡ start_of s line + length_of s line = refl in
        let first : start_of s l ≡ start_of s 0 = ap (start_of s) n.1 in
        let e : start_of s line + clock + k ≡ (start_of s l + q) + frame_of s = omega (arith, b, end, step, first) in
        ap (λ m. m % frame_of s) e ∙ add-mod_right (start_of s l + q) (frame_of s)
        ∙ mod-eq_of_lt (place_below s l q (omega (arith, n.1, below)) h)
    goes (h, inr (inr n, b)) =
        let next = ap (start_of s) n.1 in
        let step : start_of s (suc line) ≡ start_of s line + length_of s line = refl in
        let e : start_of s line + clock + k ≡ start_of s l + q = omega (arith, b, next, step) in
        ap (λ m. m % frame_of s) e ∙ mod-eq_of_lt (place_below s l q (omega (arith, n.0, n.1)) h)
