-- Lines and clocks as positions of a frame, and places some clocks on.
use Rattle.uz_search.proofs.Common.{◌≡◌, ℕ, suc, ◌<◌, ◌≤◌, ◌+◌, ◌-◌, ◌⊎◌, ◌==◌, nat_lt, Bool, true, false, length, refl, sym, ap, ◌∙◌, inl}
use Rattle.uz_search.proofs.Common.{inr, if◌then◌else◌, arith, nat_tests, order_of, line_after, clock_after, is_length, scanline, length_of}
use Rattle.uz_search.proofs.Common.{next_line, Schedule, Program, ProgramFits, line_start}

-- the line after l, round the frame
abbrev pub IsNext : Schedule → ℕ → ℕ → Type 0
IsNext s l next = ((suc l ≡ length s.lines) × (next ≡ 0)) ⊎ ((suc l < length s.lines) × (next ≡ suc l))

-- clock q of line l is k clocks after this line and clock
abbrev pub Reaches : Schedule → ℕ → ℕ → ℕ → ℕ → ℕ → Type 0
Reaches s line clock k l q = (q < length_of s l) × (((l ≡ line) × (q ≡ clock + k)) ⊎ (IsNext s line l × (q + length_of s line ≡ clock + k)))

-- the position of a clock of a line
abbrev pub at : ℕ → ℕ → ℕ
at l q = line_start l + q

-- Lengths

is_few : (n : ℕ) → is_length n ≡ true → n ≤ scanline
is_few n e = grind (arith, nat_tests)

is_some : (n : ℕ) → is_length n ≡ true → 9 ≤ n
is_some n e = grind (arith, nat_tests)

-- a line has as many clocks as the longest one at most
pub length_few : (p : Program) → ProgramFits p → (l : ℕ) → length_of p.schedule l ≤ scanline
length_few p fits l = is_few (length_of p.schedule l) (fits.lengths l)

-- and more than an interrupt's entry takes
pub length_some : (p : Program) → ProgramFits p → (l : ℕ) → 9 ≤ length_of p.schedule l
length_some p fits l = is_some (length_of p.schedule l) (fits.lengths l)

-- Positions

pub line_below : (lines l q : ℕ) → l < lines → q < scanline → at l q < line_start lines
line_below lines l q below clock = omega arith

pub one_line : (l q l' q' : ℕ) → q < scanline → q' < scanline → at l q ≡ at l' q' → l ≡ l'
one_line l q l' q' h h' e = omega arith

pub one_clock : (l q l' q' : ℕ) → q < scanline → q' < scanline → at l q ≡ at l' q' → q ≡ q'
one_clock l q l' q' h h' e = omega arith

-- Lines

pub one_next : (s : Schedule) (l a b : ℕ) → IsNext s l a → IsNext s l b → a ≡ b
one_next s l a b (inl h) (inl k) = h.1 ∙ sym k.1
one_next s l a b (inr h) (inr k) = h.1 ∙ sym k.1
one_next s l a b (inl h) (inr k) = absurd (omega (arith, h.0, k.0))
one_next s l a b (inr h) (inl k) = absurd (omega (arith, h.0, k.0))

pub next_below : (s : Schedule) (l n : ℕ) → l < length s.lines → IsNext s l n → n < length s.lines
next_below s l n below (inl h) = omega (arith, h.0, h.1)
next_below s l n below (inr h) = omega (arith, h.0, h.1)

pub next_is : (s : Schedule) (line : ℕ) → line < length s.lines → IsNext s line (next_line s line)
next_is s line below = by (suc line == length s.lines) refl
  where
    by : (b : Bool) → (suc line == length s.lines) ≡ b → IsNext s line (if b then 0 else suc line)
    by true e = inl (grind (arith, nat_tests), refl)
    by false e = inr (grind (arith, nat_tests), refl)

-- a place that is reached lies in the frame
pub reach_line : (s : Schedule) (line clock k l q : ℕ) → line < length s.lines → Reaches s line clock k l q → l < length s.lines
reach_line s line clock k l q below (h, inl a) = omega (arith, a.0)
reach_line s line clock k l q below (h, inr a) = next_below s line l below a.0

-- the line and the clock that the lines of a frame give are some clocks on
pub reach_after : (s : Schedule) (line clock c : ℕ) → line < length s.lines → clock < length_of s line → ((l : ℕ) → c ≤ length_of s l)
    → Reaches s line clock c (line_after (order_of s) line (clock + c)) (clock_after (order_of s) line (clock + c))
reach_after s line clock c below in_line few = by (nat_lt (clock + c) (length_of s line)) refl
  where
    by : (b : Bool) → nat_lt (clock + c) (length_of s line) ≡ b → Reaches s line clock c (if b then line else next_line s line)
        (if b then clock + c else clock + c - length_of s line)
    by true e = (grind (arith, nat_tests), inl (refl, refl))
    by false e =
        let ge : length_of s line ≤ clock + c = grind (arith, nat_tests) in
        let room = few (next_line s line) in
        (omega (arith, in_line, room), inr (next_is s line below, omega (arith, ge)))

-- the clocks between the two
pub between_of : (s : Schedule) (line clock c l q : ℕ) → Reaches s line clock c l q → clock < length_of s line → 1 ≤ c
    → c ≤ length_of s line → (if nat_lt clock q then q - clock else length_of s line - clock + q) ≡ c
between_of s line clock c l q (h, inl a) in_line some few = by (nat_lt clock q) refl
  where
    by : (b : Bool) → nat_lt clock q ≡ b → (if b then q - clock else length_of s line - clock + q) ≡ c
    by true e = omega (arith, a.1)
    by false e = let ge : q ≤ clock = grind (arith, nat_tests) in absurd (omega (arith, a.1, ge, some))
between_of s line clock c l q (h, inr a) in_line some few = by (nat_lt clock q) refl
  where
    by : (b : Bool) → nat_lt clock q ≡ b → (if b then q - clock else length_of s line - clock + q) ≡ c
    by true e = let lt : clock < q = grind (arith, nat_tests) in absurd (omega (arith, a.1, lt, few))
    by false e = omega (arith, a.1, in_line)

-- the line and the clock of a place some clocks on
module _ (s : Schedule) (line clock k l q : ℕ) (below : line < length s.lines) where
  pub reach_on : Reaches s line clock k l q → (line_after (order_of s) line (clock + k) ≡ l)
      × (clock_after (order_of s) line (clock + k) ≡ q)
  reach_on (h, inl a) = by (nat_lt (clock + k) (length_of s line)) refl
    where
      by : (b : Bool) → nat_lt (clock + k) (length_of s line) ≡ b → ((if b then line else next_line s line) ≡ l)
          × ((if b then clock + k else clock + k - length_of s line) ≡ q)
      by true e = (sym a.0, sym a.1)
      by false e =
          let ge : length_of s line ≤ clock + k = grind (arith, nat_tests) in
          let same = ap (length_of s) a.0 in
          absurd (omega (arith, a.1, ge, h, same))
  reach_on (h, inr a) = by (nat_lt (clock + k) (length_of s line)) refl
    where
      by : (b : Bool) → nat_lt (clock + k) (length_of s line) ≡ b → ((if b then line else next_line s line) ≡ l)
          × ((if b then clock + k else clock + k - length_of s line) ≡ q)
      by true e = let lt : clock + k < length_of s line = grind (arith, nat_tests) in absurd (omega (arith, a.1, lt))
      by false e = (one_next s line (next_line s line) l (next_is s line below) a.0, omega (arith, a.1))
