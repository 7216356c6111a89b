-- Narrowing (this project's profile): what is left of the ranges of numbers, where a flag of them is known (C, Z, N, V, S, H, T by their
-- bits in SREG, 0 to 6). None: no numbers of the ranges have the flag so. Numbers lie below twice `half`, which is 128 for bytes and
-- 32,768 for pairs; in two's complement those from `half` on are negative.
use Rattle.std.specs.Prelude.{ℕ, ◌+◌, ◌-◌, ◌/◌, ◌%◌, ◌*◌, ◌^◌, ◌≤◌, ⊤, Bool, Option, Some, None, min, max, nat_lt, nat_le, nat_eq}
use Rattle.std.specs.Prelude.{if◌then◌else◌}
use Rattle.uz_schedule.specs.Ends.{Ends}
use Rattle.uz_range.specs.Answers.{ends, is_single}
use Rattle.uz_range.specs.Containment.{IsWithin}

-- Ranges that may be empty

-- the numbers from lo to hi
abbrev pub between : ℕ → ℕ → Option Ends
between lo hi = if nat_le lo hi then Some (ends lo hi) else None

-- what two ranges share
abbrev pub common : Ends → Ends → Option Ends
common a b = between (max a.lo b.lo) (min a.hi b.hi)

-- the numbers of a range that aren't negative
abbrev pub lower : ℕ → Ends → Option Ends
lower half a = between a.lo (min a.hi (half - 1))

-- those that are
abbrev pub upper : ℕ → Ends → Option Ends
upper half a = between (max a.lo half) a.hi

abbrev pub both : Option Ends → Option Ends → Option (Ends × Ends)
both None q = None
both (Some a) None = None
both (Some a) (Some b) = Some (a, b)

-- the least range that holds two ranges
abbrev pub joined : Ends → Ends → Ends
joined a b = ends (min a.lo b.lo) (max a.hi b.hi)

abbrev pub either : Option (Ends × Ends) → Option (Ends × Ends) → Option (Ends × Ends)
either None q = q
either (Some p) None = Some p
either (Some p) (Some q) = Some (joined p.0 q.0, joined p.1 q.1)

-- Two numbers, by a flag of the first less the second

-- the first is below the second
abbrev pub below : Ends → Ends → Option (Ends × Ends)
below a b = if nat_lt a.lo b.hi then Some (ends a.lo (min a.hi (b.hi - 1)), ends (max b.lo (a.lo + 1)) b.hi) else None

-- it isn't
abbrev pub not_below : Ends → Ends → Option (Ends × Ends)
not_below a b = if nat_le b.lo a.hi then Some (ends (max a.lo b.lo) a.hi, ends b.lo (min b.hi a.hi)) else None

abbrev pub by_carry : Bool → Ends → Ends → Option (Ends × Ends)
by_carry is_set a b = if is_set then below a b else not_below a b

-- they are equal: both lie in what the ranges share
abbrev pub shared : Ends → Ends → Option (Ends × Ends)
shared a b = both (common a b) (common a b)

-- a range without v, where v is one of its ends
abbrev pub without : ℕ → Ends → Option Ends
without v a =
    if nat_eq a.lo v then between (v + 1) a.hi else
    if nat_eq a.hi v then Some (ends a.lo (v - 1)) else Some a

-- they differ: where one is known, the other isn't it
abbrev pub apart : Ends → Ends → Option (Ends × Ends)
apart a b =
    if is_single b then both (without b.lo a) (Some b) else
    if is_single a then both (Some a) (without a.lo b) else Some (a, b)

abbrev pub by_zero : Bool → Ends → Ends → Option (Ends × Ends)
by_zero is_set a b = if is_set then shared a b else apart a b

-- numbers of one sign are in the order that C tells
abbrev pub of_one_sign : Bool → Option (Ends × Ends) → Option (Ends × Ends)
of_one_sign is_set None = None
of_one_sign is_set (Some p) = by_carry is_set p.0 p.1

-- a negative number is less than one that isn't
abbrev pub of_two_signs : ℕ → Bool → Ends → Ends → Option (Ends × Ends)
of_two_signs half is_set a b = if is_set then both (upper half a) (lower half b) else both (lower half a) (upper half b)

-- S: the first is less in two's complement
abbrev pub by_sign : ℕ → Bool → Ends → Ends → Option (Ends × Ends)
by_sign half is_set a b =
    either
    (either (of_one_sign is_set (both (lower half a) (lower half b))) (of_one_sign is_set (both (upper half a) (upper half b))))
    (of_two_signs half is_set a b)

-- by C, Z or S; another flag tells nothing
abbrev pub narrowed : ℕ → ℕ → Bool → Ends → Ends → Option (Ends × Ends)
narrowed half flag is_set a b =
    if nat_eq flag 0 then by_carry is_set a b else
    if nat_eq flag 1 then by_zero is_set a b else
    if nat_eq flag 4 then by_sign half is_set a b else Some (a, b)

-- A number, by Z or N of itself

abbrev pub by_value : ℕ → ℕ → Bool → Ends → Option Ends
by_value half flag is_set now =
    if nat_eq flag 1 then (if is_set then between now.lo 0 else between (max now.lo 1) now.hi) else
    if nat_eq flag 2 then (if is_set then upper half now else lower half now) else Some now

-- A result that lies in `now`: a number of `old` less k

-- the numbers of a range less k, where all or none of them are below k
abbrev pub less : ℕ → Ends → ℕ → Ends
less half a k =
    if nat_le k a.lo then ends (a.lo - k) (a.hi - k) else
    if nat_lt a.hi k then ends (half + half + a.lo - k) (half + half + a.hi - k) else ends 0 (half + half - 1)

abbrev pub against : ℕ → ℕ → Bool → ℕ → Option Ends → Option (Ends × Ends)
against half flag is_set k None = None
against half flag is_set k (Some a) = narrowed half flag is_set a (ends k k)

abbrev pub left_less : ℕ → ℕ → Ends → Option (Ends × Ends) → Option Ends
left_less half k now None = None
left_less half k now (Some p) = common (less half p.0 k) now

abbrev pub valued : ℕ → ℕ → Bool → Option Ends → Option Ends
valued half flag is_set None = None
valued half flag is_set (Some e) = by_value half flag is_set e

-- of a part of the old range: by C, Z or S of the old number less k, and by Z or N of the result itself
abbrev pub of_part : ℕ → ℕ → Bool → ℕ → Ends → Option Ends → Option Ends
of_part half flag is_set k now part = valued half flag is_set (left_less half k now (against half flag is_set k part))

abbrev pub either_one : Option Ends → Option Ends → Option Ends
either_one None q = q
either_one (Some a) None = Some a
either_one (Some a) (Some b) = Some (joined a b)

-- the old numbers below k and those from k on apart
abbrev pub result_narrowed : ℕ → ℕ → Bool → Ends → ℕ → Ends → Option Ends
result_narrowed half flag is_set old k now =
    either_one (of_part half flag is_set k now (lower k old)) (of_part half flag is_set k now (upper k old))

-- A byte, by one of its bits, 0 to 7

-- the number that has the bits of n above this one, then a 1, and then zeros
abbrev pub middle : ℕ → ℕ → ℕ
middle bit n = n - n % (2 * 2 ^ bit) + 2 ^ bit

-- where all bits above are the same in the whole range, the bit is 1 from the middle on
abbrev pub bit_narrowed : ℕ → Bool → Ends → Option Ends
bit_narrowed bit is_set a =
    if nat_eq (a.lo / 2 ^ bit / 2) (a.hi / 2 ^ bit / 2) then
    (if is_set then between (max a.lo (middle bit a.lo)) a.hi else between a.lo (min a.hi (middle bit a.lo - 1)))
    else Some a

-- What is left

-- numbers lie in what is left
abbrev pub KeepsBoth : ℕ → ℕ → Option (Ends × Ends) → Type 0
KeepsBoth x y None = ⊥
KeepsBoth x y (Some p) = IsWithin x p.0 × IsWithin y p.1

abbrev pub Keeps : ℕ → Option Ends → Type 0
Keeps v None = ⊥
Keeps v (Some e) = IsWithin v e

-- what is left is a range within the old one
pub record LiesIn (left old : Ends) : Type 0 where
  pub above : old.lo ≤ left.lo
  pub ordered : left.lo ≤ left.hi
  pub below : left.hi ≤ old.hi

abbrev pub BothLieIn : Ends → Ends → Option (Ends × Ends) → Type 0
BothLieIn a b None = ⊤
BothLieIn a b (Some p) = LiesIn p.0 a × LiesIn p.1 b

abbrev pub LeftLiesIn : Ends → Option Ends → Type 0
LeftLiesIn a None = ⊤
LeftLiesIn a (Some e) = LiesIn e a
