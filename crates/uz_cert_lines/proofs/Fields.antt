-- Numbers that fit the fields of what a line says, by the limits that they are read with.
use Rattle.std.proofs.Common.{ℕ, ◌+◌, ◌<◌, ◌≤◌, Fits, w8, w16, w32, arith}

-- a word address
pub address_fits : (n : ℕ) → n < 32768 → Fits w16 n
address_fits n below = record { fits = omega (arith, below) }

-- the ends of the stack
pub low_fits : (n : ℕ) → n < 4351 → Fits w16 n
low_fits n below = record { fits = omega (arith, below) }

pub high_fits : (n : ℕ) → n < 4352 → Fits w16 n
high_fits n below = record { fits = omega (arith, below) }

pub next_fits : (n : ℕ) → n < 4351 → Fits w32 (n + 1)
next_fits n below = record { fits = omega (arith, below) }

pub in_order : (low high : ℕ) → low + 1 ≤ high → low ≤ high
in_order low high least = omega (arith, least)

-- one of a frame's lines
pub line_fits : (n lines : ℕ) → lines ≤ 525 → n < lines → Fits w16 n
line_fits n lines few below = record { fits = omega (arith, few, below) }

pub kind_line_fits : (n lines : ℕ) → (1 ≤ lines) × (lines ≤ 525) → (1 ≤ lines → n < lines) → Fits w16 n
kind_line_fits n lines few below = line_fits n lines few.1 (below few.0)

-- a clock of a line
pub clock_fits : (n : ℕ) → n < 1820 → Fits w16 n
clock_fits n below = record { fits = omega (arith, below) }

pub kind_clock_fits : (n : ℕ) → (1 ≤ 1820 → n < 1820) → Fits w16 n
kind_clock_fits n below = clock_fits n (below (omega arith))

-- a byte, a count, and how many bytes may be pushed
pub byte_fits : (n : ℕ) → n < 256 → Fits w8 n
byte_fits n below = record { fits = omega (arith, below) }

pub count_fits : (n : ℕ) → (1 ≤ 256 → n < 256) → Fits w8 n
count_fits n below = byte_fits n (below (omega arith))

pub depth_fits : (n : ℕ) → n < 33 → Fits w8 n
depth_fits n below = record { fits = omega (arith, below) }
