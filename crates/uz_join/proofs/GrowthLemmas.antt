-- A byte that grows by the same number from one line or count to the next.
use Rattle.uz_join.proofs.Common.{◌≡◌, ◌∙◌, ap, sym, arith, ℕ, ◌+◌, ◌-◌, ◌*◌, ◌%◌, ◌<◌, Ends, one_number}
use Rattle.uz_schedule.specs.declared.facts.Fact.TheVariants.{Between}

-- with what is left to a byte after x, x makes it
pub offset_makes : (x byte : ℕ) → byte < 256 → (x + (256 + byte - x % 256) % 256) % 256 ≡ byte
offset_makes x byte small = omega arith

-- with what is left from one byte to another, the one makes the other
pub step_makes : (from to : ℕ) → from < 256 → to < 256 → (from + (256 + to - from) % 256) % 256 ≡ to
step_makes from to a b = omega arith

-- one line or count further it is one step more
more : (x step offset byte : ℕ) → (x + offset) % 256 ≡ byte → (x + step + offset) % 256 ≡ (byte + step) % 256
more x step offset byte e = omega (arith, e)

pub next_makes : (step n offset byte : ℕ) → (step * n + offset) % 256 ≡ byte → (step * (n + 1) + offset) % 256 ≡ (byte + step) % 256
next_makes step n offset byte e =
    let product : step * (n + 1) ≡ step * n + step = grind arith in
    ap (λ x. (x + offset) % 256) product ∙ more (step * n) step offset byte e

-- a range whose ends are one is that of a number
pub one_of : (e : Ends) → e.lo ≡ e.hi → Between e ≡ Between (one_number e.lo)
one_of e same = λ i. Between (record { lo = e.lo; hi = sym same i })
