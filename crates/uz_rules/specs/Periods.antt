-- When what a point's facts say of bytes and pairs is the same a number of counts on.
use Rattle.std.specs.Prelude.{◌≡◌, ℕ, ◌+◌, All, List}
use Rattle.uz_schedule.specs.declared.facts.Fact.{Fact}
use Rattle.uz_schedule.specs.declared.facts.Fact.TheVariants.{Loop}
use Rattle.uz_schedule.specs.declared.facts.PairFact.{PairFact}
use Rattle.uz_schedule.specs.declared.facts.PairFact.TheVariants.{Loop as LoopPair}
use Rattle.uz_schedule.specs.declared.facts.Val.{Val}
use Rattle.uz_schedule.specs.declared.states.Point.{Point}
use Rattle.uz_schedule.specs.Instances.{val_of, pair_of, pairs_of}

-- the factor of the count in a fact of a byte, 0 where the count isn't named
abbrev pub count_factor : Fact → ℕ
count_factor (Loop a b) = a
count_factor f = 0

-- and in one of a pair
abbrev pub pair_count_factor : PairFact → ℕ
pair_count_factor (LoopPair a b) = a
pair_count_factor f = 0

-- n counts on, a fact says the same of a byte
unfoldable pub ByteRepeats : ℕ → Fact → Type 0
ByteRepeats n f = (l c : ℕ) → val_of l (c + n) f ≡ val_of l c f

-- n counts on, a fact says the same of a pair, where the bytes are the same
unfoldable pub PairRepeats : ℕ → PairFact → Type 0
PairRepeats n f = (l c r : ℕ) (regs : List Val) → pair_of l (c + n) regs r f ≡ pair_of l c regs r f

-- and three facts of X, Y and Z
unfoldable pub PairsRepeat : ℕ → List PairFact → Type 0
PairsRepeat n facts = (l c : ℕ) (regs : List Val) → pairs_of l (c + n) regs facts ≡ pairs_of l c regs facts

-- n counts on, all facts of a point that may name the count say the same
pub record PointRepeats (n : ℕ) (p : Point) : Type 0 where
  pub registers : All (ByteRepeats n) p.regs
  pub stack : All (ByteRepeats n) p.stack.items
  pub cells : All (ByteRepeats n) p.cells.items
  pub pairs : PairsRepeat n p.pairs
