-- Periods of the end of a list of numbers.
use Rattle.std.specs.Prelude.{◌≡◌, ◌≢◌, ℕ, ◌+◌, ◌-◌, ◌/◌, ◌<◌, ◌≤◌, List, length, slice_index_or, Option, None, Some}
use Rattle.uz_proposal.specs.declared.periods.Period.{Period}

-- from a place on, each number comes again so many places later
abbrev pub Repeats : List ℕ → ℕ → ℕ → Type 0
Repeats keys apart from =
    (k : ℕ) → from ≤ k → k + apart < length keys → slice_index_or keys k 0 ≡ slice_index_or keys (k + apart) 0

-- So many numbers are a period from a place to the list's end: that part of the list is half of it at least, and has two periods at least
pub record IsPeriod (keys : List ℕ) (lines from : ℕ) : Type 0 where
  pub some : 1 ≤ lines
  pub most : lines ≤ 525
  pub twice : from + lines + lines ≤ length keys
  pub half : from + length keys / 2 ≤ length keys
  pub repeats : Repeats keys lines from

-- None: there is no period. Some: it is one, no other one is less, and none of as many numbers begins earlier
abbrev pub IsLeastPeriod : List ℕ → Option Period → Type 0
IsLeastPeriod keys None = (lines from : ℕ) → IsPeriod keys lines from → ⊥
IsLeastPeriod keys (Some p) =
    IsPeriod keys p.lines p.from × ((lines from : ℕ) → IsPeriod keys lines from → p.lines ≤ lines)
    × ((from : ℕ) → IsPeriod keys p.lines from → p.from ≤ from)

-- how many numbers at the end, as far as others stand so many places behind them, are the same as those: no number before them is
pub record IsSameAtEnd (keys : List ℕ) (apart same : ℕ) : Type 0 where
  pub within : same ≤ length keys - apart
  pub repeats : Repeats keys apart (length keys - apart - same)
  pub differs : same < length keys - apart → slice_index_or keys (length keys - apart - 1 - same) 0
      ≢ slice_index_or keys (length keys - apart - 1 - same + apart) 0
