-- The numbers of points: first those of the handler's first states after a rest, one for each rest, then one for each other instance in the
-- order in which it was found.
use Rattle.std.specs.Prelude.{◌≡◌, ◌⊎◌, ◌<◌, ◌≤◌, ℕ, ◌+◌, ◌-◌, List, Some, slice_get, length}
use Rattle.uz_schedule.specs.Ends.{Ends}
use Rattle.uz_schedule.specs.Lines.{Lines}
use Rattle.uz_schedule.specs.Instances.{handler_entry}
use Rattle.uz_schedule.specs.declared.states.Instance.{Instance}
use Rattle.uz_schedule.specs.declared.states.Rest.{Rest}

-- it is the handler's first state on its line, where the interrupt was taken at a clock from 0 to 3, these are the ranges of its cells, and
-- OCR1A is `top`
pub record IsFirst (response : ℕ) (cells : List Ends) (top : ℕ) (x : Instance) : Type 0 where
  pub earliest : response ≤ x.clock
  pub latest : x.clock ≤ response + 3
  pub is : x ≡ handler_entry cells x.line x.clock x.level top

-- and so on the line after a rest: the timer came to the last clock of the rest's line
pub record IsFirstAfter (response : ℕ) (lines : Lines) (rest : Rest) (x : Instance) : Type 0 where
  pub line : lines.next rest.line ≡ x.line
  pub first : IsFirst response rest.cells.items (lines.length rest.line - 1) x

-- after the rest of number k
pub record IsVectorOf (response : ℕ) (lines : Lines) (rests : List Rest) (k : ℕ) (x : Instance) : Type 0 where
  pub rest : Rest
  pub there : slice_get rests k ≡ Some rest
  pub after : IsFirstAfter response lines rest x

-- of a rest's vector, or of its own point: those are numbered on from the vectors
abbrev pub Numbered : ℕ → Lines → List Rest → ℕ → ℕ → Instance → Type 0
Numbered response lines rests count n x =
    IsVectorOf response lines rests n x ⊎ (((k : ℕ) → IsVectorOf response lines rests k x → ⊥) × (length rests ≤ n) × (n < count))

-- the numbers of these instances, of so many points
pub record AreNumbers (response : ℕ) (lines : Lines) (rests : List Rest) (nodes : List Instance) (numbers : List ℕ) (count : ℕ) : Type
    0 where
  pub lengths : length numbers ≡ length nodes
  pub each : (i n : ℕ) (x : Instance) → slice_get nodes i ≡ Some x → slice_get numbers i ≡ Some n → Numbered response lines rests count n x
  -- points of their own are apart, and each is there
  pub apart : (i j n : ℕ) → length rests ≤ n → slice_get numbers i ≡ Some n → slice_get numbers j ≡ Some n → i ≡ j
  pub there : (n : ℕ) → length rests ≤ n → n < count → (i : ℕ) × (slice_get numbers i ≡ Some n)
  pub some : length rests ≤ count
  pub few : count ≤ length rests + length nodes
