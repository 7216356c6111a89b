-- Facts by the place that they speak of, and what they make of its range. Places 0 to 31 are registers, 32 to 34 the pairs X, Y and Z.
use Rattle.std.specs.Prelude.{◌≡◌, ℕ, ◌+◌, ◌<◌, ◌≤◌, ◌==◌, nat_lt, not, ◌&&◌, List, [], ◌∷◌, Option, Some, None, length}
use Rattle.std.specs.Prelude.{slice_index_or, slice_set}
use Rattle.std.specs.Prelude.{if◌then◌else◌, ⊤}
use Rattle.uz_schedule.specs.Ends.{Ends, is_within}
use Rattle.uz_schedule.specs.declared.facts.Val.{Val}
use Rattle.uz_schedule.specs.declared.facts.Val.TheVariants.{Range, Old, OldFlags}
use Rattle.uz_search.specs.declared.widening.Widening.{Widening}
use Rattle.uz_search.specs.declared.widening.Widening.TheVariants.{Register, Pair}
use Rattle.uz_search.specs.Widenings.{is_whole}

-- a range by the facts of its place, in their order: it becomes each one that it then lies in
abbrev pub folded : List Ends → Ends → Ends
folded [] e = e
folded (fact ∷ facts) e = folded facts (if is_within e fact then fact else e)

-- interrupted values stay
abbrev pub folded_value : List Ends → Val → Val
folded_value facts (Range e) = Range (folded facts e)
folded_value facts (Old r) = Old r
folded_value facts OldFlags = OldFlags

-- the place that a fact speaks of and its range there, where it says anything
abbrev pub told : Widening → Option (ℕ × Ends)
told (Register r range) = if nat_lt r 32 then Some (r, range) else None
told (Pair k range) = if nat_lt k 3 && not (is_whole range) then Some (32 + k, range) else None

-- the place is there, and a register's range is of bytes
abbrev pub IsTold : Option (ℕ × Ends) → Type 0
IsTold None = ⊤
IsTold (Some t) = (t.0 < 35) × (t.0 < 32 → t.1.hi ≤ 255)

abbrev pub with_told : ℕ → Option (ℕ × Ends) → List Ends → List Ends
with_told place None ranges = ranges
with_told place (Some t) ranges = if t.0 == place then t.1 ∷ ranges else ranges

-- the ranges that facts tell of a place, in their order
abbrev pub ranges_of : ℕ → List Widening → List Ends
ranges_of place [] = []
ranges_of place (fact ∷ facts) = with_told place (told fact) (ranges_of place facts)

-- the facts of each place, with one more before those of its place
abbrev pub chains_with : Option (ℕ × Ends) → List (List Ends) → List (List Ends)
chains_with None chains = chains
chains_with (Some t) chains = slice_set chains t.0 (t.1 ∷ slice_index_or chains t.0 [])

abbrev pub AreBytes : List Ends → Type 0
AreBytes [] = ⊤
AreBytes (range ∷ ranges) = (range.hi ≤ 255) × AreBytes ranges

-- for each place its facts
pub record AreChains (facts : List Widening) (chains : List (List Ends)) : Type 0 where
  pub count : length chains ≡ 35
  pub each : (place : ℕ) → place < 35 → slice_index_or chains place [] ≡ ranges_of place facts
  pub bytes : (place : ℕ) → place < 32 → AreBytes (ranges_of place facts)
