-- The places at which a number stands in a list, as words: runs of places that follow each other, a run of one by its place and a longer
-- one by its first and its last place.
use Rattle.std.specs.Prelude.{ℕ, zero, suc, ◌+◌, ◌-◌, ◌==◌, nat_lt, ◌&&◌, Bool, true, false, List, [], ◌∷◌, ◌++◌, length, Option, Some, None}
use Rattle.std.specs.Prelude.{slice_get, if◌then◌else◌, codes, decimal}

-- whether a number stands in a list
abbrev pub has : ℕ → List ℕ → Bool
has n [] = false
has n (m ∷ numbers) = if m == n then true else has n numbers

abbrev pub is_number : ℕ → Option ℕ → Bool
is_number n None = false
is_number n (Some m) = m == n

abbrev pub stands_at : List ℕ → ℕ → ℕ → Bool
stands_at numbers n place = is_number n (slice_get numbers place)

-- a run goes on to this place
abbrev pub goes_on_to : List ℕ → ℕ → ℕ → Bool
goes_on_to numbers n place = nat_lt 0 place && stands_at numbers n (place - 1)

-- where a run ends that is longer than one
abbrev pub end_word : List ℕ → ℕ → ℕ → List ℕ
end_word numbers n place = if stands_at numbers n (place + 1) then [] else codes "-" ++ decimal place

-- where a run begins, its first place; where a longer one ends, its last
abbrev pub place_word : List ℕ → ℕ → ℕ → List ℕ
place_word numbers n place = if goes_on_to numbers n place then end_word numbers n place else codes " " ++ decimal place

abbrev pub word_at : List ℕ → ℕ → ℕ → List ℕ
word_at numbers n place = if stands_at numbers n place then place_word numbers n place else []

-- of the places below one
abbrev pub words_below : List ℕ → ℕ → ℕ → List ℕ
words_below numbers n zero = []
words_below numbers n (suc place) = words_below numbers n place ++ word_at numbers n place

unfoldable pub place_words : List ℕ → ℕ → List ℕ
place_words numbers n = words_below numbers n (length numbers)
