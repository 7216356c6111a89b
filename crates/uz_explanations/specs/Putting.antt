-- Values behind others that are all different.
use Rattle.std.specs.Prelude.{Bool, false, ◌||◌, if◌then◌else◌, List, [], ◌∷◌, ◌++◌, Option, Some, None, length, nat_lt}
use Rattle.uz_explanations.specs.declared.parts.Value.{Value}
use Rattle.uz_explanations.specs.Parts.{same}
use Rattle.uz_explanations.specs.Differing.{most_values}

abbrev pub is_among : List Value → Value → Bool
is_among [] x = false
is_among (y ∷ ys) x = same y x || is_among ys x

-- unless it is there
abbrev pub put_once : List Value → Value → List Value
put_once xs x = if is_among xs x then xs else xs ++ x ∷ []

-- unless it is there, or there are as many as are counted
abbrev pub kept : List Value → Value → List Value
kept xs x = if nat_lt (length xs) most_values then put_once xs x else xs

-- where anything is said
abbrev pub noted : List Value → Option Value → List Value
noted xs None = xs
noted xs (Some x) = kept xs x

-- one value after another
abbrev pub keep_all : List Value → List Value → List Value
keep_all seen [] = seen
keep_all seen (x ∷ xs) = keep_all (kept seen x) xs
