-- Words that begin with the name of the flag C or Z, `c=` or `z=`; Z is also the name of a pair.
use Rattle.std.specs.Prelude.{ℕ, ◌==◌, ◌&&◌, ◌||◌, Bool, false, List, [], ◌∷◌}
use Prim.Native.Char.{code}

abbrev pub names_c_or_z : List ℕ → Bool
names_c_or_z [] = false
names_c_or_z (c ∷ []) = false
names_c_or_z (c ∷ d ∷ cs) = ((c == code "c") || (c == code "z")) && (d == code "=")

abbrev pub any_names : List (List ℕ) → Bool
any_names [] = false
any_names (w ∷ ws) = names_c_or_z w || any_names ws
