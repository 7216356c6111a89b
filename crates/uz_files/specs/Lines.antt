-- The lines that the commands print. Each ends in LF.
use Rattle.std.specs.Prelude.{ℕ, List, ◌++◌, codes, decimal}

abbrev pub no_memory_line : List ℕ
no_memory_line = codes "no memory\n"

-- a name, which ends in a space, and a number
abbrev pub number_line : List ℕ → ℕ → List ℕ
number_line name number = name ++ decimal number ++ codes "\n"

-- a file that could not be read
abbrev pub unread_line : List ℕ → List ℕ
unread_line name = codes "unread " ++ name ++ codes "\n"

-- a file that is not in its grammar, with its first faulty line and why
abbrev pub bad_line : List ℕ → ℕ → List ℕ → List ℕ
bad_line name line why = codes "bad " ++ name ++ codes " line " ++ decimal line ++ codes " " ++ why ++ codes "\n"
