-- What a shelf tells of its files, and how loading, creating and appending change them.
-- A shelf that doesn't tell its files tells `None`, and then no clause on content says anything.
use Rattle.std.specs.Prelude.{◌≡◌, ℕ, ◌<◌, ◌⊎◌, List, [], Option, Some, None, length, take, ◌++◌, unwrap_or}
use Rattle.std.specs.Ordering.{nat_cmp}
use Rattle.std.specs.Cmp.Lexicographic.{slice_cmp}
use Rattle.std.specs.FinMap.{FinMap, get, insert}

-- the bytes of each file by its name
abbrev pub FileMap : Type 0
FileMap = FinMap (slice_cmp nat_cmp) (List ℕ)

-- the shelf tells its files, and none has that name
abbrev pub LacksFile : Option FileMap → List ℕ → Type 0
LacksFile None name = ⊥
LacksFile (Some files) name = get files name ≡ None

-- where the files are told, the named one has these bytes
abbrev pub HoldsFile : Option FileMap → List ℕ → List ℕ → Type 0
HoldsFile None name bytes = Unit {0}
HoldsFile (Some files) name bytes = get files name ≡ Some bytes

-- where the files are told, the named one has more bytes than the limit
abbrev pub HoldsLonger : Option FileMap → List ℕ → ℕ → Type 0
HoldsLonger None name limit = Unit {0}
HoldsLonger (Some files) name limit = (bytes : List ℕ) × (get files name ≡ Some bytes) × (limit < length bytes)

-- the named file is empty now, and all others are as they were
abbrev pub Creates : Option FileMap → List ℕ → Option FileMap → Type 0
Creates None name new = new ≡ None
Creates (Some old) name new = new ≡ Some (insert old name [])

-- the named file is as it was or empty, and all others are as they were
abbrev pub CreatesOrKeeps : Option FileMap → List ℕ → Option FileMap → Type 0
CreatesOrKeeps old name new = (new ≡ old) ⊎ Creates old name new

-- a file's bytes so far
abbrev pub bytes_so_far : FileMap → List ℕ → List ℕ
bytes_so_far files name = unwrap_or (get files name) []

-- the open file goes on by the piece, and all others are as they were
abbrev pub AppendsAll : Option FileMap → Option (List ℕ) → List ℕ → Option FileMap → Type 0
AppendsAll None name piece new = new ≡ None
AppendsAll (Some old) None piece new = new ≡ Some old
AppendsAll (Some old) (Some name) piece new = new ≡ Some (insert old name (bytes_so_far old name ++ piece))

-- the open file goes on by a prefix of the piece, and all others are as they were
abbrev pub AppendsPrefix : Option FileMap → Option (List ℕ) → List ℕ → Option FileMap → Type 0
AppendsPrefix old name piece new = (count : ℕ) × AppendsAll old name (take count piece) new

-- the file has just these bytes, and all others are as they were
abbrev pub WritesFile : Option FileMap → List ℕ → List ℕ → Option FileMap → Type 0
WritesFile None name bytes new = new ≡ None
WritesFile (Some old) name bytes new = new ≡ Some (insert old name bytes)
