-- What the shelf in memory holds.
use Rattle.std.specs.Prelude.{ℕ, List, [], ◌∷◌, map, Option, Some, None, bytes_eq, if◌then◌else◌}
use Rattle.std.specs.FinMap.{from_entries}
use Rattle.uz_shelf.specs.Files.{FileMap}
use Rattle.uz_shelf.specs.declared.fail.Fail.{Fail}
use Rattle.uz_shelf.specs.declared.memory_shelf.File.{File}
use Rattle.uz_shelf.specs.declared.memory_shelf.MemoryShelf.{MemoryShelf}

-- the map of a list of files, of which the first of a name counts
abbrev pub files_of : List File → FileMap
files_of files = from_entries (map (λ f. (f.name.items, f.bytes.items)) files)

-- the bytes of the first file of that name
abbrev pub bytes_of : List File → List ℕ → Option (List ℕ)
bytes_of [] name = None
bytes_of (f ∷ fs) name = if bytes_eq name f.name.items then Some f.bytes.items else bytes_of fs name

-- the name of the first file
abbrev pub first_name : List File → Option (List ℕ)
first_name [] = None
first_name (f ∷ fs) = Some f.name.items

-- the name of the open file: only the first of the list can be open
abbrev pub open_in : List File → Option (List ℕ)
open_in [] = None
open_in (f ∷ fs) = if f.is_open then Some f.name.items else None

-- the files that the shelf holds
abbrev pub held_files : MemoryShelf → FileMap
held_files shelf = files_of shelf.files.items

-- it tells them
abbrev pub told_files : MemoryShelf → Option FileMap
told_files shelf = Some (held_files shelf)

-- the name of the file that is open
abbrev pub held_open : MemoryShelf → Option (List ℕ)
held_open shelf = open_in shelf.files.items

-- its planned faults
abbrev pub plan_of : MemoryShelf → List Fail
plan_of shelf = shelf.fails.items

-- how many calls were made
abbrev pub calls_of : MemoryShelf → ℕ
calls_of shelf = shelf.calls

abbrev pub load_faults_of : MemoryShelf → ℕ
load_faults_of shelf = shelf.load_faults

abbrev pub write_faults_of : MemoryShelf → ℕ
write_faults_of shelf = shelf.write_faults
