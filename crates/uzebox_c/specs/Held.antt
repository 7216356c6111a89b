-- Files in memory.
use Rattle.std.specs.Prelude.{ℕ, List, [], ◌∷◌, map, Option, Some, None, bytes_eq, if◌then◌else◌}
use Rattle.std.specs.FinMap.{from_entries}
use Rattle.uz_shelf.specs.Files.{FileMap}
use Rattle.uzebox_c.specs.Packed.{NamedFile}
use Rattle.uzebox_c.specs.declared.held.Given.{Given}
use Rattle.uzebox_c.specs.declared.held.Held.{Held}
use Rattle.uzebox_c.specs.declared.held.HeldFiles.{HeldFiles}

-- the map of files, of which the first of a name counts
abbrev pub map_of : List NamedFile → FileMap
map_of files = from_entries files

-- the bytes of the first file of that name
abbrev pub bytes_of : List NamedFile → List ℕ → Option (List ℕ)
bytes_of [] name = None
bytes_of (file ∷ files) name = if bytes_eq name file.0 then Some file.1 else bytes_of files name

abbrev pub given_files : List Given → List NamedFile
given_files = map (λ file. (file.name.now, file.bytes.now))

abbrev pub files_of : List Held → List NamedFile
files_of = map (λ file. (file.name.items, file.bytes.items))

-- the name of the open file: only the first can be open
abbrev pub open_in : List Held → Option (List ℕ)
open_in [] = None
open_in (file ∷ files) = if file.is_open then Some file.name.items else None

abbrev pub held_files : HeldFiles → List NamedFile
held_files held = files_of held.files.items

-- they are told
abbrev pub told_files : HeldFiles → Option FileMap
told_files held = Some (map_of (held_files held))

-- the name of the file that is open
abbrev pub held_open : HeldFiles → Option (List ℕ)
held_open held = open_in held.files.items
