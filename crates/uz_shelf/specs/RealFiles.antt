-- What the shelf of real files has met, and what a load and a write of it give.
use Rattle.std.specs.Prelude.{◌≡◌, ℕ, ◌<◌, List, length, Option, Some, None, option_map, string_bytes, IfSome, Bool, true, false, Result, Ok, Err}
use Rattle.std.specs.Io.KnownBytes.{Appends}
use Rattle.uz_shelf.specs.Faults.{raised}
use Rattle.uz_shelf.specs.Files.{FileMap}
use Rattle.uz_shelf.specs.declared.disk_shelf.DiskShelf.{DiskShelf}
use Rattle.uz_shelf.specs.declared.disk_shelf.OpenFile.{OpenFile}
use Rattle.uz_shelf.specs.declared.errors.LoadError.{LoadError}
use Rattle.uz_shelf.specs.declared.errors.LoadError.TheVariants as load
use Rattle.uz_shelf.specs.declared.errors.WriteError.{WriteError}
use Rattle.uz_shelf.specs.declared.errors.WriteError.TheVariants as write

-- it tells no file
abbrev pub told_files : {R F D : Type 0} → DiskShelf R F D → Option FileMap
told_files shelf = None

-- the name of the file that is open for writing
abbrev pub open_name : {R F D : Type 0} → DiskShelf R F D → Option (List ℕ)
open_name shelf = option_map (λ opened. string_bytes opened.name) shelf.target

-- the name of the open file where it was cut short, and else of one that wasn't created
abbrev pub cut_or_uncreated : Bool → Option (List ℕ) → Option (List ℕ) → Option (List ℕ)
cut_or_uncreated true (Some name) uncreated = Some name
cut_or_uncreated true None uncreated = uncreated
cut_or_uncreated false name uncreated = uncreated

-- the name of the file that couldn't be created or was cut short, if the last one that was to be written is one
abbrev pub unwritten_name : {R F D : Type 0} → DiskShelf R F D → Option (List ℕ)
unwritten_name shelf = cut_or_uncreated shelf.is_cut (open_name shelf) (option_map string_bytes shelf.uncreated)

-- its bytes, where a file tells them
abbrev pub bytes_in : {R F D : Type 0} → (F → Option (List ℕ)) → Option (OpenFile R F D) → Option (List ℕ)
bytes_in contents None = None
bytes_in contents (Some opened) = contents opened.file

-- where it tells them, they grow by these
abbrev pub AppendsOpen : {R F D : Type 0} → (F → Option (List ℕ)) → DiskShelf R F D → DiskShelf R F D → List ℕ → Type 0
AppendsOpen contents old new bytes = Appends (bytes_in contents old.target) (bytes_in contents new.target) bytes

-- how many faults it has met
abbrev pub load_faults_of : {R F D : Type 0} → DiskShelf R F D → ℕ
load_faults_of shelf = shelf.load_faults

abbrev pub write_faults_of : {R F D : Type 0} → DiskShelf R F D → ℕ
write_faults_of shelf = shelf.write_faults

-- a file was opened, and these are all its bytes, where it tells them
abbrev pub IsWhole : {F : Type 0} → (F → Option (List ℕ)) → List ℕ → Type 0
IsWhole {F} remaining bytes = (file : F) × IfSome (remaining file) (λ left. bytes ≡ left)

-- a file was opened, and it has more bytes than the limit, where it tells them
abbrev pub IsLonger : {F : Type 0} → (F → Option (List ℕ)) → ℕ → Type 0
IsLonger {F} remaining limit = (file : F) × IfSome (remaining file) (λ left. limit < length left)

-- a count of faults after a load, which only one that failed raises
abbrev pub count_after_load : {A : Type 0} → Result A LoadError → ℕ → ℕ
count_after_load (Ok x) count = count
count_after_load (Err load.Failed) count = raised count
count_after_load (Err load.TooLong) count = count
count_after_load (Err load.Memory) count = count

-- and after a write
abbrev pub count_after_write : {A : Type 0} → Result A WriteError → ℕ → ℕ
count_after_write (Ok x) count = count
count_after_write (Err write.Failed) count = raised count
count_after_write (Err write.Memory) count = count

-- the name of the file that failed, after a file was to be created
abbrev pub name_after_create : {A : Type 0} → Result A WriteError → List ℕ → Option (List ℕ)
name_after_create (Ok x) name = None
name_after_create (Err write.Failed) name = Some name
name_after_create (Err write.Memory) name = None

-- and after a piece was to be added to the open one
abbrev pub name_after_append : {A : Type 0} → Result A WriteError → (open_name failed : Option (List ℕ)) → Option (List ℕ)
name_after_append (Ok x) name failed = failed
name_after_append (Err write.Failed) name failed = name
name_after_append (Err write.Memory) name failed = failed
