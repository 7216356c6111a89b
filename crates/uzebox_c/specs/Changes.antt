-- Which files a run changed.
use Rattle.std.specs.Prelude.{◌≡◌, ℕ, Bool, false, not, is_some, List, [], ◌∷◌, ◌++◌, Option, Some, None, bytes_eq, if◌then◌else◌}
use Rattle.std.specs.FinMap.{get}
use Rattle.uz_shelf.specs.Files.{FileMap}
use Rattle.uzebox_c.specs.Packed.{NamedFile}
use Rattle.uzebox_c.specs.Held.{bytes_of}

-- the bytes of a file after a run, if there is one and it isn't as it was before
abbrev pub changed : (before after : Option (List ℕ)) → Option (List ℕ)
changed before None = None
changed None (Some bytes) = Some bytes
changed (Some old) (Some bytes) = if bytes_eq old bytes then None else Some bytes

-- no two files have one name
abbrev pub EachOnce : List NamedFile → Type 0
EachOnce [] = Unit {0}
EachOnce (file ∷ files) = (bytes_of files file.0 ≡ None) × EachOnce files

-- just the files that a run made or changed, each once
pub record AreChanges (before after : FileMap) (changes : List NamedFile) : Type 0 where
  pub each : (name : List ℕ) → bytes_of changes name ≡ changed (get before name) (get after name)
  pub once : EachOnce changes

-- as the list of files is read, with the newest first: a file is told where none before it has its name and it wasn't so
abbrev pub is_same : Option (List ℕ) → List ℕ → Bool
is_same None bytes = false
is_same (Some old) bytes = bytes_eq old bytes

abbrev pub is_news : (given newer : List NamedFile) → NamedFile → Bool
is_news given newer file = if is_some (bytes_of newer file.0) then false else not (is_same (bytes_of given file.0) file.1)

abbrev pub if_news : (given newer : List NamedFile) → NamedFile → List NamedFile
if_news given newer file = if is_news given newer file then file ∷ [] else []

unfoldable pub news_from : (given newer files : List NamedFile) → List NamedFile
news_from given newer [] = []
news_from given newer (file ∷ files) = if_news given newer file ++ news_from given (newer ++ file ∷ []) files

abbrev pub news_of : (given files : List NamedFile) → List NamedFile
news_of given files = news_from given [] files
