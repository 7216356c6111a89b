-- What a command gives over words and files that are handed in.
use Rattle.std.specs.Prelude.{◌≡◌, ◌≢◌, ℕ, ◌<◌, ◌⊎◌, List, [], ◌∷◌, ◌++◌, drop, length, None, Some, IfSome}
use Rattle.uz_shelf.specs.Files.{FileMap}
use Rattle.uz_files.specs.Answers.{AndTells, ComesOf, MayCome, Outside, one_line, outside}
use Rattle.uz_files.specs.declared.status.Status.{Status}
use Rattle.uz_files.specs.declared.status.Status.TheVariants as status
use Rattle.uz_top.specs.Commands.{Answers, Certifies, CreatesNone, IsDecided, LacksRead, PartAnswers, StopTells, Succeeds}
use Rattle.uz_top.specs.Topics.{usage_line}
use Rattle.uz_top.specs.Words.{command_of}
use Rattle.uzebox_c.specs.Changes.{AreChanges}
use Rattle.uzebox_c.specs.Held.{map_of}
use Rattle.uzebox_c.specs.Packed.{AreFiles, AreWords, NamedFile, as_texts, packed}
use Rattle.uzebox_c.specs.declared.run.Ran.{Ran}

-- files that are told, and text that is told
abbrev pub told : FileMap → List ℕ → Outside
told files text = outside (Some files) (Some text)

-- A command's run over these files, with nothing printed before: all that the one call of the commands promises, where no fault of
-- reading or writing comes. `old` and `new` are the files and the text before it and after it.
pub record IsRun (words : List (List ℕ)) (came : Status) (old new : FileMap) (printed : List ℕ) : Type 0 where
  -- the words are no command
  pub usage : came ≡ status.Usage → command_of words ≡ None
  pub no_command : command_of words ≡ None → (came ≡ status.Usage) ⊎ (came ≡ status.NoMemory)
  pub usage_line : command_of words ≡ None
      → AndTells (ComesOf (one_line status.Usage usage_line) ⊥ came (told old [])) came (Unit {0}) (told new printed)
  pub usage_files : command_of words ≡ None → new ≡ old
  -- they are one: status, printed text and files come of an answer that the words and the files give
  pub answered : IfSome (command_of words) (λ c. AndTells
      (MayCome (Answers (Some old) ⊥ c) (PartAnswers (Some old) c) ⊥ came (told old [])) came (Unit {0}) (told new printed))
  -- and they decide it, for `certify`, `find`, `why`, `demo` and `hints` with what was found or proposed, unless memory is lacking
  pub exact : IfSome (command_of words) (λ c. (came ≡ status.NoMemory) ⊎ IsDecided (Some old) ⊥ c came (told old []) (told new printed))
  -- a file is unread only where it lacks; none can't be written
  pub unread : came ≡ status.Unread → IfSome (command_of words) (LacksRead (Some old))
  pub unwritten : came ≢ status.Unwritten
  pub complete : IfSome (command_of words) (λ c. Succeeds (Some old) c → (came ≡ status.Done) ⊎ (came ≡ status.NoMemory))
  -- what a command that is done, or stopped, is worth
  pub certified : came ≡ status.Done → IfSome (command_of words) (Certifies (Some old) (Some new))
  pub halted : came ≡ status.Stopped → IfSome (command_of words) (StopTells (Some old))
  pub untouched : IfSome (command_of words) (λ c. CreatesNone c → new ≡ old)

-- the words and files that bytes hold, a run over them, and its answer as one row of bytes: the printed text, then each file that the
-- run made or changed
pub record Answered (words_in files_in : List ℕ) (came : Status) (answer : List ℕ) : Type 0 where
  pub words : List (List ℕ)
  pub files : List NamedFile
  pub new : FileMap
  pub printed : List ℕ
  pub changes : List NamedFile
  pub are_words : AreWords words_in words
  pub are_files : AreFiles files_in files
  pub is_run : IsRun words came (map_of files) new printed
  pub are_changes : AreChanges (map_of files) new changes
  pub whole : answer ≡ packed (printed ∷ as_texts changes)

-- the bytes hold no words, or no files
abbrev pub Malformed : List ℕ → List ℕ → Type 0
Malformed words_in files_in = (words : List (List ℕ)) (files : List NamedFile) → AreWords words_in words → AreFiles files_in files → ⊥

-- the program's exit statuses
abbrev pub exit_status : Status → ℕ
exit_status status.Done = 0
exit_status status.Usage = 1
exit_status status.Unread = 2
exit_status status.BadInput = 3
exit_status status.Refused = 4
exit_status status.Unwritten = 5
exit_status status.Stopped = 6
exit_status status.NotEntered = 7
exit_status status.NoMemory = 8

-- The command ran, and its answer comes first in the caller's bytes, or has no room there: 256. Else the words or files are malformed:
-- 257, or memory was lacking: 258
abbrev pub RunAnswers : List ℕ → List ℕ → List ℕ → List ℕ → Ran → Type 0
RunAnswers words_in files_in before after ran =
    ((came : Status) × (answer : List ℕ) × Answered words_in files_in came answer × (ran.length ≡ length answer)
    × (((ran.status ≡ exit_status came) × (after ≡ answer ++ drop (length answer) before))
    ⊎ ((ran.status ≡ 256) × (length before < length answer) × (after ≡ before))))
    ⊎ (((ran.status ≡ 257) × Malformed words_in files_in × (after ≡ before))
    ⊎ ((ran.status ≡ 258) × (after ≡ before)))
