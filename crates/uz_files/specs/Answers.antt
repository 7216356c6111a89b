-- What a command answers and puts out, and what came of it.
use Rattle.std.specs.Prelude.{◌≡◌, ◌≢◌, ℕ, ◌⊎◌, List, [], ◌∷◌, ◌++◌, take, Option, Some, None}
use Rattle.std.specs.FinMap.{insert}
use Rattle.uz_shelf.specs.Faults.{Rose}
use Rattle.uz_shelf.specs.Files.{FileMap}
use Rattle.uz_shelf.specs.Text.{TakesAll, TakesPrefix}
use Rattle.uz_files.specs.declared.status.Status.{Status}
use Rattle.uz_files.specs.declared.status.Status.TheVariants.{Done, Unwritten, NoMemory}
use Rattle.uz_files.specs.Lines.{no_memory_line}

-- a file that a command creates, and its bytes
pub record Write : Type 0 where
  pub name : List ℕ
  pub bytes : List ℕ

-- what a command comes to: the files that it creates, in their order, and then what it prints, of which
-- the line that ends it stands apart
pub record Answer : Type 0 where
  pub writes : List Write
  pub printed : List ℕ
  pub status : Status
  pub line : List ℕ

-- an answer that creates no file, and prints this before the line that ends it
abbrev pub ended : List ℕ → Status → List ℕ → Answer
ended printed status line = record { writes = []; printed = printed; status = status; line = line }

-- one that prints one line
abbrev pub one_line : Status → List ℕ → Answer
one_line = ended []

-- the file has just these bytes, and all others are as they were
abbrev pub WritesFile : Option FileMap → List ℕ → List ℕ → Option FileMap → Type 0
WritesFile None name bytes new = new ≡ None
WritesFile (Some old) name bytes new = new ≡ Some (insert old name bytes)

-- all files are written whole
abbrev pub WritesAll : Option FileMap → List Write → Option FileMap → Type 0
WritesAll old [] new = new ≡ old
WritesAll old (w ∷ ws) new = (mid : Option FileMap) × WritesFile old w.name w.bytes mid × WritesAll mid ws new

-- the files before some place are written whole, the one there is as it was or holds a prefix of its
-- bytes, and the later ones are untouched
abbrev pub WritesPart : Option FileMap → List Write → Option FileMap → Type 0
WritesPart old [] new = new ≡ old
WritesPart old (w ∷ ws) new =
    (new ≡ old)
    ⊎ (((count : ℕ) × WritesFile old w.name (take count w.bytes) new)
    ⊎ ((mid : Option FileMap) × WritesFile old w.name w.bytes mid × WritesPart mid ws new))

-- in a call a fault of loading came: the shelf's count of them rose
abbrev pub LoadFault : (old new : ℕ) → Type 0
LoadFault old new = Rose old new

-- in a call a fault of writing came: the shelf's count of them rose, or the sink's
abbrev pub WriteFault : (shelf_old shelf_new sink_old sink_new : ℕ) → Type 0
WriteFault shelf_old shelf_new sink_old sink_new = Rose shelf_old shelf_new ⊎ Rose sink_old sink_new

-- files and printed text before a call and after it
pub record Outside : Type 0 where
  pub files : Option FileMap
  pub text : Option (List ℕ)

abbrev pub outside : Option FileMap → Option (List ℕ) → Outside
outside files text = record { files = files; text = text }

-- it ended: all files are written and all is printed, but the line of a fault may be cut short by a fault of writing
pub record Ends (answer : Answer) (write_fault : Type 0) (came : Status) (old new : Outside) : Type 0 where
  pub status : came ≡ answer.status
  pub files : WritesAll old.files answer.writes new.files
  pub done : answer.status ≡ Done → TakesAll old.text (answer.printed ++ answer.line) new.text
  pub whole : (write_fault → ⊥) → TakesAll old.text (answer.printed ++ answer.line) new.text
  pub text : (count : ℕ) × TakesAll old.text (answer.printed ++ take count answer.line) new.text

-- it was cut short: some files are written and nothing is printed, or all are written and a prefix is printed
abbrev pub IsCut : Answer → Outside → Outside → Type 0
IsCut answer old new =
    (WritesPart old.files answer.writes new.files × TakesAll old.text [] new.text)
    ⊎ (WritesAll old.files answer.writes new.files × TakesPrefix old.text (answer.printed ++ answer.line) new.text)

-- cut short for want of memory
abbrev pub LacksMemory : Answer → Status → Outside → Outside → Type 0
LacksMemory answer came old new = (came ≡ NoMemory) × IsCut answer old new

-- cut short by a fault of writing
abbrev pub IsUnwritten : Answer → Type 0 → Status → Outside → Outside → Type 0
IsUnwritten answer write_fault came old new = (came ≡ Unwritten) × write_fault × IsCut answer old new

-- a text without which the answer's status doesn't stand: all that is printed where the command did its work, and else what is
-- printed before the line that ends it. A failure of that line itself changes no other status than Done
abbrev pub IsOwed : Answer → List ℕ → Type 0
IsOwed answer text =
    ((answer.status ≡ Done) × (text ≡ answer.printed ++ answer.line)) ⊎ ((answer.printed ≢ []) × (text ≡ answer.printed))

-- a fault of writing took what the status needs: a file isn't whole and nothing is printed, or all files are whole and a prefix of
-- such a text is printed
abbrev pub LosesOutput : Answer → Type 0 → Status → Outside → Outside → Type 0
LosesOutput answer write_fault came old new =
    (came ≡ Unwritten) × write_fault
    × (((answer.writes ≢ []) × WritesPart old.files answer.writes new.files × TakesAll old.text [] new.text)
    ⊎ (WritesAll old.files answer.writes new.files × ((text : List ℕ) × IsOwed answer text × TakesPrefix old.text text new.text)))

-- what may come of an answer
abbrev pub ComesOf : Answer → Type 0 → Status → Outside → Outside → Type 0
ComesOf answer write_fault came old new =
    Ends answer write_fault came old new
    ⊎ (LosesOutput answer write_fault came old new ⊎ LacksMemory answer came old new)

-- memory was lacking before anything was put out
pub record StartsWithoutMemory (came : Status) (old new : Outside) : Type 0 where
  pub status : came ≡ NoMemory
  pub files : new.files ≡ old.files
  pub text : new.text ≡ old.text

-- A line that was put last: it is printed whole, unless an excuse stands, and then a prefix of it
abbrev pub PutsLast : List ℕ → Type 0 → Option (List ℕ) → Option (List ℕ) → Type 0
PutsLast line excuse old new = TakesAll old line new ⊎ (excuse × TakesPrefix old line new)

-- Where memory was lacking, the line that says so is put last, and else nothing
abbrev pub TellsLack : Status → Type 0 → Option (List ℕ) → Option (List ℕ) → Type 0
TellsLack came excuse old new =
    ((came ≢ NoMemory) × (new ≡ old)) ⊎ ((came ≡ NoMemory) × PutsLast no_memory_line excuse old new)

-- Such a thing came of a call, with what was printed until then, and then the line that tells want of memory
abbrev pub AndTells : (Outside → Type 0) → Status → Type 0 → Outside → Type 0
AndTells Comes came excuse new =
    (printed : Option (List ℕ)) × Comes (outside new.files printed) × TellsLack came excuse printed new.text

-- a command whose work isn't cut short before its answer is known
abbrev pub NoPart : Answer → Type 0
NoPart answer = ⊥

-- What may come of a command that has such answers, and such parts of answers where it is cut short in the midst of its
-- work: memory was lacking from the start, or it came to an answer, or a part of one was cut short
abbrev pub MayCome : (Answer → Type 0) → (Answer → Type 0) → Type 0 → Status → Outside → Outside → Type 0
MayCome Whole Part write_fault came old new =
    StartsWithoutMemory came old new
    ⊎ (((answer : Answer) × Whole answer × ComesOf answer write_fault came old new)
    ⊎ ((answer : Answer) × Part answer × (IsUnwritten answer write_fault came old new ⊎ LacksMemory answer came old new)))
