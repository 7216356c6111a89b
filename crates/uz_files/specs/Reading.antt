-- What loading and reading a file gives.
use Rattle.std.specs.Prelude.{◌≡◌, ℕ, ◌⊎◌, ◌≤◌, List, length, codes, Option}
use Rattle.uz_shelf.specs.Files.{FileMap, HoldsFile, HoldsLonger, LacksFile}
use Rattle.uz_files.specs.declared.status.Status.TheVariants.{Unread, BadInput}
use Rattle.uz_files.specs.Answers.{Answer, one_line}
use Rattle.uz_files.specs.Lines.{unread_line, bad_line}

-- a text's first faulty line, and why, as it is printed
abbrev pub Fault : Type 0
Fault = ℕ × List ℕ

-- the limits of the files, in bytes: a source, a HEX text and a pad file, and a certificate
abbrev pub text_limit : ℕ
text_limit = 1048576

abbrev pub certificate_limit : ℕ
certificate_limit = 1073741824

-- a text's first fault, by a relation between texts, lines and whys, and the name of its why
abbrev pub Refuses : {W : Type 0} → (List ℕ → ℕ → W → Type 0) → (W → List ℕ) → List ℕ → Fault → Type 0
Refuses {W} is_first name_of text fault = (why : W) × is_first text fault.0 why × (fault.1 ≡ name_of why)

-- a text spells one thing at most or has one first fault, and never both
pub record IsReader {A : Type 0} (spells : List ℕ → A → Type 0) (refuses : List ℕ → Fault → Type 0) : Type 0 where
  pub one : (text : List ℕ) (x y : A) → spells text x → spells text y → x ≡ y
  pub first : (text : List ℕ) (x y : Fault) → refuses text x → refuses text y → x ≡ y
  pub apart : (text : List ℕ) (x : A) (y : Fault) → spells text x → refuses text y → ⊥

-- the named file was loaded within its limit, and its text spells this
pub record Says {A : Type 0} (files : Option FileMap) (name : List ℕ) (limit : ℕ) (spells : List ℕ → A → Type 0) (said : A) : Type 0 where
  pub bytes : List ℕ
  pub held : HoldsFile files name bytes
  pub short : length bytes ≤ limit
  pub reads : spells bytes said

-- the named file was loaded within its limit, and its text has a fault
pub record IsFaulty (files : Option FileMap) (name : List ℕ) (limit : ℕ) (refuses : List ℕ → Fault → Type 0) (came : Answer) : Type 0 where
  pub bytes : List ℕ
  pub held : HoldsFile files name bytes
  pub short : length bytes ≤ limit
  pub fault : Fault
  pub reads : refuses bytes fault
  pub answer : came ≡ one_line BadInput (bad_line name fault.0 fault.1)

-- the named file ends the command before it is read: loading met a fault or the file isn't there, or it is
-- longer than its limit
abbrev pub IsUnloaded : Option FileMap → Type 0 → List ℕ → ℕ → Answer → Type 0
IsUnloaded files load_fault name limit answer =
    ((answer ≡ one_line Unread (unread_line name)) × (load_fault ⊎ LacksFile files name))
    ⊎ ((answer ≡ one_line BadInput (bad_line name 0 (codes "TooLong"))) × HoldsLonger files name limit)

-- the named file ends the command: it isn't loaded, or it isn't in its grammar
abbrev pub Fails : Option FileMap → Type 0 → List ℕ → ℕ → (List ℕ → Fault → Type 0) → Answer → Type 0
Fails files load_fault name limit refuses answer = IsUnloaded files load_fault name limit answer ⊎ IsFaulty files name limit refuses answer

-- the named file is loaded and read, and what it says leads on to the answer; or it ends the command
abbrev pub Reads : {A : Type 0} → Option FileMap → Type 0 → List ℕ → ℕ → (List ℕ → A → Type 0) → (List ℕ → Fault → Type 0)
    → (A → Answer → Type 0) → Answer → Type 0
Reads {A} files load_fault name limit spells refuses next answer =
    Fails files load_fault name limit refuses answer ⊎ ((said : A) × Says files name limit spells said × next said answer)
