-- The expansion of a file: a relation between files and what they come to.
use Rattle.std.specs.Prelude.{◌≡◌, ℕ, ◌≤◌, List, [], ◌∷◌, ◌++◌, length, Option, Result, Ok, Err}
use Rattle.uz_shelf.specs.Files.{FileMap, HoldsFile, HoldsLonger, LacksFile}
use Rattle.avr_macro.specs.declared.origin.Origin.{Origin}
use Rattle.avr_macro.specs.declared.errors.MacroWhy.{MacroWhy}
use Rattle.avr_macro.specs.declared.errors.MacroWhy.TheVariants.{Unread, TooLong}
use Rattle.avr_macro.specs.Moves.{Move, goes, loads, refuses, included, move_of}
use Rattle.avr_macro.specs.States.{Level, State, around, first_state, text_limit}

-- a flat text with the origin of each line
pub record FlatText : Type 0 where
  pub text : List ℕ
  pub origins : List Origin

-- where a line is refused, and why
pub record Refusal : Type 0 where
  pub at : Origin
  pub reason : MacroWhy

-- what an expansion comes to: the names of its files in the order in which they are asked for, and the flat text or the
-- first refusal
pub record End : Type 0 where
  pub names : List (List ℕ)
  pub answer : Result FlatText Refusal

-- the state has an innermost level, whose line or end does this
pub record Does (s : State) (level : Level) (outer : List Level) (move : Move) : Type 0 where
  pub levels : s.levels ≡ level ∷ outer
  pub does : move_of level (around outer s) ≡ move

-- One line is expanded, with the names of the files so far before and after it.
pub data Step (files : Option FileMap) : List (List ℕ) → State → List (List ℕ) → State → Type 0 where
  step_goes : {names : List (List ℕ)} {s t : State} (level : Level) (outer : List Level) → Does s level outer (goes t) → Step files names s
      names t
  step_loads : {names : List (List ℕ)} {s t : State} (level : Level) (outer : List Level) (name bytes : List ℕ) → Does s level outer
      (loads name)
      → HoldsFile files name bytes → length bytes ≤ text_limit → included (length names) bytes level (around outer s) ≡ goes t
      → Step files names s (names ++ name ∷ []) t

-- one line after another is expanded
pub data Reaches (files : Option FileMap) (names : List (List ℕ)) (s : State) : List (List ℕ) → State → Type 0 where
  reaches_here : Reaches files names s names s
  reaches_more : {middle later : List (List ℕ)} {t u : State} → Reaches files names s middle t → Step files middle t later u → Reaches files
      names s later u

abbrev pub flat_end : List (List ℕ) → State → End
flat_end names s = record { names = names; answer = Ok (record { text = s.text; origins = s.origins }) }

abbrev pub refused_end : List (List ℕ) → Origin → MacroWhy → End
refused_end names at reason = record { names = names; answer = Err (record { at = at; reason = reason }) }

-- Nothing is left to expand, or the next line is refused: by itself, or since its file is lacking or too long, or once
-- its file is there.
pub data Ends (files : Option FileMap) (names : List (List ℕ)) (s : State) : End → Type 0 where
  ends_flat : s.levels ≡ [] → Ends files names s (flat_end names s)
  ends_refused : (level : Level) (outer : List Level) (reason : MacroWhy) → Does s level outer (refuses reason) → Ends files names s
      (refused_end names level.origin reason)
  ends_unread : (level : Level) (outer : List Level) (name : List ℕ) → Does s level outer (loads name)
      → LacksFile files name → Ends files names s (refused_end (names ++ name ∷ []) level.origin Unread)
  ends_too_long : (level : Level) (outer : List Level) (name : List ℕ) → Does s level outer (loads name)
      → HoldsLonger files name text_limit → Ends files names s (refused_end (names ++ name ∷ []) level.origin TooLong)
  ends_loaded : (level : Level) (outer : List Level) (name bytes : List ℕ) (reason : MacroWhy) → Does s level outer (loads name)
      → HoldsFile files name bytes → length bytes ≤ text_limit → included (length names) bytes level (around outer s) ≡ refuses reason
      → Ends files names s (refused_end (names ++ name ∷ []) level.origin reason)

-- line 0 of the first file, where the file as a whole is meant
abbrev pub first_place : Origin
first_place = record { file = 0; line = 0 }

-- what the expansion of a named file comes to
pub data Expands (files : Option FileMap) (name : List ℕ) : End → Type 0 where
  expands_lacking : LacksFile files name → Expands files name (refused_end (name ∷ []) first_place Unread)
  expands_too_long : HoldsLonger files name text_limit → Expands files name (refused_end (name ∷ []) first_place TooLong)
  expands_lines : {end : End} (bytes : List ℕ) (names : List (List ℕ)) (s : State) → HoldsFile files name bytes → length bytes ≤ text_limit
      → Reaches files (name ∷ []) (first_state bytes) names s → Ends files names s end → Expands files name end

-- the answer: the flat text, or a refusal
abbrev pub flat_answer : List ℕ → List Origin → Result FlatText Refusal
flat_answer text origins = Ok (record { text = text; origins = origins })

-- the first names of a list
abbrev pub BeginsWith : List (List ℕ) → List (List ℕ) → Type 0
BeginsWith names more = (rest : List (List ℕ)) × (names ++ rest ≡ more)

-- a shelf that tells its files holds none of the last name
abbrev pub LacksLast : Option FileMap → List (List ℕ) → Type 0
LacksLast files [] = ⊥
LacksLast files (name ∷ []) = LacksFile files name
LacksLast files (name ∷ more ∷ names) = LacksLast files (more ∷ names)
