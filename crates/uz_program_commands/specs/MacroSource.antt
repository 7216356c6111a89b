-- What the expansion of a source says: its flat text with the origins, or its first refusal.
use Rattle.std.specs.Prelude.{◌≡◌, ◌≢◌, ℕ, ◌⊎◌, List, [], ◌∷◌, slice_index_or, Option, Ok, Err}
use Rattle.uz_shelf.specs.Files.{FileMap}
use Rattle.avr_macro.specs.declared.errors.MacroError.{MacroError}
use Rattle.avr_macro.specs.declared.errors.MacroWhy.{MacroWhy}
use Rattle.avr_macro.specs.declared.errors.MacroWhy.TheVariants as why
use Rattle.avr_macro.specs.declared.origin.Origin.{Origin}
use Rattle.avr_macro.specs.Expansion.{End, Expands, FlatText, LacksLast, Refusal}
use Rattle.uz_files.specs.declared.status.Status.TheVariants.{BadInput, Unread}
use Rattle.uz_files.specs.Answers.{Answer, one_line}
use Rattle.avr_macro.specs.WhyNames.{macro_why_name}
use Rattle.uz_files.specs.Lines.{bad_line, unread_line}

-- the file of an origin, and the last file that was asked for
abbrev pub name_at : List (List ℕ) → ℕ → List ℕ
name_at names k = slice_index_or names k []

abbrev pub last_name : List (List ℕ) → List ℕ
last_name [] = []
last_name (name ∷ []) = name
last_name (name ∷ more ∷ names) = last_name (more ∷ names)

-- a refusal is told at its line of its file, and a file that can't be read by its name
abbrev pub bad_line_of : List (List ℕ) → Origin → List ℕ → List ℕ
bad_line_of names at why = bad_line (name_at names at.file) at.line why

abbrev pub bad_at : List (List ℕ) → Origin → List ℕ → Answer
bad_at names at why = one_line BadInput (bad_line_of names at why)

abbrev pub refusal_answer : List (List ℕ) → Origin → MacroWhy → Answer
refusal_answer names at why.Unread = one_line Unread (unread_line (last_name names))
refusal_answer names at reason = bad_at names at (macro_why_name reason)

-- the source comes to a refusal, and a file that can't be read isn't there
pub record IsRefusedSource (files : Option FileMap) (source : List ℕ) (answer : Answer) : Type 0 where
  pub end : End
  pub expands : Expands files source end
  pub refusal : Refusal
  pub refused : end.answer ≡ Err refusal
  pub lacks : refusal.reason ≡ why.Unread → LacksLast files end.names
  pub told : answer ≡ refusal_answer end.names refusal.at refusal.reason

-- some file that is asked for isn't there, all earlier ones being read
abbrev pub MacroLacks : Option FileMap → List ℕ → Type 0
MacroLacks files source = (end : End) × Expands files source end × LacksLast files end.names

-- loading met a fault, or the source is refused
abbrev pub ExpandFails : Option FileMap → Type 0 → List ℕ → Answer → Type 0
ExpandFails files load_fault source answer =
    (load_fault × ((name : List ℕ) × (answer ≡ one_line Unread (unread_line name)))) ⊎ IsRefusedSource files source answer

-- the source comes to a flat text, with the names of its files
abbrev pub flat_of : List (List ℕ) → FlatText → End
flat_of names flat = record { names = names; answer = Ok flat }

-- the source is expanded, and its flat text leads on to the answer; or it ends the command
abbrev pub ReadsFlat : Option FileMap → Type 0 → List ℕ → (List (List ℕ) → FlatText → Answer → Type 0) → Answer → Type 0
ReadsFlat files load_fault source next answer =
    ExpandFails files load_fault source answer
    ⊎ ((names : List (List ℕ)) × (flat : FlatText) × Expands files source (flat_of names flat) × next names flat answer)

-- the answer tells the refusal, which isn't want of memory
abbrev pub TellsRefusal : List (List ℕ) → MacroError → Answer → Type 0
TellsRefusal names error answer = (error.why ≢ why.Memory) × (answer ≡ refusal_answer names error.at error.why)
