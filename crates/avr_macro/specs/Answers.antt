-- What came of an expansion, whether it reached its end or was cut short.
use Rattle.std.specs.Prelude.{◌≡◌, ◌⊎◌, ℕ, ◌≤◌, List, [], ◌∷◌, ◌++◌, length, map, Vec, Option, Result, Ok, Err, string_bytes}
use Rattle.std.specs.declared.alloc.Global.{Global}
use Rattle.std.specs.declared.string.String.{String}
use Rattle.uz_shelf.specs.Files.{FileMap, HoldsFile, HoldsLonger, LacksFile}
use Rattle.uz_shelf.specs.declared.errors.LoadError.{LoadError}
use Rattle.uz_shelf.specs.declared.errors.LoadError.TheVariants as load
use Rattle.avr_macro.specs.declared.errors.MacroError.{MacroError}
use Rattle.avr_macro.specs.declared.errors.MacroWhy.{MacroWhy}
use Rattle.avr_macro.specs.declared.errors.MacroWhy.TheVariants.{Unread, TooLong, Memory}
use Rattle.avr_macro.specs.declared.flat.Flat.{Flat}
use Rattle.avr_macro.specs.Expansion.{Does, End, Ends, Expands, LacksLast, Reaches, first_place, refused_end}
use Rattle.avr_macro.specs.Moves.{goes, loads, refuses, included}
use Rattle.avr_macro.specs.States.{Level, State, first_state, text_limit}

-- names as lists of bytes
abbrev pub names_of : Vec (String Global) Global → List (List ℕ)
names_of names = map (λ (name : String Global). string_bytes name) names.items

-- an end with the names and the answer as the program keeps them
abbrev pub flat_seen : List (List ℕ) → Flat → End
flat_seen names flat = record { names = names; answer = Ok (record { text = flat.text.items; origins = flat.origins.items }) }

abbrev pub refused_seen : List (List ℕ) → MacroError → End
refused_seen names e = refused_end names e.at e.why

-- why a file isn't there
abbrev pub unloaded : LoadError → MacroWhy
unloaded load.Failed = Unread
unloaded load.TooLong = TooLong
unloaded load.Memory = Memory

-- why a file that is asked for ends the expansion
abbrev pub EndsAtFile : Option FileMap → Type 0 → List (List ℕ) → List ℕ → Level → State → MacroError → Type 0
EndsAtFile files load_fault names name level s e =
    ((e.why ≡ Unread) × (load_fault ⊎ LacksFile files name))
    ⊎ (((e.why ≡ TooLong) × HoldsLonger files name text_limit)
    ⊎ ((bytes : List ℕ) × HoldsFile files name bytes × (length bytes ≤ text_limit)
    × (included (length names) bytes level s ≡ refuses e.why)))

-- a file was asked for, and its lines are to be expanded now, or the expansion ends; the names before and after it
abbrev pub Includes : {X : Type 0} → Option FileMap → Type 0 → List (List ℕ) → List ℕ → Level → State → List (List ℕ) → State
    → Result X MacroError → Type 0
Includes files load_fault names name level s later after (Ok done) =
    (later ≡ names ++ name ∷ []) × ((bytes : List ℕ) × HoldsFile files name bytes × (length bytes ≤ text_limit)
    × (included (length names) bytes level s ≡ goes after))
Includes files load_fault names name level s later after (Err e) =
    ((e.why ≡ Memory) × ((later ≡ names) ⊎ (later ≡ names ++ name ∷ [])))
    ⊎ ((later ≡ names ++ name ∷ []) × (e.at ≡ level.origin) × EndsAtFile files load_fault names name level s e)

-- the names are those of the files so far, or the next one is among them already
abbrev pub IsAsked : List (List ℕ) → State → List (List ℕ) → Type 0
IsAsked names s later =
    (later ≡ names) ⊎ ((level : Level) × (outer : List Level) × (name : List ℕ) × Does s level outer (loads name)
    × (later ≡ names ++ name ∷ []))

-- why an expansion was cut short: for want of memory, by a fault of loading, or since it ends so
abbrev pub CutBy : Option FileMap → Type 0 → List (List ℕ) → State → List (List ℕ) → MacroError → Type 0
CutBy files load_fault names s later e =
    (e.why ≡ Memory) ⊎ (((e.why ≡ Unread) × load_fault) ⊎ Ends files names s (refused_seen later e))

-- an expansion came to a state, and was cut short there
pub record IsCut (files : Option FileMap) (load_fault : Type 0) (begun : List (List ℕ)) (first : State) (later : List (List ℕ))
    (e : MacroError) : Type 0 where
  pub names : List (List ℕ)
  pub state : State
  pub reached : Reaches files begun first names state
  pub asked : IsAsked names state later
  pub cut : CutBy files load_fault names state later e

-- all is expanded, or it was cut short
abbrev pub RunsTo : {X : Type 0} → Option FileMap → Type 0 → List (List ℕ) → State → List (List ℕ) → State → Result X MacroError → Type 0
RunsTo files load_fault begun first later after (Ok done) = Reaches files begun first later after × (after.levels ≡ [])
RunsTo files load_fault begun first later after (Err e) = IsCut files load_fault begun first later e

-- the answer of an expansion: memory was lacking, or a file couldn't be read, or it is the first refusal. That one says
-- that a file can't be read only where the last file isn't there.
abbrev pub IsRefused : Option FileMap → Type 0 → List ℕ → List (List ℕ) → MacroError → Type 0
IsRefused files load_fault name names e =
    (e.why ≡ Memory) ⊎ (((e.why ≡ Unread) × load_fault)
    ⊎ (Expands files name (refused_seen names e) × (e.why ≡ Unread → LacksLast files names)))

-- the answer is the one of an end, unless memory was lacking or loading met a fault
abbrev pub Agrees : Type 0 → Result Flat MacroError → End → Type 0
Agrees load_fault (Ok flat) end = end.answer ≡ Ok (record { text = flat.text.items; origins = flat.origins.items })
Agrees load_fault (Err e) end = (e.why ≡ Memory)
    ⊎ (((e.why ≡ Unread) × load_fault) ⊎ (end.answer ≡ Err (record { at = e.at; reason = e.why })))

-- the first file is there, and its lines are to be expanded
abbrev pub Begins : Option FileMap → List ℕ → State → Type 0
Begins files name s = (bytes : List ℕ) × HoldsFile files name bytes × (length bytes ≤ text_limit) × (s ≡ first_state bytes)

-- why the first file ends the expansion
abbrev pub FailsFirst : Option FileMap → Type 0 → List ℕ → MacroError → Type 0
FailsFirst files load_fault name e =
    (e.why ≡ Memory)
    ⊎ ((e.at ≡ first_place) × (((e.why ≡ Unread) × (load_fault ⊎ LacksFile files name))
    ⊎ ((e.why ≡ TooLong) × HoldsLonger files name text_limit)))

-- an expansion was cut short before its first line, or after it
abbrev pub IsCutOff : Option FileMap → Type 0 → List ℕ → List (List ℕ) → MacroError → Type 0
IsCutOff files load_fault name names e =
    ((e.why ≡ Memory) × (names ≡ []))
    ⊎ (((names ≡ name ∷ []) × FailsFirst files load_fault name e)
    ⊎ ((bytes : List ℕ) × HoldsFile files name bytes × (length bytes ≤ text_limit) × IsCut files load_fault (name ∷ []) (first_state bytes)
    names e))

-- what came of an expansion
abbrev pub CameOf : Option FileMap → Type 0 → List ℕ → List (List ℕ) → Result Flat MacroError → Type 0
CameOf files load_fault name names (Ok flat) =
    (bytes : List ℕ) × (s : State) × HoldsFile files name bytes × (length bytes ≤ text_limit) × Reaches files (name ∷ [])
    (first_state bytes) names s
    × (s.levels ≡ []) × (flat.text.items ≡ s.text) × (flat.origins.items ≡ s.origins)
CameOf files load_fault name names (Err e) = IsCutOff files load_fault name names e
