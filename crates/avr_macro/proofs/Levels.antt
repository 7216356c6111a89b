-- Levels of the code, and names of files.
use Rattle.std.proofs.Common.{◌≡◌, ℕ, ◌≢◌, Bool, true, false, cond, List, [], ◌∷◌, ◌++◌, length, map, refl, sym, ◌∙◌, ap, Some, None}
use Rattle.std.specs.FinMap as finmap
use Rattle.std.specs.Str.{IsUtf8, is_utf8}
use Rattle.std.proofs.lemmas.List.{length-map, map-append, reverse-append}
use Rattle.std.proofs.lemmas.Str.{IsUtf8-from_is_utf8, is_utf8-from_IsUtf8}
use Rattle.avr_asm.specs.Layout.{predefined}
use Rattle.avr_text.specs.Names.{NameMap}
use Rattle.avr_macro.specs.declared.frames.Frame.{Frame}
use Rattle.avr_macro.specs.declared.origin.Origin.{Origin}
use Rattle.avr_macro.specs.Moves.{file_name}
use Rattle.avr_macro.specs.States.{Level, MacroMap, State, file_level, first_state}
use Rattle.avr_macro.specs.Views.{seen_frame, seen_frames}

-- a level more
pub last_frame : (fs more : List Frame) (frame : Frame) → more ≡ fs ++ frame ∷ [] → seen_frames more ≡ seen_frame frame ∷ seen_frames fs
last_frame fs more frame e = cc (map-append seen_frame fs (frame ∷ []), reverse-append (map seen_frame fs) (seen_frame frame ∷ []))

-- the test of UTF-8
is_valid : (bytes : List ℕ) → IsUtf8 bytes → is_utf8 bytes ≡ true
is_valid bytes h = is_utf8-from_IsUtf8 bytes h

is_invalid : (bytes : List ℕ) → ¬ (IsUtf8 bytes) → is_utf8 bytes ≡ false
is_invalid bytes h = elim (is_utf8 bytes) as (λ b. is_utf8 bytes ≡ b → is_utf8 bytes ≡ false)
    [ true ↦ λ e. absurd (h (IsUtf8-from_is_utf8 bytes e)) | false ↦ λ e. e ] refl

-- the name of a file
pub name_told : (bytes called name : List ℕ) → length bytes ≢ 0 → called ≡ bytes → IsUtf8 bytes → name ≡ called
    → Some name ≡ file_name bytes
name_told [] called name some is valid same = absurd (some refl)
name_told (b ∷ bs) called name some is valid same = cc (is_valid (b ∷ bs) valid)

pub none_named : (bytes : List ℕ) → length bytes ≢ 0 → ¬ (IsUtf8 bytes) → None ≡ file_name bytes
none_named [] some invalid = absurd (some refl)
none_named (b ∷ bs) some invalid = sym (ap (λ t. cond t (Some (b ∷ bs)) None) (is_invalid (b ∷ bs) invalid))

-- levels with equal parts
abbrev pub level_of : List (List ℕ) → List (List ℕ) → ℕ → Bool → Bool → Origin → ℕ → ℕ → Level
level_of lines again turns counted well origin includes blocks =
    record {
      lines = lines;
      again = again;
      turns = turns;
      counted = counted;
      well = well;
      origin = origin;
      includes = includes;
      blocks = blocks;
    }

pub same_level : (a b c d : List (List ℕ)) (turns : ℕ) (counted well : Bool) (p q : Origin) (includes blocks : ℕ) → a ≡ b → c ≡ d → p ≡ q
    → level_of a c turns counted well p includes blocks ≡ level_of b d turns counted well q includes blocks
same_level a b c d turns counted well p q includes blocks e f g = cc

-- as many lines as are replaced
pub as_many : (put : List ℕ → List ℕ) (lines value : List (List ℕ)) (end : ℕ) → value ≡ map put lines → end ≡ length lines
    → end ≡ length value
as_many put lines value end is e = e ∙ sym (length-map lines put) ∙ sym (ap length is)

-- the state before the first line
abbrev at_first : List Level → MacroMap → NameMap → List ℕ → List Origin → State
at_first levels macros constants text origins =
    record { levels = levels; macros = macros; constants = constants; calls = 0; reached = 0; text = text; origins = origins }

pub begun : (levels : List Level) (macros : MacroMap) (constants : NameMap) (text : List ℕ) (origins : List Origin) (bytes : List ℕ)
    → levels ≡ file_level 0 0 bytes ∷ [] → macros ≡ finmap.empty → constants ≡ predefined → text ≡ [] → origins ≡ []
    → at_first levels macros constants text origins ≡ first_state bytes
begun levels macros constants text origins bytes e f g h i = cc
