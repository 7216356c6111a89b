-- Names and origins by their places.
use Rattle.std.proofs.Common.{◌≡◌, ℕ, suc, ◌-◌, ◌<◌, ◌≤◌, List, [], ◌∷◌, Global, length, get_or, map, refl, sym, ◌∙◌, ap, arith}
use Rattle.std.specs.Prelude.{string_bytes}
use Rattle.std.specs.declared.string.String.{String}
use Rattle.std.proofs.lemmas.List.{get_or-map, get_or_past, length-map}
use Rattle.avr_macro.specs.declared.origin.Origin.{Origin}
use Rattle.avr_macro.specs.Expansion.{first_place}
use Rattle.uz_program_commands.specs.MacroCommands.{origin_of}
use Rattle.uz_program_commands.specs.MacroSource.{last_name, name_at}

-- a name by its place
pub name_there : (names : List (String Global)) (k : ℕ) (name : String Global) (bytes : List ℕ) → k < length names → name ≡ get_or names k
    name → bytes ≡ string_bytes name → bytes ≡ name_at (map (λ (n : String Global). string_bytes n) names) k
name_there names k name bytes h at is = is ∙ ap (λ (n : String Global). string_bytes n) at
    ∙ sym (get_or-map (λ (n : String Global). string_bytes n) names k name [] h)

pub name_past : (names : List (String Global)) (k : ℕ) → length names ≤ k → [] ≡ name_at (map (λ (n : String Global). string_bytes n) names)
    k
name_past names k h = sym (get_or_past (map (λ (n : String Global). string_bytes n) names) k []
    (omega (arith, h, length-map names (λ (n : String Global). string_bytes n))))

-- the last name
last_of : (names : List (String Global)) (d : String Global) → 0 < length names → string_bytes (get_or names (length names - 1) d)
    ≡ last_name (map (λ (n : String Global). string_bytes n) names)
last_of [] d h = absurd (omega arith)
last_of (a ∷ []) d h = refl
last_of (a ∷ b ∷ names) d h =
    let k : length (a ∷ b ∷ names) - 1 ≡ suc (length (b ∷ names) - 1) = omega arith in
    ap (λ n. string_bytes (get_or (a ∷ b ∷ names) n d)) k ∙ last_of (b ∷ names) d (omega arith)

pub last_there : (names : List (String Global)) (name : String Global) → 0 < length names → name ≡ get_or names (length names - 1) name
    → string_bytes name ≡ last_name (map (λ (n : String Global). string_bytes n) names)
last_there names name h at = ap (λ (n : String Global). string_bytes n) at ∙ last_of names name h

-- an origin by its place
pub origin_past : (origins : List Origin) (line : ℕ) → length origins ≤ line - 1 → first_place ≡ origin_of origins line
origin_past origins line h = sym (get_or_past origins (line - 1) first_place h)
