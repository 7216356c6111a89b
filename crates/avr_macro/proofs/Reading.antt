-- Lines of calls that are read byte by byte.
use Rattle.std.proofs.Common.{◌≡◌, ℕ, ◌<◌, ◌≤◌, Bool, true, false, cond, ltb, List, [], ◌∷◌, ◌++◌, length, map, refl, sym, ◌∙◌, ap, arith}
use Rattle.std.proofs.Common.{append_assoc, Option, Some, None, IfNone, codes}
use Rattle.std.specs.Char.{to_ascii_lowercase}
use Rattle.std.specs.Str.{bytes_eq}
use Rattle.std.proofs.lemmas.Bool.{ltb-true}
use Rattle.std.proofs.lemmas.Bool.Decides.{nat_tests}
use Rattle.std.proofs.lemmas.List.{append-nil, length-append, length-map}
use Rattle.avr_text.specs.Words.{is_word_named}
use Rattle.avr_macro.specs.declared.directives.Word.{Word}
use Rattle.avr_macro.specs.declared.directives.Word.TheVariants.{Macro, EndMacro, Repeat, EndRepeat, If, Else, EndIf, Include, Constant}
use Rattle.avr_macro.specs.declared.directives.Word.TheVariants.{Other}
use Rattle.avr_macro.specs.Directives.{dot_word, named_word}
use Rattle.avr_macro.specs.Lines.{after_blanks, word_of}
use Rattle.avr_macro.specs.Readers.{Reads, from_next, letter}

-- what was read of a text and what is left are the text
pub read_back : (next : Option ℕ) (text rest : List ℕ) → Reads next text rest → from_next next rest ≡ text
read_back None text rest (e, f) = f ∙ sym e
read_back (Some b) text rest e = sym e

pub nothing_left : (next : Option ℕ) (text rest : List ℕ) → Reads next text rest → IfNone next (rest ≡ [])
nothing_left None text rest (e, f) = f
nothing_left (Some b) text rest e = tt

-- ---- the letters of a name

-- a word isn't a shorter name
differs : (xs ys : List ℕ) → length ys < length xs → bytes_eq xs ys ≡ false
differs [] ys h = absurd (omega (arith, h))
differs (x ∷ xs) [] h = refl
differs (x ∷ xs) (y ∷ ys) h = grind (arith, nat_tests, differs xs ys (omega (arith, h)))

no_name : (word name : List ℕ) → ltb (length name) 8 ≡ true → 8 ≤ length word → is_word_named word name ≡ false
no_name word name short long =
    let less : length name < 8 = ltb-true (length name) 8 short in
    differs (map to_ascii_lowercase word) (map to_ascii_lowercase name)
    (omega (arith, less, long, length-map word to_ascii_lowercase, length-map name to_ascii_lowercase))

passed : (t : Bool) (x y : Word) → t ≡ false → cond t x y ≡ y
passed true x y e = absurd cc
passed false x y e = refl

-- so a long one is no directive's name
long_word : (w : List ℕ) → 8 ≤ length w → named_word w ≡ Other
long_word w h =
    cc (
      passed _ Macro _ (no_name w (codes "macro") refl h),
      passed _ EndMacro _ (no_name w (codes "endm") refl h),
      passed _ Repeat _ (no_name w (codes "rept") refl h),
      passed _ EndRepeat _ (no_name w (codes "endr") refl h),
      passed _ If _ (no_name w (codes "if") refl h),
      passed _ Else _ (no_name w (codes "else") refl h),
      passed _ EndIf _ (no_name w (codes "endif") refl h),
      passed _ Include _ (no_name w (codes "include") refl h),
      passed _ Constant _ (no_name w (codes "equ") refl h),
    )

-- a letter more
pub letters_more : (count : ℕ) (ahead next found : Option ℕ) (b : ℕ) (name more left rest whole : List ℕ) → found ≡ letter count ahead
    → found ≡ Some b → more ≡ name ++ b ∷ [] → Reads next left rest → name ++ word_of (from_next ahead left) ≡ whole
    → more ++ word_of (from_next next rest) ≡ whole
letters_more count None next found b name more left rest whole e is m r so_far = absurd cc
letters_more count (Some a) next found b name more left rest whole e is m r so_far =
    grind (arith, nat_tests, append_assoc name (b ∷ []) (word_of (from_next next rest)), read_back next left rest r)

-- no letter more
pub letters_told : (count : ℕ) (ahead : Option ℕ) (name left whole : List ℕ) → None ≡ letter count ahead → count ≡ length name
    → IfNone ahead (left ≡ []) → name ++ word_of (from_next ahead left) ≡ whole → named_word name ≡ named_word whole
letters_told count None name left whole e c ended so_far =
    ap named_word (sym (append-nil name) ∙ ap (λ xs. name ++ word_of xs) (sym ended) ∙ so_far)
letters_told count (Some a) name left whole e c ended so_far =
    grind (arith, nat_tests, long_word name, long_word whole, length-append name (a ∷ word_of left), append-nil name)

-- ---- the directive at the front

pub directive_read : (next first again last : Option ℕ) (byte : ℕ) (text one two three four : List ℕ) → Reads next text one
    → first ≡ Some byte → Reads first (after_blanks (from_next next one)) two → byte ≡ 46 → Reads again two three
    → Reads last (after_blanks (from_next again three)) four
    → named_word (word_of (from_next last four)) ≡ dot_word (after_blanks text)
directive_read next None again last byte text one two three four r is f dot s t = absurd cc
directive_read next (Some b) again last byte text one two three four r is f dot s t =
    let byte_is : b ≡ 46 = cc in
    cc (read_back last (after_blanks (from_next again three)) four t, read_back again two three s, read_back next text one r)
