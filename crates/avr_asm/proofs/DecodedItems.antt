-- The items of an assembled source are read back from its image.
use Rattle.std.proofs.Common.{◌≡◌, ℕ, ◌+◌, ◌*◌, ◌/◌, ◌%◌, ◌<◌, Bool, true, false, cond, List, [], ◌∷◌, ◌++◌, length, nat_le, All, refl, sym}
use Rattle.std.proofs.Common.{◌∙◌, ap, subst, arith, Some, Result, Ok, Err, IfOk, unwrap_or, ◌==◌}
use Rattle.std.specs.FinMap as map
use Rattle.std.specs.List.{AllByRecursion}
use Rattle.std.proofs.lemmas.Bool.Decides.{nat_tests}
use Rattle.std.proofs.lemmas.List.Elements.{All-from_recursion}
use Rattle.avr_table.specs.declared.Instr.{Instr}
use Rattle.avr_table.specs.Pattern.{places}
use Rattle.avr_table.specs.Rows.{row, words_of}
use Rattle.uz_hex.specs.Cells.{word_of, byte_or_255, IsFlash}
use Rattle.avr_asm.specs.declared.errors.AsmError.{AsmError}
use Rattle.avr_asm.specs.declared.output.Built.{Built}
use Rattle.avr_asm.specs.declared.output.Placed.{Placed}
use Rattle.avr_asm.specs.Codes.{first_word, second_word}
use Rattle.avr_asm.specs.Emission.{Flash, word_bytes}
use Rattle.avr_asm.specs.Items.{IsDecoded, IsInFlash}
use Rattle.avr_asm.specs.Layout.{Layout, start, layout_of, GivesLayout}
use Rattle.avr_asm.specs.Lines.{lines_of}
use Rattle.avr_asm.specs.Assembly.{Output, nothing, output_from, output_of, assembly, seen_built}
use Rattle.avr_asm.proofs.Decoding.{Holds, ItemHolds, items_hold}
use Rattle.avr_asm.proofs.LaidLines.{each_even}
use Rattle.avr_asm.proofs.WrittenReads.{reads_words}

byte_at : (image : Flash) (q v : ℕ) → map.get image q ≡ Some v → byte_or_255 image q ≡ v
byte_at image q v e = ap (λ o. unwrap_or o 255) e

byte_small : (image : Flash) (q : ℕ) → IsFlash image → byte_or_255 image q < 256
byte_small image q flash = grind (arith, nat_tests)

word_small : (image : Flash) (at : ℕ) → IsFlash image → word_of image at < 65536
word_small image at flash =
    grind (arith, nat_tests, byte_small image (2 * (at % 32768)) flash, byte_small image (2 * (at % 32768) + 1) flash)

-- the word of two bytes
word_here : (image : Flash) (at low high : ℕ) → at < 32768 → map.get image (2 * at) ≡ Some low → map.get image (2 * at + 1) ≡ Some high
    → word_of image at ≡ low + 256 * high
word_here image at low high small e f = grind (arith, nat_tests, byte_at image (2 * at) low e, byte_at image (2 * at + 1) high f)

halves : (w : ℕ) → w % 256 + 256 * (w / 256) ≡ w
halves w = omega arith

held_word : (image : Flash) (at w : ℕ) (rest : List ℕ) → Holds image (2 * at) (w % 256 ∷ w / 256 ∷ rest) → (at < 32768)
    × (word_of image at ≡ w)
held_word image at w rest h = grind (arith, nat_tests, word_here image at (w % 256) (w / 256), halves w)

one_or_two : (i : Instr) (n : ℕ) → words_of i ≡ n → (n == 2) ≡ false → n ≡ 1
one_or_two i n e other = grind (arith, nat_tests, nat_le (length (places (row i).pattern)) 16)

item_decoded : (image : Flash) (item : Placed) → IsFlash image → ItemHolds image item → IsDecoded image item × IsInFlash item
item_decoded image item flash h = by_case (words_of item.instr == 2) refl h
  where
    by_case : (t : Bool) → (words_of item.instr == 2) ≡ t → Holds image (2 * item.at)
        (cond t (word_bytes (first_word item.instr) ++ word_bytes (second_word item.instr)) (word_bytes (first_word item.instr)))
        → IsDecoded image item × IsInFlash item
    by_case false e h' =
        let first = held_word image item.at (first_word item.instr) [] h' in
        let one : words_of item.instr ≡ 1 = one_or_two item.instr (words_of item.instr) refl e in (
          reads_words item.instr (word_of image item.at) (word_of image (item.at + 1)) first.1
              (λ two. absurd (let no : 1 ≡ 2 = sym one ∙ two in cc)) (word_small image (item.at + 1) flash),
          omega (arith, one, first.0),
        )
    by_case true e h' =
        let first = held_word image item.at (first_word item.instr) (word_bytes (second_word item.instr)) h' in
        let next : 2 * item.at + 1 + 1 ≡ 2 * (item.at + 1) = omega arith in
        let second = held_word image (item.at + 1) (second_word item.instr) []
        (subst (λ a. Holds image a (word_bytes (second_word item.instr))) next h'.2.2) in
        let two : words_of item.instr ≡ 2 = grind (arith, nat_tests) in (
          reads_words item.instr (word_of image item.at) (word_of image (item.at + 1)) first.1 (λ is. second.1)
              (word_small image (item.at + 1) flash),
          omega (arith, two, second.0),
        )

each_decoded : (image : Flash) (items : List Placed) → IsFlash image → AllByRecursion (ItemHolds image) items → AllByRecursion
    (IsDecoded image) items
each_decoded image [] flash h = tt
each_decoded image (item ∷ items) flash h = ((item_decoded image item flash h.0).0, each_decoded image items flash h.1)

each_in_flash : (image : Flash) (items : List Placed) → IsFlash image → AllByRecursion (ItemHolds image) items → AllByRecursion IsInFlash
    items
each_in_flash image [] flash h = tt
each_in_flash image (item ∷ items) flash h = ((item_decoded image item flash h.0).1, each_in_flash image items flash h.1)

-- an assembled source has a layout, at which its lines are put out
pub laid_out : (text : List ℕ) (out : Output) → assembly text ≡ Ok out → (layout : Layout) × (layout_of (lines_of text) ≡ Ok layout)
    × (output_from 1 layout.symbols nothing (lines_of text) layout.addresses ≡ Ok out)
laid_out text out e = by_case (layout_of (lines_of text)) e
  where
    by_case : (r : Result Layout AsmError) → output_of (lines_of text) r ≡ Ok out → (layout : Layout) × (r ≡ Ok layout)
        × (output_from 1 layout.symbols nothing (lines_of text) layout.addresses ≡ Ok out)
    by_case (Ok layout) e' = (layout, refl, e')
    by_case (Err fault) e' = absurd cc

items_held : (text : List ℕ) (out : Output) → assembly text ≡ Ok out → AllByRecursion (ItemHolds out.image) out.items
items_held text out e = grind (arith, nat_tests, laid_out text out e, items_hold 1, each_even 1 start (lines_of text))

pub decoded_built : (text : List ℕ) (result : Result Built AsmError) → GivesLayout seen_built result (assembly text)
    → IfOk result (λ b. IsFlash b.image) → IfOk result (λ b. All (IsDecoded b.image) b.items.items)
decoded_built text (Ok b) e flash = All-from_recursion (IsDecoded b.image) b.items.items (each_decoded _ _ flash (items_held text _ e))
decoded_built text (Err fault) e flash = tt

pub in_flash_built : (text : List ℕ) (result : Result Built AsmError) → GivesLayout seen_built result (assembly text)
    → IfOk result (λ b. IsFlash b.image) → IfOk result (λ b. All IsInFlash b.items.items)
in_flash_built text (Ok b) e flash = All-from_recursion IsInFlash b.items.items (each_in_flash _ _ flash (items_held text _ e))
in_flash_built text (Err fault) e flash = tt
