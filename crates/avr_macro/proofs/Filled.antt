-- Lines in a call, or as they are.
use Rattle.std.proofs.Common.{◌≡◌, ℕ, zero, suc, ◌-◌, ◌<◌, true, List, [], ◌∷◌, length, get_or, take, drop, map, refl, sym, ◌∙◌, ap, arith}
use Rattle.std.specs.Prelude.{Option, Some, None}
use Rattle.std.specs.List.{slice_range}
use Rattle.std.proofs.lemmas.List.{drop-map, length-map, take-map}
use Rattle.avr_macro.specs.declared.arguments.Substitution.{Substitution}
use Rattle.avr_macro.specs.declared.blocks.Blocks.{Blocks}
use Rattle.avr_macro.specs.declared.directives.Word.TheVariants.{Macro, EndMacro, Repeat, EndRepeat, If, EndIf}
use Rattle.avr_macro.specs.Arguments.{replaced}
use Rattle.avr_macro.specs.AtSigns.{KeepsDirectives, are_plain, are_settled, filled, line_in, puts_plain}
use Rattle.avr_macro.specs.Kinds.{AreBlocks}
use Rattle.avr_macro.proofs.SameBlocks.{blocks_stay}
use Rattle.avr_macro.proofs.Settled.{lines_settled, lines_stay, part_settled, plain_settled}

abbrev Texts : Type 0
Texts = List (List ℕ)

-- ---- how many they are, and a line by its place

pub filled_length : (s : Option Substitution) (lines : Texts) → length (filled s lines) ≡ length lines
filled_length None lines = refl
filled_length (Some s) lines = length-map lines (replaced s.arguments s.call)

mapped_line : (f : List ℕ → List ℕ) (lines : Texts) (n : ℕ) → n < length lines → f (get_or lines n []) ≡ get_or (map f lines) n []
mapped_line f [] n h = absurd (omega (arith, h))
mapped_line f (line ∷ lines) zero h = refl
mapped_line f (line ∷ lines) (suc n) h = mapped_line f lines n (omega (arith, h))

pub filled_line : (s : Option Substitution) (lines : Texts) (n : ℕ) (line : List ℕ) → n < length lines → line ≡ get_or lines n []
    → line_in s line ≡ get_or (filled s lines) n []
filled_line None lines n line h e = e
filled_line (Some s) lines n line h e = ap (replaced s.arguments s.call) e ∙ mapped_line (replaced s.arguments s.call) lines n h

-- ---- some of the lines

mapped_range : (f : List ℕ → List ℕ) (xs : Texts) (start end : ℕ) → slice_range (map f xs) start end ≡ map f (slice_range xs start end)
mapped_range f xs start end = ap (take (end - start)) (drop-map f start xs) ∙ take-map f (end - start) (drop start xs)

plain_range : (s : Option Substitution) (xs shown : Texts) (start end : ℕ) → filled s xs ≡ shown
    → are_plain (slice_range xs start end) ≡ true → slice_range xs start end ≡ slice_range shown start end
plain_range None xs shown start end e h = ap (λ ls. slice_range ls start end) e
plain_range (Some s) xs shown start end e h =
    cc (
      lines_stay s.arguments s.call (slice_range xs start end) (plain_settled (slice_range xs start end) h),
      mapped_range (replaced s.arguments s.call) xs start end,
    )

-- no call changes those without `@`, nor those of a call whose arguments have none
pub plain_stay : (s : Option Substitution) (xs shown : Texts) (start end : ℕ) → filled s xs ≡ shown
    → are_plain (slice_range xs start end) ≡ true → are_settled (slice_range shown start end) ≡ true
plain_stay s xs shown start end e h = cc (plain_range s xs shown start end e h, plain_settled (slice_range xs start end) h)

pub filled_stay : (s : Option Substitution) (xs shown : Texts) (start end : ℕ) → filled s xs ≡ shown → puts_plain s ≡ true
    → are_settled (slice_range shown start end) ≡ true
filled_stay None xs shown start end e h = absurd cc
filled_stay (Some s) xs shown start end e h =
    part_settled shown start end (ap are_settled (sym e) ∙ lines_settled s.arguments s.call h xs)

-- ---- the blocks

pub same_blocks : (s : Substitution) (xs : Texts) (blocks : Blocks) → KeepsDirectives (replaced s.arguments s.call) xs
    → AreBlocks xs blocks → AreBlocks (filled (Some s) xs) blocks
same_blocks s xs blocks kept b = record {
  macros = b.macros ∙ sym (blocks_stay (replaced s.arguments s.call) Macro EndMacro 0 xs kept);
  repeats = b.repeats ∙ sym (blocks_stay (replaced s.arguments s.call) Repeat EndRepeat 0 xs kept);
  conditions = b.conditions ∙ sym (blocks_stay (replaced s.arguments s.call) If EndIf 0 xs kept);
}
