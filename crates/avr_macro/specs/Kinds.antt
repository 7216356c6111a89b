-- The blocks of each kind.
use Rattle.std.specs.Prelude.{◌≡◌, ℕ, List}
use Rattle.avr_macro.specs.declared.blocks.Blocks.{Blocks}
use Rattle.avr_macro.specs.declared.directives.Word.TheVariants.{Macro, EndMacro, Repeat, EndRepeat, If, EndIf}
use Rattle.avr_macro.specs.Ends.{blocks_from}

pub record AreBlocks (lines : List (List ℕ)) (blocks : Blocks) : Type 0 where
  pub macros : blocks.macros.items ≡ blocks_from Macro EndMacro 0 lines
  pub repeats : blocks.repeats.items ≡ blocks_from Repeat EndRepeat 0 lines
  pub conditions : blocks.conditions.items ≡ blocks_from If EndIf 0 lines
