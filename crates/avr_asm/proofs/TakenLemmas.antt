-- Over an empty flash a source assembles as ever.
use Rattle.std.proofs.Common.{◌≡◌, ℕ, List, refl, arith, Result, Ok, Err}
use Rattle.std.specs.FinMap.{empty}
use Rattle.avr_asm.specs.declared.errors.AsmError.{AsmError}
use Rattle.avr_asm.specs.declared.output.Built.{Built}
use Rattle.avr_asm.specs.Assembly.{assembly, output_of, seen_built}
use Rattle.avr_asm.specs.Emission.{Flash}
use Rattle.avr_asm.specs.Layout.{GivesLayout, Layout, layout_of}
use Rattle.avr_asm.specs.Lines.{lines_of}
use Rattle.avr_asm.specs.Taken.{assembly_over, output_over}
use Rattle.std.proofs.lemmas.Bool.Decides.{nat_tests}

over_nothing : (lines : List (List ℕ)) (layout : Result Layout AsmError) → output_over empty lines layout ≡ output_of lines layout
over_nothing lines (Ok layout) = refl
over_nothing lines (Err fault) = refl

pub over_empty : (taken : Flash) (text : List ℕ) (result : Result Built AsmError) → taken ≡ empty
    → GivesLayout seen_built result (assembly_over taken text) → GivesLayout seen_built result (assembly text)
over_empty taken text result none given = grind (arith, nat_tests, over_nothing (lines_of text) (layout_of (lines_of text)))
