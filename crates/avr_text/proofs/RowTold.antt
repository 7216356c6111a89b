-- The row of a name, where its fields are what was made of the operands' numbers.
use Rattle.std.proofs.Common.{◌≡◌, ℤ, to_z, of_z, w64, sym, ◌∙◌, ap}
use Rattle.std.proofs.lemmas.Int.{to_z-of_z}
use mir.Val.{SFits}
use Rattle.avr_table.specs.declared.Instr.{Instr}
use Rattle.avr_text.specs.declared.mnemonics.Mnemonic.{Mnemonic}
use Rattle.avr_text.specs.declared.pointers.Pointer.{Pointer}
use Rattle.avr_text.specs.declared.pointers.Step.{Step}
use Rattle.avr_text.specs.Instructions.{row_of}

pub none_told : (row : Instr) (name : Mnemonic) {named : Mnemonic} {x y : ℤ} → SFits w64 x → SFits w64 y → named ≡ name
    → row_of name x y ≡ row → row ≡ row_of named x y
none_told row name {named} {x} {y} x_fits y_fits is e = sym e ∙ sym (ap (λ m. row_of m x y) is)

-- a number is handed to a call as it is
handed : {F : Type 0} (make : ℤ → F) (f : F) (x : ℤ) → SFits w64 x → f ≡ make (to_z w64 (of_z w64 x)) → f ≡ make x
handed make f x fits is = is ∙ ap make (to_z-of_z w64 x fits)

pub one_told : {F : Type 0} (row : F → Instr) (make : ℤ → F) (name : Mnemonic) {named : Mnemonic} {x y : ℤ} {f : F} → SFits w64 x
    → SFits w64 y → named ≡ name → f ≡ make (to_z w64 (of_z w64 x)) → row_of name x y ≡ row (make x) → row f ≡ row_of named x y
one_told row make name {named} {x} {y} {f} x_fits y_fits is f_is e = ap row (handed make _ _ x_fits f_is) ∙ none_told _ _ x_fits y_fits is e

pub two_told : {F G : Type 0} (row : F → G → Instr) (make : ℤ → F) (other : ℤ → G) (name : Mnemonic) {named : Mnemonic} {x y : ℤ}
    {f : F} {g : G} → SFits w64 x → SFits w64 y → named ≡ name → f ≡ make (to_z w64 (of_z w64 x)) → g ≡ other (to_z w64 (of_z w64 y))
    → row_of name x y ≡ row (make x) (other y) → row f g ≡ row_of named x y
two_told row make other name {named} {x} {y} {f} {g} x_fits y_fits is f_is g_is e =
    cc (handed make f x x_fits f_is, handed other g y y_fits g_is, none_told (row (make x) (other y)) name x_fits y_fits is e)

-- a name of one operand, which its row has twice
pub twice_told : {F : Type 0} (row : F → F → Instr) (make : ℤ → F) (name : Mnemonic) {named : Mnemonic} {x y : ℤ} {f g : F}
    → SFits w64 x → SFits w64 y → named ≡ name → f ≡ make (to_z w64 (of_z w64 x)) → g ≡ make (to_z w64 (of_z w64 x))
    → row_of name x y ≡ row (make x) (make x) → row f g ≡ row_of named x y
twice_told row make name {named} {x} {y} {f} {g} x_fits y_fits is f_is g_is e =
    cc (handed make f x x_fits f_is, handed make g x x_fits g_is, none_told (row (make x) (make x)) name x_fits y_fits is e)

-- a row of LD or ST by its pointer
pub pointer_told : {F : Type 0} (row : F → Instr) (make : ℤ → F) (told : ℤ → Pointer → Step → Instr) (at : Pointer) (by : Step)
    {pointer : Pointer} {step : Step} {d : ℤ} {f : F} → SFits w64 d → pointer ≡ at → step ≡ by → f ≡ make (to_z w64 (of_z w64 d))
    → told d at by ≡ row (make d) → row f ≡ told d pointer step
pointer_told row make told at by {pointer} {step} {d} {f} d_fits at_is by_is f_is e = cc (handed make f d d_fits f_is)
