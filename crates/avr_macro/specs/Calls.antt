-- What came of a call.
use Rattle.std.specs.Prelude.{◌≡◌, ◌⊎◌, ℕ, true, false, List, map, IfSome, Result, Ok, Err}
use Rattle.avr_macro.specs.declared.bodies.Call.{Call}
use Rattle.avr_macro.specs.declared.errors.MacroWhy.{MacroWhy}
use Rattle.avr_macro.specs.declared.errors.MacroWhy.TheVariants.{Argument, Memory}
use Rattle.avr_macro.specs.Arguments.{replaced}
use Rattle.avr_macro.specs.Moves.{lacks_one}
use Rattle.avr_macro.specs.Views.{seen_called}

-- The body with the arguments in their places, or a fault of theirs. The lines that were made are the macro's.
abbrev pub CallsMacro : Result Call MacroWhy → List (List ℕ) → ℕ → List (List ℕ) → Type 0
CallsMacro (Ok c) arguments call body =
    (lacks_one arguments body ≡ false) × (seen_called c.lines ≡ map (replaced arguments call) body)
    × IfSome c.made (λ t. t.text.value.lines ≡ body)
CallsMacro (Err reason) arguments call body = (reason ≡ Memory) ⊎ ((reason ≡ Argument) × (lacks_one arguments body ≡ true))
