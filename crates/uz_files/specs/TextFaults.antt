-- The first fault of a text as it is handed on.
use Rattle.std.specs.Prelude.{◌≡◌, ℕ, List}
use Rattle.uz_files.specs.declared.status.Status.TheVariants.{BadInput}
use Rattle.uz_files.specs.declared.text_fault.TextFault.{TextFault}
use Rattle.uz_files.specs.declared.text_fault.TextFault.TheVariants.{At, Memory}
use Rattle.uz_files.specs.Answers.{Answer, one_line}
use Rattle.uz_files.specs.Lines.{bad_line}
use Rattle.uz_files.specs.Reading.{Fault}

-- it is one that the text has, unless memory was lacking
abbrev pub Tells : (Fault → Type 0) → TextFault → Type 0
Tells refuses (At line why) = refuses (line, why.now)
Tells refuses Memory = Unit {0}

-- the answer tells the fault, which isn't want of memory
abbrev pub TellsFault : List ℕ → TextFault → Answer → Type 0
TellsFault name (At line why) answer = answer ≡ one_line BadInput (bad_line name line why.now)
TellsFault name Memory answer = ⊥
