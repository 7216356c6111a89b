-- The names of the whys, as they are printed.
use Rattle.std.specs.Prelude.{ℕ, List, codes}
use Rattle.avr_macro.specs.declared.errors.MacroWhy.{MacroWhy}
use Rattle.avr_macro.specs.declared.errors.MacroWhy.TheVariants as why

abbrev pub macro_why_name : MacroWhy → List ℕ
macro_why_name why.Unread = codes "Unread"
macro_why_name why.TooLong = codes "TooLong"
macro_why_name why.Depth = codes "Depth"
macro_why_name why.Form = codes "Form"
macro_why_name why.Unclosed = codes "Unclosed"
macro_why_name why.Twice = codes "Twice"
macro_why_name why.Value = codes "Value"
macro_why_name why.Argument = codes "Argument"
macro_why_name why.Full = codes "Full"
macro_why_name why.Memory = codes "Memory"
