-- The bodies of macros, as they are kept.
use Rattle.std.specs.Prelude.{ℕ, List, map, Vec}
use Rattle.std.specs.List.{slice_range}
use Rattle.std.specs.declared.alloc.Global.{Global}
use Rattle.avr_macro.specs.declared.bodies.Macro.{Macro}
use Rattle.avr_macro.specs.declared.bodies.Macro.TheVariants as kinds

-- the lines of a macro
abbrev pub seen_macro : Macro → List (List ℕ)
seen_macro (kinds.Settled settled) = slice_range settled.lines.body.value settled.lines.start settled.lines.end
seen_macro (kinds.Template template) = template.text.value.lines
seen_macro (kinds.Unmade lines) = slice_range lines.body.value lines.start lines.end

-- names and bodies as lists of bytes and of lines
abbrev pub named : List (Vec ℕ Global × Macro) → List (List ℕ × List (List ℕ))
named entries = map {B = List ℕ × List (List ℕ)} (λ (e : Vec ℕ Global × Macro). (e.0.items, seen_macro e.1)) entries
