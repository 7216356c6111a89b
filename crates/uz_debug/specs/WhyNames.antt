-- The names of the whys, as they are printed.
use Rattle.std.specs.Prelude.{ℕ, List, codes}
use Rattle.uz_debug.specs.declared.errors.ScriptWhy.{ScriptWhy}
use Rattle.uz_debug.specs.declared.errors.ScriptWhy.TheVariants as why

abbrev pub script_why_name : ScriptWhy → List ℕ
script_why_name why.Word = codes "Word"
script_why_name why.Number = codes "Number"
script_why_name why.Count = codes "Count"
script_why_name why.Memory = codes "Memory"
