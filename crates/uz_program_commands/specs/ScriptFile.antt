-- What a script says: commands of the debugger, or its first faulty line and why.
use Rattle.std.specs.Prelude.{ℕ, List}
use Rattle.uz_hex.specs.Lines.{lines_of}
use Rattle.uz_debug.specs.Scripts.{IsFirstFault, IsScript}
use Rattle.uz_debug.specs.declared.command.Command.{Command}
use Rattle.uz_debug.specs.declared.errors.ScriptWhy.{ScriptWhy}
use Rattle.uz_debug.specs.WhyNames.{script_why_name}
use Rattle.uz_files.specs.Reading.{Fault, Refuses}

abbrev pub SpellsScript : List ℕ → List Command → Type 0
SpellsScript text commands = IsScript (lines_of text) commands

abbrev pub HasScriptFault : List ℕ → ℕ → ScriptWhy → Type 0
HasScriptFault text line why = IsFirstFault (lines_of text) line why

abbrev pub RefusesScript : List ℕ → Fault → Type 0
RefusesScript = Refuses HasScriptFault script_why_name
