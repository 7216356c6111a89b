use Rattle.std.proofs.Common.{◌≡◌, ◌++◌}
use Rattle.uz_debug.specs.Debuggers.{read_of}
use Rattle.uz_debug.specs.SessionText.{bytes_text}
use Rattle.uz_debug.proofs.session_lines.add_bytes.Given as goal

abbrev pub invariant-loop-n : goal.invariant-loop-n
invariant-loop-n l = l.text.items ≡ l.initial.text.items ++ bytes_text (read_of l.console) l.at l.n
