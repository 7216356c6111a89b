use Rattle.std.proofs.Common.{List, take}
use Rattle.uz_core.specs.PadLine.{PadHistory}
use Rattle.uz_core.specs.Turn.{State}
use Rattle.uz_debug.specs.declared.command.Command.{Command}
use Rattle.uz_debug.specs.declared.command.Reply.{Reply}
use Rattle.uz_debug.specs.Debuggers.{Debugs, session_of}
use Rattle.uz_debug.specs.SessionText.{Prints}
use Rattle.uz_debug.proofs.session_lines.session_text.Given as goal

-- the text so far is that of the commands so far
abbrev pub invariant-loop-command : goal.invariant-loop-command
invariant-loop-command l = (start : State PadHistory) (done : List (Command × Reply)) → Debugs start done l.fn.debugger →
    ((all : List (Command × Reply)) × Debugs start all l.debugger) × Prints start (session_of l.fn.debugger)
    (take l.command-index l.commands) l.text.items (session_of l.debugger)
