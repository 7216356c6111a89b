use Rattle.std.proofs.Common.{List, sym, subst}
use Rattle.std.specs.Prelude.{OnOk}
use Rattle.uz_core.specs.PadLine.{PadHistory}
use Rattle.uz_core.specs.Turn.{State}
use Rattle.uz_debug.specs.declared.command.Command.{Command}
use Rattle.uz_debug.specs.declared.command.Reply.{Reply}
use Rattle.uz_debug.specs.Debuggers.{Debugs, session_of}
use Rattle.uz_debug.specs.SessionText.{AddsLine}
use Rattle.uz_debug.proofs.session_lines.add_line.Goals as goal

pub returns-in-Shown : goal.returns-in-Shown
returns-in-Shown c =
    subst (λ answer. OnOk c.add_shown.result ((start : State PadHistory) (done : List (Command × Reply)) → Debugs start done
    c.args.debugger.now → AddsLine start (session_of c.args.debugger.now).turn c.args.command answer c.args.text.now.items
    c.add_shown.new.text.items))
    (sym c.in-Shown.is) c.add_shown.ensures
