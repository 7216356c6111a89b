use Rattle.std.proofs.Common.{◌≡◌, ◌++◌, List, ap, ◌∙◌}
use Rattle.uz_core.specs.PadLine.{PadHistory}
use Rattle.uz_core.specs.Turn.{State}
use Rattle.uz_debug.specs.declared.command.Command.{Command}
use Rattle.uz_debug.specs.declared.command.Reply.{Reply}
use Rattle.uz_debug.specs.declared.command.Reply.TheVariants as reply
use Rattle.uz_debug.specs.Debuggers.{Debugs, read_of, session_of}
use Rattle.uz_debug.specs.SessionText.{AddsLine, shown_text}
use Rattle.uz_debug.proofs.TextLemmas.{on_ok, shows}
use Rattle.uz_debug.proofs.session_lines.add_shown.Goals as goal

pub returns : goal.returns
returns c =
    on_ok c.add_console.result
    (c.add_console.new.text.items ≡ c.args.text.now.items ++ shown_text c.args.command c.turn.result c.clock.result c.pc.result
    (read_of c.console-console.result.now))
    ((start : State PadHistory) (done : List (Command × Reply)) → Debugs start done c.args.debugger.now → AddsLine start
    (session_of c.args.debugger.now).turn c.args.command reply.Shown c.args.text.now.items c.add_console.new.text.items)
    (λ is start done h.
    let at = c.console-console.ensures start done h in
    shows start c.args.command (session_of c.args.debugger.now).turn c.clock.result c.pc.result c.console-console.result.now
    c.args.text.now.items c.add_console.new.text.items at c.clock.ensures.stands c.pc.ensures.stands
    (is ∙ ap (λ n. c.args.text.now.items ++ shown_text c.args.command n c.clock.result c.pc.result (read_of c.console-console.result.now))
    c.turn.ensures.turn))
    c.add_console.ensures
