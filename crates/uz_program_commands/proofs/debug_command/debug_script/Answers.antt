use Rattle.std.proofs.Common.{List, subst}
use Rattle.uz_core.specs.PadLine.{PadHistory}
use Rattle.uz_core.specs.Turn.{State}
use Rattle.uz_debug.specs.Debuggers.{Debugs, session_of}
use Rattle.uz_debug.specs.SessionText.{Prints}
use Rattle.uz_debug.specs.declared.command.Command.{Command}
use Rattle.uz_debug.specs.declared.command.Reply.{Reply}
use Rattle.uz_files.proofs.ReadingLemmas.{says_seen}
use Rattle.uz_program_commands.specs.ScriptFile.{SpellsScript}
use Rattle.uz_program_commands.proofs.DebugLemmas.{debug_read, debug_without_script}
use Rattle.uz_program_commands.proofs.debug_command.debug_script.Goals as goal

pub returns-in-Err-clause-gives : goal.returns-in-Err-clause-gives
returns-in-Err-clause-gives g c = λ files load_old hex pads irq same up starts.
    debug_without_script files (g.H.Shelf.files c.args.shelf.now) load_old (g.H.Shelf.load_faults c.args.shelf.now)
    (g.H.Shelf.load_faults c.read_file.new.shelf) hex pads irq c.args.script.now c.args.debugger.now c.in-Err.failure same up starts
    c.in-Err.ensures.fails

pub returns-clause-gives : goal.returns-clause-gives
returns-clause-gives g c = λ files load_old hex pads irq same up starts.
    debug_read files (g.H.Shelf.files c.args.shelf.now) _ hex pads irq c.args.script.now c.args.debugger.now c.session_text.new.debugger
    c.in-Ok.commands.items c.in_ok-session_text.field-0.items same starts
    (says_seen _ _ _ SpellsScript (λ commands. commands.items) c.in-Ok.commands c.in-Ok.ensures.said)
    (subst (λ (cs : List Command). (start : State PadHistory) (done : List (Command × Reply)) → Debugs start done c.args.debugger.now
    → Prints start (session_of c.args.debugger.now) cs c.in_ok-session_text.field-0.items (session_of c.session_text.new.debugger))
    c.as_slice.ensures.value c.in_ok-session_text.ensures)
