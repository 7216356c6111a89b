use Rattle.std.proofs.Common.{◌≡◌, ◌+◌, ◌∷◌, [], ◌++◌, sym, subst, take, List, slice_index_or}
use Rattle.std.proofs.lemmas.List.{take_more, take_all}
use Rattle.uz_debug.specs.declared.command.Command.{Command}
use Rattle.uz_debug.specs.declared.command.Command.TheVariants as command
use Rattle.uz_debug.specs.declared.command.Reply.{Reply}
use Rattle.uz_debug.specs.Debuggers.{session_of}
use Rattle.uz_debug.specs.SessionText.{Prints}
use Rattle.uz_debug.proofs.TextLemmas.{prints_more}
use Rattle.uz_debug.proofs.session_lines.session_text.Goals as goal

pub loop-command-preserved : goal.loop-command-preserved
loop-command-preserved c = λ start done h.
    let k = c.loop-command.invariant start done h in
    let made : Command = slice_index_or c.args.commands.now c.loop-command.command-index (command.Step 0) in
    let all : List (Command × Reply) = k.0.0 ++ (made, c.in_ok-reply.reply) ∷ [] in
    let debugs = c.in_ok-reply.ensures.session start k.0.0 k.0.1 in
    let acts = c.in_ok-reply.ensures.acts start k.0.0 k.0.1 in
    let adds = c.in_ok-add_line.ensures start all debugs in
    let more : take (c.loop-command.command-index + 1) c.args.commands.now ≡ take c.loop-command.command-index c.args.commands.now
    ++ made ∷ [] = take_more c.args.commands.now c.loop-command.command-index (command.Step 0) c.loop-command-test.true in (
      (all, debugs),
      subst (λ cs. Prints start (session_of c.args.debugger.now) cs c.add_line.new.text.items (session_of c.act.new.self)) (sym more)
          (prints_more start (session_of c.args.debugger.now) (session_of c.loop-command.debugger) (session_of c.act.new.self)
          (take c.loop-command.command-index c.args.commands.now) made c.in_ok-reply.reply c.loop-command.text.items
          c.add_line.new.text.items k.1 acts adds),
    )

pub returns : goal.returns
returns c = λ start done h.
    let k = c.loop-command.invariant start done h in
    subst (λ cs. Prints start (session_of c.args.debugger.now) cs c.loop-command.text.items (session_of c.loop-command.debugger))
    (take_all c.loop-command.command-index c.args.commands.now c.loop-command-test.false) k.1
