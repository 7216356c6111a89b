use Rattle.uz_debug.specs.declared.command.Command.TheVariants as command
use Rattle.uz_debug.proofs.DebuggerLemmas.{does}
use Rattle.uz_debug.proofs.debugger.Debugger.reply.Goals as goal

pub returns-in-Step : goal.returns-in-Step
returns-in-Step c = does c.args.self.now c.step.new.self c.args.command (command.Step c.in-Step.count) c.step.result c.in-Step.is
    c.step.ensures

pub returns-in-Run : goal.returns-in-Run
returns-in-Run c = does c.args.self.now c.run.new.self c.args.command (command.Run c.in-Run.count) c.run.result c.in-Run.is c.run.ensures

pub returns-in-Back : goal.returns-in-Back
returns-in-Back c = does c.args.self.now c.back.new.self c.args.command (command.Back c.in-Back.count) c.back.result c.in-Back.is
    c.back.ensures

pub returns-in-Break : goal.returns-in-Break
returns-in-Break c = does c.args.self.now c.set_breakpoint.new.self c.args.command (command.Break c.in-Break.pc) c.set_breakpoint.result
    c.in-Break.is c.set_breakpoint.ensures

pub returns-in-Clear : goal.returns-in-Clear
returns-in-Clear c = does c.args.self.now c.clear_breakpoint.new.self c.args.command (command.Clear c.in-Clear.pc) c.clear_breakpoint.result
    c.in-Clear.is c.clear_breakpoint.ensures

pub returns-in-Save : goal.returns-in-Save
returns-in-Save c = does c.args.self.now c.save.new.self c.args.command (command.Save c.in-Save.slot) c.save.result c.in-Save.is
    c.save.ensures

pub returns-in-Load : goal.returns-in-Load
returns-in-Load c = does c.args.self.now c.load.new.self c.args.command (command.Load c.in-Load.slot) c.load.result c.in-Load.is
    c.load.ensures
