use Rattle.uz_program_commands.proofs.WaveLemmas.{task_over, task_stopped}
use Rattle.uz_program_commands.proofs.wave_command.task_of.Goals as goal

pub returns-in_ok-line-in-Over : goal.returns-in_ok-line-in-Over
returns-in_ok-line-in-Over c = λ clocks start heard.
    task_over clocks start c.args.heard c.in-Over.wave c.in_ok-line-in-Over.line c.in-Over.is c.in_ok-line-in-Over.ensures heard

pub returns-in_ok-stop_line-in-Stopped : goal.returns-in_ok-stop_line-in-Stopped
returns-in_ok-stop_line-in-Stopped c = λ clocks start heard.
    task_stopped clocks start c.args.heard c.in-Stopped.pc c.in-Stopped.why _ c.in-Stopped.is c.in_ok-stop_line-in-Stopped.ensures heard
