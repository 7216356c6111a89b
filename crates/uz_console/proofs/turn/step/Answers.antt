use Rattle.uz_ports.specs.Boards.{content_of, held_of}
use Rattle.uz_console.proofs.TurnLemmas.{board_step}
use Rattle.uz_console.proofs.turn.step.Goals as goal

pub returns : goal.returns
returns c = board_step c.args.program.now c.args.cpu.now (content_of c.args.board.now) c.step_in.new.self
    (content_of c.step_in.new.space) (held_of c.step_in.new.space) c.step_in.result c.step_in.ensures
