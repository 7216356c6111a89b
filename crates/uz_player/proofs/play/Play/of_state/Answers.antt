use Rattle.std.proofs.Common.{◌∙◌, ap, drop}
use Rattle.uz_schedule.specs.Schedule.{response_clocks}
use Rattle.uz_player.specs.declared.play.Play.{Play}
use Rattle.uz_player.proofs.StateLaws.{made_again, made_at}
use Rattle.uz_player.proofs.play.Play.of_state.Goals as goal

pub returns-clause-stands : goal.returns-clause-stands
returns-clause-stands c =
    let play : Play = record {
      console = c.in_ok-at.field-0;
      scanner = c.scanner_of.result;
      edges = c.edges_of.result;
      next = c.args.state.now.edges_seen;
    } in
    made_at c.args.image c.args.state.now c.in_ok-board.board play c.in_ok-board.ensures
    (c.in_ok-at.ensures ∙ made_again c.args.image c.args.state.now c.in_ok-board.board c.cpu_of-cpu.result
    (response_clocks c.response_of.result) c.cpu_of-cpu.ensures c.response_of.ensures) c.scanner_of.ensures.stands
    c.scanner_of.ensures.clock (ap (drop c.args.state.now.edges_seen) c.edges_of.ensures)
