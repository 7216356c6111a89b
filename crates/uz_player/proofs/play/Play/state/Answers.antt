use Rattle.std.proofs.Common.{◌≡◌, ◌∷◌, [], ap, refl, ◌∙◌}
use Rattle.uz_core.specs.Space.{Space}
use Rattle.uz_pads.specs.declared.pads.Pads.{Pads}
use Rattle.uz_pads.specs.declared.pads.PadState.{PadState}
use Rattle.uz_pads.specs.Pads.{pad_state_of}
use Rattle.uz_console.specs.Consoles.{state_of}
use Rattle.uz_player.specs.declared.state.State.{State}
use Rattle.uz_player.proofs.StateLaws.{fields_stand, left_again}
use Rattle.uz_player.proofs.play.Play.state.Goals as goal

pub returns-clause-left : goal.returns-clause-left
returns-clause-left c =
    let state : State = record {
      clock = c.clock.result;
      core = c.core_state.result;
      timer = c.timer_state.result;
      pads = c.pads_state.result;
      picture = c.picture_state.result;
      edges = c.edge_states.result;
      edge_count = c.count_of.result;
      edges_seen = c.min.result;
      response = c.clocks_of.result;
      unused = 0 ∷ 0 ∷ 0 ∷ 0 ∷ 0 ∷ [];
      bytes = c.copy_from_slice.new.self;
    } in
    left_again state c.args.self.now (c.edge_states.ensures state refl c.count_of.ensures.count) c.min.ensures c.count_of.ensures.few

pub returns-clause-stands : goal.returns-clause-stands
returns-clause-stands c =
    let state : State = record {
      clock = c.clock.result;
      core = c.core_state.result;
      timer = c.timer_state.result;
      pads = c.pads_state.result;
      picture = c.picture_state.result;
      edges = c.edge_states.result;
      edge_count = c.count_of.result;
      edges_seen = c.min.result;
      response = c.clocks_of.result;
      unused = 0 ∷ 0 ∷ 0 ∷ 0 ∷ 0 ∷ [];
      bytes = c.copy_from_slice.new.self;
    } in
    let pads : c.pads.result ≡ pad_state_of (state_of c.args.self.now.console).space.pads =
    c.pads.ensures ∙ ap (λ (s : Space Pads). pad_state_of s.pads) c.board-board.ensures.space in
    fields_stand state c.args.self.now (record {
      core = c.core_state.ensures.core ∙ c.cpu.ensures;
      owed = c.core_state.ensures.owed ∙ c.owes.ensures;
      bytes = c.copy_from_slice.ensures.after ∙ (c.bytes.ensures.bytes ∙ ap (λ (s : Space Pads). s.bytes) c.board-board.ensures.space);
      timer = c.timer_state.ensures ∙ (c.timer.ensures ∙ ap (λ (s : Space Pads). s.timer) c.board-board.ensures.space);
      pads = (
        c.pads_state.ensures.current ∙ ap (λ (p : PadState). p.current) pads,
        c.pads_state.ensures.level ∙ ap (λ (p : PadState). p.level) pads,
        c.pads_state.ensures.moves ∙ ap (λ (p : PadState). p.moves) pads,
      );
      clocks = (c.clock.ensures.clock, c.clocks_of.ensures ∙ c.response.ensures);
      picture = (c.picture_state.ensures.seen, c.picture_state.ensures.clock);
      left = left_again state c.args.self.now (c.edge_states.ensures state refl c.count_of.ensures.count) c.min.ensures c.count_of.ensures.few;
    })
