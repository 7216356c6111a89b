use Rattle.std.proofs.Common.{ap, subst, sym, ◌∙◌}
use Rattle.uz_core.specs.Space.{Space}
use Rattle.uz_pads.specs.declared.pads.Pads.{Pads}
use Rattle.uz_pads.specs.Pads as pads
use Rattle.uz_player.specs.States.{pads_in, remembered}
use Rattle.uz_player.proofs.state_parts.board_of.Goals as goal

pub returns : goal.returns
returns c = record {
  bytes = ap (λ (s : Space Pads). s.bytes) c.at.ensures.space ∙ (c.in_ok-bytes.ensures.items ∙ c.as_slice.ensures);
  timer = ap (λ (s : Space Pads). s.timer) c.at.ensures.space ∙ c.timer_of-timer.ensures;
  pads = λ history h. subst (λ p. pads.StandsFor p (remembered (pads_in c.args.state.now.pads) history))
      (sym (ap (λ (s : Space Pads). s.pads) c.at.ensures.space)) (c.in_ok-pads.ensures history h);
  held = c.at.ensures.idle.0;
  entered = c.at.ensures.idle.1;
  clock = c.at.ensures.clock;
}
