use Rattle.std.proofs.Common.{rules, ◌<◌, ◌∙◌, ap}
use Rattle.uz_core.specs.Timer.{Timer, timer_after}
use Rattle.uz_timer.proofs.CountedDown.{counted_down}
use Rattle.uz_timer.proofs.timer.Timer1.pass.Goals as goal

pub returns-then-clocks-self : goal.returns-then-clocks-self
returns-then-clocks-self c =
    let i = c.self.inside in
    let t : Timer = record {
      count = 0;
      top = i.top;
      matched = i.matched;
      temp = i.temp;
      interrupt_mask = i.interrupt_mask;
      control_a = i.control_a;
      control_b = i.control_b;
    } in
    let below : c.args.clocks < i.left = search rules in
    counted_down t i.still i.end i.left c.args.clocks c.self.invariant below ∙ ap (timer_after c.args.clocks) c.self.view_is
