use Rattle.std.proofs.Common.{[], refl}
use Rattle.std.proofs.lemmas.List.Elements.{All-nil, All-same}
use Rattle.uz_schedule.specs.Schedule.{response_clocks}
use Rattle.uz_core.specs.Turn.{state_at_reset, history_at_reset}
use Rattle.uz_pads.specs.Pads.{pairs_of}
use Rattle.uz_debug.specs.Checkpoints.{IsCheckpointOf}
use Rattle.uz_debug.proofs.timeline.Timeline.new.Goals as goal

pub returns-clause-begins : goal.returns-clause-begins
returns-clause-begins c =
    let start = state_at_reset c.args.image (history_at_reset (pairs_of c.args.pads.items)) (response_clocks c.args.irq) in
    record {
      here = (start, ([], (refl, refl)), c.in_ok-console.ensures.stands);
      first = c.in_ok-first.ensures.stands start c.in_ok-console.ensures.stands;
      saves = All-same (IsCheckpointOf start) c.new.result.items [] c.new.ensures.items (All-nil (IsCheckpointOf start));
    }
