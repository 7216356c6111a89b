use Rattle.std.proofs.Common.{subst, sym}
use Rattle.uz_debug.specs.Checkpoints.{IsCheckpointOf}
use Rattle.uz_debug.proofs.CheckpointLemmas.{same_console}
use Rattle.uz_debug.proofs.timeline.Timeline.load.Goals as goal

pub returns-then-self-target-clause-keeps : goal.returns-then-self-target-clause-keeps
returns-then-self-target-clause-keeps c = λ start h.
    let kept = c.index-kept.result.now in
    let of_turn : IsCheckpointOf start kept = subst (IsCheckpointOf start) (sym c.index-kept.ensures) (h.saves c.args.at kept c.requires.place) in
    record {
      here = (
        of_turn.0,
        of_turn.1,
        c.load.ensures.stands h.here.0 of_turn.0 h.here.2 of_turn.2
            (same_console start h.here.0 of_turn.0 c.args.self.now.turn kept.turn h.here.1 of_turn.1),
      );
      first = h.first;
      saves = h.saves;
    }
