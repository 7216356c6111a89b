use Rattle.std.proofs.Common.{[], refl}
use Rattle.uz_debug.proofs.CheckpointLemmas.{same_console}
use Rattle.uz_debug.proofs.timeline.Timeline.reset.Goals as goal

pub returns-clause-keeps : goal.returns-clause-keeps
returns-clause-keeps c = λ start h. record {
  here = (
    start,
    ([], (refl, refl)),
    c.load.ensures.stands h.here.0 start h.here.2 h.first
        (same_console start h.here.0 start c.args.self.now.turn 0 h.here.1 ([], (refl, refl))),
  );
  first = h.first;
  saves = h.saves;
}
