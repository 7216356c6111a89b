use Rattle.std.proofs.Common.{subst, sym, List}
use Rattle.std.specs.Prelude.{All}
use Rattle.uz_debug.specs.declared.timeline.Checkpoint.{Checkpoint}
use Rattle.uz_debug.specs.Checkpoints.{IsCheckpointOf}
use Rattle.uz_debug.proofs.CheckpointLemmas.{all_removed}
use Rattle.uz_debug.proofs.checkpoints.make_room.Goals as goal

pub returns-in-Some : goal.returns-in-Some
returns-in-Some c = λ start h. subst (λ (xs : List Checkpoint). All (IsCheckpointOf start) xs) (sym c.remove.ensures.items)
    (all_removed (IsCheckpointOf start) c.args.saves.now.items c.in-Some.at h)
