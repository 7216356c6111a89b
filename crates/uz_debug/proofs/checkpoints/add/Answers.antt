use Rattle.std.proofs.Common.{subst, sym, List}
use Rattle.std.specs.Prelude.{All, is_ok}
use Rattle.uz_debug.specs.declared.timeline.Checkpoint.{Checkpoint}
use Rattle.uz_debug.specs.Checkpoints.{IsCheckpointOf}
use Rattle.uz_debug.proofs.CheckpointLemmas.{all_pushed}
use Rattle.uz_debug.proofs.checkpoints.add.Goals as goal

pub returns : goal.returns
returns c = λ start h k.
    subst (λ (xs : List Checkpoint). All (IsCheckpointOf start) xs) (sym c.push.ensures.items) (all_pushed (IsCheckpointOf start) (is_ok c.push.result)
    c.make_room.new.saves.items c.args.kept (c.make_room.ensures start h) k)
