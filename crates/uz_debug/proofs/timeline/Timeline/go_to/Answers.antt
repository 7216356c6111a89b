use Rattle.uz_debug.specs.Checkpoints.{turn_of}
use Rattle.uz_debug.proofs.CheckpointLemmas.{halts_at_goal}
use Rattle.uz_debug.proofs.timeline.Timeline.go_to.Goals as goal

pub returns : goal.returns
returns c = λ start h there.
    let r = c.go_on.ensures start (c.rewind.ensures.keeps start h) in
    (r.0, halts_at_goal start (turn_of c.rewind.new.self) c.args.target (turn_of c.go_on.new.self) c.go_on.result r.1 there)
