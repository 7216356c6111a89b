use Rattle.uz_schedule.specs.Lines.{order_of}
use Rattle.uz_transfer.proofs.StepsOf.{steps_read}
use Rattle.uz_transfer.proofs.one_step.abstract_step.Goals as goal

pub returns-in-Some : goal.returns-in-Some
returns-in-Some c =
    steps_read c.args.head.now (order_of c.args.schedule.now) c.args.image.now c.args.at.now c.step_of.result c.in-Some.i
    c.word_after.result c.word_after-2.result c.word.result c.word-2.result c.word_after.ensures c.word_after-2.ensures c.word.ensures
    c.word-2.ensures c.in-Some.ensures.found c.step_of.ensures
