use Rattle.std.proofs.Common.{refl}
use Rattle.uz_files.specs.declared.status.Status.TheVariants.{NoMemory}
use Rattle.uz_files.proofs.TextLemmas.{takes_none}
use Rattle.uz_certificate_commands.proofs.RunLemmas.{comes_of_ending, lacks_text}
use Rattle.uz_certificate_commands.proofs.play_run.end_play.Goals as goal

pub returns-in-Ok-clause-comes : goal.returns-in-Ok-clause-comes
returns-in-Ok-clause-comes g c = λ frames edges old new written.
    comes_of_ending c.in-Ok.ending frames edges _ _ _ _ old new _ _ c.in-Ok.ensures written (c.end_with.ensures.comes new)

pub returns-in-Err-clause-comes : goal.returns-in-Err-clause-comes
returns-in-Err-clause-comes g c = λ frames edges old new written.
    lacks_text frames edges _ _ old new written _ NoMemory _ _ refl (takes_none (g.K.Sink.text c.args.out.now))
