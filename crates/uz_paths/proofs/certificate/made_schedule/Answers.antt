use Rattle.std.proofs.Common.{List, subst}
use Rattle.uz_schedule.specs.Limits.{ScheduleFits}
use Rattle.uz_search.specs.declared.marks.Mark.{Mark}
use Rattle.uz_paths.specs.Kinds.{IsScheduleOf}
use Rattle.uz_paths.proofs.MadeSchedule.{if_ok, is_fit}
use Rattle.uz_paths.proofs.certificate.made_schedule.Goals as goal

pub returns-clause-fits : goal.returns-clause-fits
returns-clause-fits c =
    if_ok c.schedule_of.result (IsScheduleOf c.as_slice.result.now c.args.program.now.schedule) ScheduleFits
    (λ s of. is_fit c.args.image.now c.args.program.now c.args.found.now s c.event_by_line.ensures c.ended_falls_once.ensures
    c.ended_levels_fit.ensures c.requires.fits c.requires.ended
    (subst (λ (ms : List Mark). IsScheduleOf ms c.args.program.now.schedule s) c.as_slice.ensures.value of))
    c.schedule_of.ensures
