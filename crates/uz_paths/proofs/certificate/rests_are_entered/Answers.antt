use Rattle.uz_paths.proofs.Complete.{are_entered}
use Rattle.uz_paths.proofs.MadeSchedule.{is_fit, is_made}
use Rattle.uz_paths.proofs.certificate.rests_are_entered.Goals as goal

pub returns : goal.returns
returns c =
    are_entered c.args.image.now c.args.program.now c.args.found.now c.args.entry.now c.args.schedule.now c.ended_rests_enter.ensures
    c.requires.fits c.requires.ended
    (is_made c.args.program.now c.args.found.now.marks.items c.args.schedule.now c.event_by_line.ensures c.requires.schedule)
    (is_fit c.args.image.now c.args.program.now c.args.found.now c.args.schedule.now c.event_by_line.ensures c.ended_falls_once.ensures
    c.ended_levels_fit.ensures c.requires.fits c.requires.ended c.requires.schedule)
