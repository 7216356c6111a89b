use Rattle.uz_check.proofs.OldTimer.{timer_in_time}
use Rattle.uz_check.proofs.scanline_laws.old_timer_keeps_time.Goals as goal

pub returns : goal.returns
returns c = timer_in_time
