use Rattle.std.proofs.Common.{◌≡◌, drop}
use Rattle.uz_schedule.specs.Lines.{order_of}
use Rattle.uz_transfer.specs.Exits.{each_exit}
use Rattle.uz_transfer.specs.InTime.{is_in_time}
use Rattle.uz_transfer.proofs.in_time.each_in_time.Given as goal

-- what is left answers for all
abbrev pub invariant-loop-exit : goal.invariant-loop-exit
invariant-loop-exit l = each_exit (λ exit. is_in_time (order_of l.schedule) l.e l.at exit) (drop l.exit-index l.exits) ≡ each_exit
    (λ exit. is_in_time (order_of l.schedule) l.e l.at exit) l.exits
