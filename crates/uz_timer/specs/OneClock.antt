-- One clock of timer 1, as the ATmega644 data sheet tells it: the count goes up by one, from the top to 0 with OCF1A
-- set, and from 65,535 to 0.
use Rattle.std.specs.Prelude.{◌+◌, true, if◌then◌else◌, nat_eq}
use Rattle.uz_core.specs.Timer.{Timer, is_counting}

abbrev pub count_up : Timer → Timer
count_up t =
    if nat_eq t.count t.top then record t { count = 0; matched = true } else
    if nat_eq t.count 65535 then record t { count = 0 } else record t { count = t.count + 1 }

abbrev pub one_clock : Timer → Timer
one_clock t = if is_counting t then count_up t else t
