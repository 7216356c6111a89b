-- The exit statuses, as the pages number them.
use Rattle.std.specs.Prelude.{ℕ}
use Rattle.uz_files.specs.declared.status.Status.{Status}
use Rattle.uz_files.specs.declared.status.Status.TheVariants as status

abbrev pub number_of : Status → ℕ
number_of status.Done = 0
number_of status.Usage = 1
number_of status.Unread = 2
number_of status.BadInput = 3
number_of status.Refused = 4
number_of status.Unwritten = 5
number_of status.Stopped = 6
number_of status.NotEntered = 7
number_of status.NoMemory = 8
