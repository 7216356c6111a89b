-- The clocks of a row by outcome.
use Rattle.std.specs.Prelude.{ℕ}
use Rattle.avr_table.specs.declared.Outcome.{Outcome}
use Rattle.avr_table.specs.declared.Outcome.TheVariants.{Next, Taken, SkipOne, SkipTwo}
use Rattle.uz_core.specs.declared.decoded.Clocks.{Clocks}

abbrev pub clocks_in : Clocks → Outcome → ℕ
clocks_in clocks Next = clocks.next
clocks_in clocks Taken = clocks.taken
clocks_in clocks SkipOne = clocks.skip_one
clocks_in clocks SkipTwo = clocks.skip_two
