-- The clocks and words of every row.
use Rattle.std.proofs.Common.{◌≡◌, Bool, true, false, ◌&&◌, ◌||◌, nat_le, refl}
use Rattle.avr_table.specs.declared.Instr.{Instr}
use Rattle.avr_table.specs.declared.Instr.TheVariants.{Nop}
use Rattle.avr_table.specs.declared.Outcome.{Outcome}
use Rattle.avr_table.specs.declared.Outcome.TheVariants.{Next, Taken, SkipOne, SkipTwo}
use Rattle.avr_table.specs.Rows.{clocks_of}
use Rattle.uz_core.specs.declared.machine.Effect.{Effect}
use Rattle.uz_core.specs.declared.machine.Effect.TheVariants.{Stop}
use Rattle.uz_core.specs.Effects.{effect_of}

abbrev pub stops : Effect → Bool
stops Stop = true
stops e = false

abbrev pub Within : Instr → Outcome → Type 0
Within i o = (stops (effect_of i) || (nat_le 1 (clocks_of i o) && nat_le (clocks_of i o) 4)) ≡ true

at_next : (i : Instr) → Within i Next
at_next Nop = refl
at_next i = refl

at_taken : (i : Instr) → Within i Taken
at_taken Nop = refl
at_taken i = refl

at_one : (i : Instr) → Within i SkipOne
at_one Nop = refl
at_one i = refl

at_two : (i : Instr) → Within i SkipTwo
at_two Nop = refl
at_two i = refl

-- each row but SPM takes 1 to 4 clocks
pub clocks_within : (i : Instr) (o : Outcome) → Within i o
clocks_within i Next = at_next i
clocks_within i Taken = at_taken i
clocks_within i SkipOne = at_one i
clocks_within i SkipTwo = at_two i
