-- When the core of a machine meets what is known of registers, pairs and flags.
use Rattle.std.specs.Prelude.{Bool, false, true, ℕ, ⊤, ◌%◌, ◌*◌, ◌+◌, ◌<◌, ◌≡◌}
use Rattle.uz_schedule.specs.declared.facts.Bit.{Bit}
use Rattle.uz_schedule.specs.declared.facts.Bit.TheVariants.{Free, Old as OldBit, One, Zero}
use Rattle.uz_schedule.specs.declared.facts.Val.{Val}
use Rattle.uz_schedule.specs.declared.facts.Val.TheVariants.{Old, OldFlags, Range}
use Rattle.uz_schedule.specs.declared.states.Instance.{Instance}
use Rattle.uz_core.specs.Arithmetic.{bit_is_set}
use Rattle.uz_core.specs.Core.{Core, pair, register}
use Rattle.uz_range.specs.Containment.{IsWithin}
use Rattle.uz_transfer.specs.Values.{value_at, flag_at, pair_at}

-- `o` is the interrupted core; the interrupted flags are its SREG with bit 7 clear
abbrev pub ValueHolds : Val → Core → ℕ → Type 0
ValueHolds (Range e) o v = IsWithin v e
ValueHolds (Old r) o v = v ≡ register o r
ValueHolds OldFlags o v = v ≡ o.sreg % 128

-- `before` is the interrupted flag
abbrev pub FlagHolds : Bit → Bool → Bool → Type 0
FlagHolds Zero before b = b ≡ false
FlagHolds One before b = b ≡ true
FlagHolds Free before b = ⊤
FlagHolds OldBit before b = b ≡ before

pub record CoreMeets (inst : Instance) (o core : Core) : Type 0 where
  pub regs : (r : ℕ) → r < 32 → ValueHolds (value_at inst.regs r) o (register core r)
  pub pairs : (k : ℕ) → k < 3 → IsWithin (pair core (26 + 2 * k)) (pair_at inst.pairs k)
  pub flags : (k : ℕ) → k < 7 → FlagHolds (flag_at inst.flags k) (bit_is_set o.sreg k) (bit_is_set core.sreg k)
