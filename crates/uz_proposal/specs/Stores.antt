-- The byte that an instruction stores from a register: ST, STD, STS and OUT (AVR Instruction Set Manual). What PUSH and calls put on
-- the stack isn't one.
use Rattle.std.specs.Prelude.{◌≡◌, ℕ, IsFalse, IsTrue, Option, None, Some}
use Rattle.avr_table.specs.declared.Instr.{Instr}
use Rattle.uz_core.specs.declared.machine.AddressMode.{AddressMode}
use Rattle.uz_core.specs.declared.machine.Effect.{Effect}
use Rattle.uz_core.specs.declared.machine.Effect.TheVariants.{Store}
use Rattle.uz_core.specs.Core.{Core, effective_address, register}
use Rattle.uz_core.specs.Effects.{effect_of}
use Rattle.uz_core.specs.PadLine.{PadHistory}
use Rattle.uz_core.specs.Turn.{State, is_entry}
use Rattle.uz_core.specs.Steps.{ReadsHere}
use Rattle.uz_proposal.specs.declared.stores.Stored.{Stored}

-- where an effect stores, and from which register
abbrev pub store_part : Effect → Option (AddressMode × ℕ)
store_part (Store to r) = Some (to, r)
store_part other = None

abbrev pub stored_by : Core → Option (AddressMode × ℕ) → Option Stored
stored_by core None = None
stored_by core (Some (to, r)) = Some (record { at = effective_address to core; value = register core r })

-- what an instruction stores, if it does
abbrev pub instruction_store : Core → Instr → Option Stored
instruction_store core i = stored_by core (store_part (effect_of i))

-- What the turn of a state stores: an entry nothing, an instruction what its row says
pub record StoresOf (s : State PadHistory) (stored : Option Stored) : Type 0 where
  pub entry : IsTrue (is_entry s) → stored ≡ None
  pub row : IsFalse (is_entry s) → (i : Instr) → ReadsHere s.image s.core i → stored ≡ instruction_store s.core i
