-- Instructions that make one store, to an address that is known when they are decoded, and nothing else.
use Rattle.std.specs.Prelude.{◌≡◌, ℕ, ◌+◌, ◌%◌, ◌<◌, false}
use Rattle.avr_table.specs.declared.Outcome.{Outcome}
use Rattle.avr_table.specs.declared.Outcome.TheVariants.{Next}
use Rattle.uz_core.specs.declared.machine.AddressMode.TheVariants.{Direct}
use Rattle.uz_core.specs.declared.machine.Effect.{Effect}
use Rattle.uz_core.specs.declared.machine.Effect.TheVariants.{Store, WriteIoBit}
use Rattle.uz_core.specs.declared.machine.HeldStore.{HeldStore}
use Rattle.uz_core.specs.declared.machine.HeldStore.TheVariants as held
use Rattle.uz_core.specs.Core.{Core, is_core_address, register}
use Rattle.uz_core.specs.declared.known_store.Target.{Target}
use Rattle.uz_core.specs.declared.known_store.Target.TheVariants.{Byte, Bit}
use Rattle.uz_core.specs.declared.known_store.KnownStore.{KnownStore}

-- the effect of an instruction with this target, and its store
abbrev pub storing : Target → Effect
storing (Byte at r) = Store (Direct at) r
storing (Bit at bit set) = WriteIoBit at bit set

abbrev pub store_to : Target → Core → HeldStore
store_to (Byte at r) s = held.Byte at (register s r)
store_to (Bit at bit set) s = held.Bit at bit set

-- the address isn't one of the core's own; those that have bit instructions never are
abbrev pub IsOutside : Target → Type 0
IsOutside (Byte at r) = is_core_address at ≡ false
IsOutside (Bit at bit set) = Unit {0}

-- a store of a bit has one of a byte's
abbrev pub StoreFits : HeldStore → Type 0
StoreFits (held.Byte at value) = Unit {0}
StoreFits (held.Bit at bit set) = bit < 8

-- an instruction at a word address, with this effect and with the words and, by outcome, the clocks of its row
pub record IsKnownStore (at : ℕ) (e : Effect) (words : ℕ) (clocks : Outcome → ℕ) (known : KnownStore) : Type 0 where
  pub effect : e ≡ storing known.target
  pub outside : IsOutside known.target
  pub following : known.following ≡ (at + words) % 32768
  pub clocks_are : known.clocks ≡ clocks Next
