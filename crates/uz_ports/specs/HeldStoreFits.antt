-- The arguments of held stores.
use Rattle.std.specs.Prelude.{ℕ, ◌<◌}
use Rattle.uz_core.specs.declared.machine.HeldStore.{HeldStore}
use Rattle.uz_core.specs.declared.machine.HeldStore.TheVariants.{Byte, Bit}

-- the bit that a store changes
abbrev pub bit_number : HeldStore → ℕ
bit_number (Byte at value) = 0
bit_number (Bit at bit set) = bit

abbrev pub HeldStoreFits : HeldStore → Type 0
HeldStoreFits store = bit_number store < 8
