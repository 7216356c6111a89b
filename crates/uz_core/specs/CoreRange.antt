-- A core, a held store and loads whose parts are in range, as the chip's registers hold them.
use Rattle.std.specs.Prelude.{◌≡◌, ℕ, ◌<◌, length}
use Rattle.std.specs.List.{AllByRecursion}
use Rattle.uz_core.specs.declared.machine.HeldStore.{HeldStore}
use Rattle.uz_core.specs.declared.machine.HeldStore.TheVariants.{Byte, Bit}
use Rattle.uz_core.specs.Core.{Core, LoadModel}

abbrev pub IsByte : ℕ → Type 0
IsByte n = n < 256

-- 32 registers that are bytes
pub record IsCore (s : Core) : Type 0 where
  pub count : length s.registers ≡ 32
  pub registers : AllByRecursion IsByte s.registers
  pub sreg : IsByte s.sreg
  pub sp : s.sp < 65536
  pub pc : s.pc < 32768

abbrev pub IsHeldStore : HeldStore → Type 0
IsHeldStore (Byte at v) = (at < 65536) × IsByte v
IsHeldStore (Bit at b set) = (at < 65536) × (b < 8)

-- loads give bytes, and keep what holds of a content
pub record IsLoadModel {C : Type 0} (model : LoadModel C) (P : C → Type 0) : Type 0 where
  pub byte : (c : C) (at late : ℕ) → P c → IsByte (model.byte c at late)
  pub content_after : (c : C) (at late : ℕ) → P c → P (model.content_after c at late)
