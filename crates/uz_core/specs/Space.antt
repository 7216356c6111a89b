-- The data space of the ATmega644 (data sheet, "AVR Memories" and "Register Summary") but for the core's own
-- addresses, and the pads that hang on PORTA.
--
-- This project's profile: PINB, PINC and PIND read the port whatever its direction is, TIFR1 has bit 1 alone,
-- other devices keep what was written, and above the RAM there is nothing.
use Rattle.std.specs.Prelude.{◌≡◌, ℕ, ◌+◌, ◌*◌, ◌/◌, ◌^◌, Bool, true, not, ◌||◌, ◌==◌, if◌then◌else◌, nat_eq, nat_lt, List, length}
use Rattle.std.specs.Prelude.{slice_index, slice_set, replicate, bit_xor}
use Rattle.std.specs.List.{AllByRecursion}
use Rattle.uz_core.specs.declared.machine.HeldStore.{HeldStore}
use Rattle.uz_core.specs.declared.machine.HeldStore.TheVariants.{Byte, Bit}
use Rattle.uz_core.specs.Addresses.{PINA, PORTA, PINB, PINC, PIND, TIFR1, RAM_END}
use Rattle.uz_core.specs.Arithmetic.{with_bit}
use Rattle.uz_core.specs.Core.{LoadModel}
use Rattle.uz_core.specs.CoreRange.{IsByte}
use Rattle.uz_core.specs.Timer.{Timer, IsTimer, timer_at_reset, timer_after, timer_taken, is_timer_address, timer_byte, timer_after_read}
use Rattle.uz_core.specs.Timer.{timer_after_write}
use Rattle.uz_core.specs.PadLine.{PadHistory, pad_lines, with_level}

-- How pads hang on PORTA: the levels of the two data lines, in bits 0 and 1, and the pads after PORTA takes a value.
-- The definitions are over any pads, so that one turn is both the machine's and the emulator's
pub record PadWiring (P : Type 0) : Type 0 where
  pub lines : P → ℕ
  pub with_level : ℕ → P → P

-- the machine's own pads are the list of pairs and the whole list of PORTA's values
abbrev pub history_wiring : PadWiring PadHistory
history_wiring = record { lines = pad_lines; with_level = with_level }

-- The data space: a byte for each address up to the end of the RAM, the timer, and the pads. The bytes at the core's own
-- addresses and at the timer's aren't used
pub record Space (P : Type 0) : Type 0 where
  pub bytes : List ℕ
  pub timer : Timer
  pub pads : P

abbrev pub plain_byte : {P : Type 0} → Space P → ℕ → ℕ
plain_byte space at = slice_index space.bytes at

abbrev pub with_plain_byte : {P : Type 0} → ℕ → ℕ → Space P → Space P
with_plain_byte at value space = record space { bytes = slice_set space.bytes at value }

-- 4,352 bytes, and registers in their widths
pub record IsSpace {P : Type 0} (space : Space P) : Type 0 where
  pub size : length space.bytes ≡ RAM_END + 1
  pub bytes : AllByRecursion IsByte space.bytes
  pub timer : IsTimer space.timer

-- Reading

-- PINB, PINC and PIND, each two addresses below its port
abbrev pub is_pin : ℕ → Bool
is_pin at = at == PINB || at == PINC || at == PIND

-- The byte that a read gives. PINA has the pad lines in bits 0 and 1 and PORTA's bits in the others
abbrev pub byte_at : {P : Type 0} → PadWiring P → Space P → ℕ → ℕ
byte_at wiring space at =
    if nat_eq at PINA then plain_byte space PORTA / 4 * 4 + wiring.lines space.pads else
    if is_pin at then plain_byte space (at + 2) else
    if is_timer_address at then timer_byte space.timer at else
    if nat_lt RAM_END at then 0 else plain_byte space at

-- of a data space the clock moves the timer alone
abbrev pub space_after : {P : Type 0} → ℕ → Space P → Space P
space_after clocks space = record space { timer = timer_after clocks space.timer }

-- A load samples some clocks after the instruction's start
abbrev pub space_loads : {P : Type 0} → PadWiring P → LoadModel (Space P)
space_loads wiring = record {
  byte = λ space at late. byte_at wiring (space_after late space) at;
  content_after = λ space at late. record space { timer = timer_after_read at late space.timer };
}

-- Writing

-- PORTA takes a value, and the pads see it
abbrev pub with_port_a : {P : Type 0} → PadWiring P → ℕ → Space P → Space P
with_port_a wiring value space = record space { bytes = slice_set space.bytes PORTA value; pads = wiring.with_level value space.pads }

-- A store of a byte. A 1 written to PINx toggles the port's bit
abbrev pub after_byte : {P : Type 0} → PadWiring P → ℕ → ℕ → Space P → Space P
after_byte wiring at value space =
    if nat_eq at PINA then with_port_a wiring (bit_xor (plain_byte space PORTA) value) space else
    if nat_eq at PORTA then with_port_a wiring value space else
    if is_pin at then with_plain_byte (at + 2) (bit_xor (plain_byte space (at + 2)) value) space else
    if is_timer_address at then record space { timer = timer_after_write at value space.timer } else
    if nat_lt RAM_END at then space else with_plain_byte at value space

-- PINA to PIND and TIFR1, where SBI writes the one bit alone, and CBI is no store
abbrev pub takes_one_bit : ℕ → Bool
takes_one_bit at = at == PINA || is_pin at || at == TIFR1

abbrev pub is_store : HeldStore → Bool
is_store (Byte at value) = true
is_store (Bit at bit set) = set || not (takes_one_bit at)

-- The data space after a store. SBI and CBI on another byte change its one bit
abbrev pub after_store : {P : Type 0} → PadWiring P → HeldStore → Space P → Space P
after_store wiring (Byte at value) space = after_byte wiring at value space
after_store wiring (Bit at bit set) space =
    if takes_one_bit at
    then (if set then after_byte wiring at (2 ^ bit) space else space)
    else after_byte wiring at (with_bit bit set (byte_at wiring space at)) space

-- taking the interrupt clears OCF1A
abbrev pub space_taken : {P : Type 0} → Space P → Space P
space_taken space = record space { timer = timer_taken space.timer }

-- at reset all bytes are 0
abbrev pub space_at_reset : {P : Type 0} → P → Space P
space_at_reset pads = record { bytes = replicate (RAM_END + 1) 0; timer = timer_at_reset; pads = pads }
