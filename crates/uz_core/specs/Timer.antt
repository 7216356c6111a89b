-- Timer 1 of the ATmega644 (data sheet, "16-bit Timer/Counter1"), as far as it is modelled: the count,
-- one compare register, one flag, and the registers that say whether it counts and interrupts.
--
-- This project's profile: a write to TCNT1 blocks no compare match, and TIFR1 reads bit 1 alone.
use Rattle.std.specs.Prelude.{ℕ, ◌+◌, ◌-◌, ◌*◌, ◌/◌, ◌%◌, ◌<◌, Bool, false, ◌&&◌, ◌||◌, ◌==◌, if◌then◌else◌, nat_eq, nat_lt, nat_le}
use Rattle.uz_core.specs.Addresses.{TIFR1, TIMSK1, TCCR1A, TCCR1B, TCNT1L, TCNT1H, OCR1AL, OCR1AH}
use Rattle.uz_core.specs.Arithmetic.{bit_value, bit_is_set}

pub record Timer : Type 0 where
  pub count : ℕ  -- TCNT1
  pub top : ℕ  -- OCR1A
  pub matched : Bool  -- OCF1A
  pub temp : ℕ  -- TEMP, the shared high byte
  pub interrupt_mask : ℕ  -- TIMSK1
  pub control_a : ℕ  -- TCCR1A
  pub control_b : ℕ  -- TCCR1B

-- at reset all registers are 0
abbrev pub timer_at_reset : Timer
timer_at_reset = record { count = 0; top = 0; matched = false; temp = 0; interrupt_mask = 0; control_a = 0; control_b = 0 }

-- The counting form: CTC mode at the processor's clock. TCCR1B bits 0 to 4 are 01001 and TCCR1A bits 0 and 1 are 00
abbrev pub is_counting : Timer → Bool
is_counting t = t.control_b % 32 == 9 && t.control_a % 4 == 0

-- The count some clocks on. It goes up by one each clock, from the top to 0 and from 65,535 to 0
abbrev pub count_after : ℕ → ℕ → ℕ → ℕ
count_after count top clocks =
    if nat_le count top then (count + clocks) % (top + 1) else
    if nat_lt (count + clocks) 65536 then count + clocks else (count + clocks - 65536) % (top + 1)

-- Whether the count goes from the top to 0 within those clocks
abbrev pub matches_within : ℕ → ℕ → ℕ → Bool
matches_within count top clocks =
    if nat_le count top then nat_le (top + 1) (count + clocks) else
    if nat_lt (count + clocks) 65536 then false else nat_le (top + 1) (count + clocks - 65536)

-- The timer some clocks on: OCF1A is set when the count goes from the top to 0. Outside the counting form nothing changes
abbrev pub timer_after : ℕ → Timer → Timer
timer_after clocks t =
    if is_counting t
    then record t { count = count_after t.count t.top clocks; matched = t.matched || matches_within t.count t.top clocks }
    else t

-- Whether TIMER1_COMPA is pending and enabled: OCF1A is set, and OCIE1A, bit 1 of TIMSK1
abbrev pub is_due : Timer → Bool
is_due t = t.matched && bit_is_set t.interrupt_mask 1

-- taking the interrupt clears OCF1A
abbrev pub timer_taken : Timer → Timer
timer_taken t = record t { matched = false }

-- Registers

abbrev pub is_timer_address : ℕ → Bool
is_timer_address at = at == TIFR1 || at == TIMSK1 || at == TCCR1A || at == TCCR1B || at == TCNT1L || at == TCNT1H || at == OCR1AL
    || at == OCR1AH

-- what reading a register of the timer gives. The high byte of TCNT1 is read from TEMP, that of OCR1A directly
abbrev pub timer_byte : Timer → ℕ → ℕ
timer_byte t at =
    if nat_eq at TIFR1 then bit_value t.matched * 2 else
    if nat_eq at TIMSK1 then t.interrupt_mask else
    if nat_eq at TCCR1A then t.control_a else
    if nat_eq at TCCR1B then t.control_b else
    if nat_eq at TCNT1L then t.count % 256 else
    if nat_eq at TCNT1H then t.temp else
    if nat_eq at OCR1AL then t.top % 256 else t.top / 256

-- The timer after a read that samples some clocks on: reading TCNT1L keeps in TEMP the high byte of the count as it then is
abbrev pub timer_after_read : ℕ → ℕ → Timer → Timer
timer_after_read at late t = if nat_eq at TCNT1L then record t { temp = (timer_after late t).count / 256 } else t

-- The timer after a write. A 1 in bit 1 of TIFR1 clears OCF1A. Writing a low byte writes the whole word, with its high byte from TEMP
abbrev pub timer_after_write : ℕ → ℕ → Timer → Timer
timer_after_write at value t =
    if nat_eq at TIFR1 then (if bit_is_set value 1 then record t { matched = false } else t) else
    if nat_eq at TIMSK1 then record t { interrupt_mask = value } else
    if nat_eq at TCCR1A then record t { control_a = value } else
    if nat_eq at TCCR1B then record t { control_b = value } else
    if nat_eq at TCNT1L then record t { count = t.temp * 256 + value } else
    if nat_eq at OCR1AL then record t { top = t.temp * 256 + value } else record t { temp = value }

-- the widths of the registers
pub record IsTimer (t : Timer) : Type 0 where
  pub count : t.count < 65536
  pub top : t.top < 65536
  pub temp : t.temp < 256
  pub interrupt_mask : t.interrupt_mask < 256
  pub control_a : t.control_a < 256
  pub control_b : t.control_b < 256
