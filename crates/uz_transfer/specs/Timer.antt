-- What a handler's instance knows of timer 1 besides its clock, OCR1A and TEMP, and what an instruction makes of them. Only loads and
-- stores reach the timer's registers (ATmega644 data sheet: TCNT1L is 0x84, OCR1AL 0x88 and OCR1AH 0x89; the high byte goes through
-- TEMP).
use Rattle.std.specs.Prelude.{Bool, false, if◌then◌else◌, nat_eq, nat_le, ℕ, ◌&&◌, ◌*◌, ◌+◌, ◌/◌}
use Rattle.uz_schedule.specs.Ends.{Ends, one_number, whole_byte}
use Rattle.uz_schedule.specs.declared.states.Instance.{Instance}
use Rattle.uz_core.specs.declared.machine.AddressMode.{AddressMode}
use Rattle.uz_core.specs.declared.machine.Effect.{Effect}
use Rattle.uz_core.specs.declared.machine.Effect.TheVariants.{Load, Store}
use Rattle.uz_range.specs.Answers.{is_single}
use Rattle.uz_transfer.specs.Values.{span_of, value_at}
use Rattle.uz_transfer.specs.Kinds.{is_handler}
use Rattle.uz_transfer.specs.Memory.{address_range}

-- whether a handler's store goes to this address
abbrev pub handler_stores : ℕ → AddressMode → Instance → Bool
handler_stores at to inst = is_handler inst.kind && (is_single (address_range to inst) && nat_eq (address_range to inst).lo at)

-- whether a handler's instruction stores OCR1AL
abbrev pub stores_top : Effect → Instance → Bool
stores_top (Store to r) inst = handler_stores 0x88 to inst
stores_top e inst = false

-- a handler's store to OCR1AL writes OCR1A, with the high byte that TEMP has
abbrev pub top_after : Effect → Instance → ℕ
top_after (Store to r) inst = if handler_stores 0x88 to inst then inst.temp.lo * 256 + (span_of (value_at inst.regs r)).lo else inst.top
top_after e inst = inst.top

-- a load of TCNT1L puts the high byte of the count into TEMP; one that may be of TCNT1L leaves TEMP unknown
abbrev pub temp_loaded : ℕ → Ends → Ends → Ends
temp_loaded sampled a temp =
    if is_single a then (if nat_eq a.lo 0x84 then one_number (sampled / 256) else temp) else
    if nat_le a.lo 0x84 && nat_le 0x84 a.hi then whole_byte else temp

-- `sampled` is the line's clock at which a load samples, which is the timer's count; a handler's store to OCR1AH writes TEMP
abbrev pub temp_after : ℕ → Effect → Instance → Ends
temp_after sampled (Load d from) inst =
    if is_handler inst.kind then temp_loaded sampled (address_range from inst) inst.temp else inst.temp
temp_after sampled (Store to r) inst = if handler_stores 0x89 to inst then span_of (value_at inst.regs r) else inst.temp
temp_after sampled e inst = inst.temp

abbrev pub with_timer : ℕ → Ends → Instance → Instance
with_timer top temp inst = record inst { top = top; temp = temp }
