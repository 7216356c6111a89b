-- What an instruction emits, by class of effect.
use Rattle.std.specs.Prelude.{◌%◌, Bool, None, Option, Some, if◌then◌else◌, nat_eq, true, ℕ, ◌&&◌, ◌-◌, ◌||◌, false}
use Rattle.uz_schedule.specs.declared.facts.Bit.{Bit}
use Rattle.uz_schedule.specs.declared.facts.Bit.TheVariants.{Free, Old as OldBit, One, Zero}
use Rattle.uz_schedule.specs.declared.facts.Val.{Val}
use Rattle.uz_schedule.specs.declared.lines.EventKind.{EventKind}
use Rattle.uz_schedule.specs.declared.lines.EventKind.TheVariants.{Leave, Pixel, Sound, Sync}
use Rattle.uz_schedule.specs.declared.states.Instance.{Instance}
use Rattle.uz_core.specs.declared.machine.Effect.{Effect}
use Rattle.uz_core.specs.declared.machine.Effect.TheVariants.{Return, Store, WriteIoBit}
use Rattle.uz_range.specs.Answers.{is_single}
use Rattle.uz_range.specs.Rules.{bst_answer}
use Rattle.uz_transfer.specs.Values.{span_of, value_at}
use Rattle.uz_transfer.specs.Memory.{address_range}
use Rattle.uz_transfer.specs.Transfer.{bit_of_bool}

-- What is emitted, at the end clock. None is undecided, and Some None is nothing

abbrev pub level_event : ℕ → Bit → Option (Option EventKind)
level_event level Zero = Some (if nat_eq level 0 then None else Some (Sync 0))
level_event level One = Some (if nat_eq level 1 then None else Some (Sync 1))
level_event level Free = None
level_event level OldBit = None

abbrev pub toggle_event : ℕ → Bit → Option (Option EventKind)
toggle_event level Zero = Some None
toggle_event level One = Some (Some (Sync (1 - level)))
toggle_event level Free = None
toggle_event level OldBit = None

abbrev pub byte_event : ℕ → Val → ℕ → Option (Option EventKind)
byte_event level v at =
    if nat_eq at 0x23 then toggle_event level (bst_answer (span_of v) 0) else
    if nat_eq at 0x25 then level_event level (bst_answer (span_of v) 0) else
    if nat_eq at 0x26 || nat_eq at 0x28 then Some (Some Pixel) else
    if nat_eq at 0xB3 then Some (Some Sound) else Some None

abbrev pub bit_event : ℕ → ℕ → Bool → ℕ → Option (Option EventKind)
bit_event level b set at =
    if nat_eq at 0x23 then (if nat_eq b 0 && set then Some (Some (Sync (1 - level))) else Some None) else
    if nat_eq at 0x25 then (if nat_eq b 0 then level_event level (bit_of_bool set) else Some None) else
    if nat_eq at 0x26 then (if set then Some (Some Pixel) else Some None) else
    if nat_eq at 0x28 then Some (Some Pixel) else Some None

abbrev pub emission_at : ℕ → Effect → Instance → Option (Option EventKind)
emission_at level (Store to r) inst =
    if is_single (address_range to inst) then byte_event level (value_at inst.regs r) (address_range to inst).lo else Some None
emission_at level (WriteIoBit at b set) inst = bit_event level b set at
emission_at level (Return true) inst = Some (Some Leave)
emission_at level e inst = Some None

abbrev pub emission : Effect → Instance → Option (Option EventKind)
emission e inst = emission_at (inst.level % 2) e inst

-- the level of sync after an event
abbrev pub level_after : Option EventKind → ℕ → ℕ
level_after None level = level
level_after (Some (Sync new)) level = new
level_after (Some Pixel) level = level
level_after (Some Sound) level = level
level_after (Some Leave) level = level

-- whether main's instruction stores what is seen outside, which it may not: PORTC, PINC, OCR2A, and PORTB and PINB but by SBI or CBI of
-- bits 1 to 7
abbrev pub main_emits : Effect → Instance → Bool
main_emits (Store to r) inst =
    is_single (address_range to inst)
    && (nat_eq (address_range to inst).lo 0x23
    || (nat_eq (address_range to inst).lo 0x25
    || (nat_eq (address_range to inst).lo 0x26 || (nat_eq (address_range to inst).lo 0x28 || nat_eq (address_range to inst).lo 0xB3))))
main_emits (WriteIoBit at b set) inst = nat_eq at 0x28
    || ((nat_eq at 0x26 && set) || (nat_eq b 0 && ((nat_eq at 0x23 && set) || nat_eq at 0x25)))
main_emits e inst = false
