-- A RETI, where the return address is in RAM.
use Rattle.uz_check.proofs.Common.{◌≡◌, ℕ, ◌+◌, ◌*◌, ◌%◌, ◌≤◌, true, List, [], ◌∷◌, refl, arith, slice_index, Instr, Reti, Return, with_bit}
use Rattle.uz_check.proofs.Common.{effect_of, Core, returns_from_interrupt, content_after_loads, load_addresses, timer_after, PadHistory}
use Rattle.uz_check.proofs.Common.{Space, history_wiring, space_after, space_loads, State, after_instruction}
use Rattle.uz_core.specs.Core.{loaded_bytes}
use Rattle.uz_check.proofs.Ram.{off_core, ram_read, ram_timer}

-- RETI alone returns from an interrupt
pub is_reti : (row : Instr) → returns_from_interrupt (effect_of row) ≡ true → row ≡ Reti
is_reti Reti e = refl
is_reti row e = absurd cc

abbrev pub returned_core : State PadHistory → Core
returned_core s =
    record {
      pc = (slice_index s.space.bytes (s.core.sp + 2) + 256 * slice_index s.space.bytes (s.core.sp + 1)) % 32768;
      registers = s.core.registers;
      sreg = with_bit 7 true s.core.sreg;
      sp = s.core.sp + 2;
    }

abbrev pub returned : State PadHistory → State PadHistory
returned s =
    record {
      image = s.image;
      core = returned_core s;
      space = record { bytes = s.space.bytes; timer = timer_after 4 s.space.timer; pads = s.space.pads };
      response = s.response;
      is_owed = true;
      clock = s.clock + 4;
    }

abbrev addresses : Core → List ℕ
addresses c = load_addresses (Return true) c

loads : (s : State PadHistory) → 256 ≤ s.core.sp + 1 → s.core.sp + 2 ≤ 4351 → loaded_bytes (space_loads history_wiring) s.core 3 s.space
    (addresses s.core) ≡ slice_index s.space.bytes (s.core.sp + 1) ∷ slice_index s.space.bytes (s.core.sp + 2) ∷ []
loads s low high =
    let one : (s.core.sp + 1) % 65536 ≡ s.core.sp + 1 = omega arith in
    let two : (s.core.sp + 2) % 65536 ≡ s.core.sp + 2 = omega arith in
    let first = ram_read history_wiring (space_after 3 s.space) (s.core.sp + 1) low (omega arith) in
    let again : Space PadHistory → Space PadHistory = λ t. space_after 3 t in
    let kept = ram_timer (s.core.sp + 1) 3 s.space.timer low in
    rw (
      one,
      two,
      off_core (s.core.sp + 1) low,
      off_core (s.core.sp + 2) (omega arith),
      kept,
      first,
      ram_read history_wiring
          (space_after 3 s.space) (s.core.sp + 2) (omega arith) high,
    ) refl

content : (s : State PadHistory) → 256 ≤ s.core.sp + 1 → s.core.sp + 2 ≤ 4351 → content_after_loads (space_loads history_wiring) 3 s.space
    (addresses s.core) ≡ s.space
content s low high =
    let one : (s.core.sp + 1) % 65536 ≡ s.core.sp + 1 = omega arith in
    let two : (s.core.sp + 2) % 65536 ≡ s.core.sp + 2 = omega arith in
    rw (
      one,
      two,
      off_core (s.core.sp + 1) low,
      off_core (s.core.sp + 2) (omega arith),
      ram_timer (s.core.sp + 1) 3 s.space.timer low,
      ram_timer (s.core.sp + 2) 3 s.space.timer (omega arith),
    ) refl

pub return_is : (s : State PadHistory) → 256 ≤ s.core.sp + 1 → s.core.sp + 2 ≤ 4351 → after_instruction history_wiring Reti s ≡ returned s
return_is s low high =
    let bytes = loads s low high in
    let same = content s low high in
    let up : (s.core.sp + 2) % 65536 ≡ s.core.sp + 2 = omega arith in
    λ i.
    record {
      image = s.image;
      core = record {
        pc = (slice_index (bytes i) 1 + 256 * slice_index (bytes i) 0) % 32768;
        registers = s.core.registers;
        sreg = with_bit 7 true s.core.sreg;
        sp = up i;
      };
      space = space_after 4 (same i);
      response = s.response;
      is_owed = true;
      clock = s.clock + 4;
    }
