-- A turn keeps the parts of a state in range.
use Rattle.std.proofs.Common.{◌≡◌, ◌<◌, ℕ, zero, suc, ◌+◌, ◌-◌, ◌*◌, ◌/◌, ◌^◌, Bool, true, false, if◌then◌else◌, List, [], ◌∷◌, map, nat_lt}
use Rattle.std.proofs.Common.{nat_eq, sym, ◌∙◌, subst, inl, inr, arith}
use Rattle.std.specs.Ordering.{nat_cmp}
use Rattle.std.specs.FinMap.{FinMap}
use Rattle.std.specs.Prelude.{◌⊎◌, replicate}
use Rattle.std.specs.List.{AllByRecursion}
use Rattle.uz_hex.specs.Cells.{IsFlash}
use Rattle.std.proofs.lemmas.Bool.Decides.{nat_tests}
use Rattle.std.proofs.lemmas.List.{length-set, length-replicate}
use Rattle.std.proofs.lemmas.Nat.{or_lt, xor_lt, and_le_l}
use Rattle.std.proofs.Math.Pow.{pow-lt}
use Rattle.avr_table.specs.Rows.{words_of, clocks_of}
use Rattle.uz_core.specs.declared.machine.HeldStore.{HeldStore}
use Rattle.uz_core.specs.declared.machine.HeldStore.TheVariants.{Byte, Bit}
use Rattle.uz_core.specs.declared.machine.Edge.{Edge}
use Rattle.uz_core.specs.Arithmetic.{bit_value, with_bit}
use Rattle.uz_core.specs.Effects.{effect_of}
use Rattle.uz_core.specs.CoreRange.{IsByte, IsHeldStore, IsLoadModel}
use Rattle.uz_core.specs.Timer.{Timer, IsTimer, is_counting, count_after, timer_after, is_timer_address, timer_byte, timer_after_read}
use Rattle.uz_core.specs.Timer.{timer_after_write}
use Rattle.uz_core.specs.PadLine.{PadHistory, line_level, pad_lines}
use Rattle.uz_core.specs.Space.{Space, IsSpace, history_wiring, is_pin, takes_one_bit, plain_byte, byte_at, space_after, space_loads}
use Rattle.uz_core.specs.Space.{space_taken, after_byte, after_store, with_port_a, with_plain_byte}
use Rattle.uz_core.specs.Turn.{State, state_at_reset, history_at_reset, after_stores, entry_stores, instruction_result, IsEntryTurn}
use Rattle.uz_core.specs.Turn.{IsInstructionTurn, Turn}
use Rattle.uz_core.specs.Run.{Run, MachineTurn, TurnBefore, IsRunPart}
use Rattle.uz_core.specs.StateRange.{IsState}
use Rattle.uz_core.proofs.ByteLists as bytes
use Rattle.uz_core.proofs.CoreKept.{ResultFits, effect_result_fits, interrupted_core_fits, entry_stores_fit}
use Rattle.uz_core.proofs.EffectRanges.{effect_fits}

choose : {A : Type 0} → (P : A → Type 0) (b : Bool) (x y : A) → P x → P y → P (if b then x else y)
choose P true x y p q = p
choose P false x y p q = q

-- The timer

count_below : (count top clocks : ℕ) → count < 65536 → top < 65536 → count_after count top clocks < 65536
count_below count top clocks c t = grind (arith, nat_tests)

timer_kept : (clocks : ℕ) (t : Timer) → IsTimer t → IsTimer (timer_after clocks t)
timer_kept clocks t h =
    choose IsTimer (is_counting t) _ t
    (record {
      count = count_below t.count t.top clocks h.count h.top;
      top = h.top;
      temp = h.temp;
      interrupt_mask = h.interrupt_mask;
      control_a = h.control_a;
      control_b = h.control_b;
    })
    h

bit_below : (b : Bool) → bit_value b < 2
bit_below true = omega arith
bit_below false = omega arith

timer_byte_below : (t : Timer) (at : ℕ) → IsTimer t → IsByte (timer_byte t at)
timer_byte_below t at h =
    choose IsByte (nat_eq at 0x36) _ _ (omega (arith, bit_below t.matched))
    (choose IsByte (nat_eq at 0x6F) _ _ h.interrupt_mask
    (choose IsByte (nat_eq at 0x80) _ _ h.control_a
    (choose IsByte (nat_eq at 0x81) _ _ h.control_b
    (choose IsByte (nat_eq at 0x84) _ _ (omega arith)
    (choose IsByte (nat_eq at 0x85) _ _ h.temp
    (choose IsByte (nat_eq at 0x88) _ _ (omega arith) (omega (arith, h.top))))))))

read_kept : (at late : ℕ) (t : Timer) → IsTimer t → IsTimer (timer_after_read at late t)
read_kept at late t h =
    let later : IsTimer (timer_after late t) = timer_kept late t h in
    choose IsTimer (nat_eq at 0x84) _ t
    (record {
      count = h.count;
      top = h.top;
      temp = omega (arith, later.count);
      interrupt_mask = h.interrupt_mask;
      control_a = h.control_a;
      control_b = h.control_b;
    })
    h

write_kept : (at value : ℕ) (t : Timer) → IsByte value → IsTimer t → IsTimer (timer_after_write at value t)
write_kept at value t v h =
    choose IsTimer (nat_eq at 0x36) _ _
    (choose IsTimer _ _ t (record {
      count = h.count;
      top = h.top;
      temp = h.temp;
      interrupt_mask = h.interrupt_mask;
      control_a = h.control_a;
      control_b = h.control_b;
    }) h)
    (choose IsTimer (nat_eq at 0x6F) _ _ (record {
      count = h.count;
      top = h.top;
      temp = h.temp;
      interrupt_mask = v;
      control_a = h.control_a;
      control_b = h.control_b;
    })
    (choose IsTimer (nat_eq at 0x80) _ _ (record {
      count = h.count;
      top = h.top;
      temp = h.temp;
      interrupt_mask = h.interrupt_mask;
      control_a = v;
      control_b = h.control_b;
    })
    (choose IsTimer (nat_eq at 0x81) _ _ (record {
      count = h.count;
      top = h.top;
      temp = h.temp;
      interrupt_mask = h.interrupt_mask;
      control_a = h.control_a;
      control_b = v;
    })
    (choose IsTimer (nat_eq at 0x84) _ _ (record {
      count = omega (arith, h.temp);
      top = h.top;
      temp = h.temp;
      interrupt_mask =
          h.interrupt_mask;
      control_a = h.control_a;
      control_b = h.control_b;
    })
    (choose IsTimer (nat_eq at 0x88) _ _
    (record {
      count = h.count;
      top = omega (arith, h.temp);
      temp = h.temp;
      interrupt_mask = h.interrupt_mask;
      control_a = h.control_a;
      control_b = h.control_b;
    })
    (record {
      count = h.count;
      top = h.top;
      temp = v;
      interrupt_mask = h.interrupt_mask;
      control_a = h.control_a;
      control_b = h.control_b;
    }))))))

-- Readings

two_bits : (a b : Bool) → bit_value a + bit_value b * 2 < 4
two_bits a b = omega (arith, bit_below a, bit_below b)

pad_lines_below : (h : PadHistory) → pad_lines h < 4
pad_lines_below h = two_bits (line_level (map (λ pair. pair.0) h.pairs) h.levels) (line_level (map (λ pair. pair.1) h.pairs) h.levels)

pin_a_below : (port lines : ℕ) → IsByte port → lines < 4 → IsByte (port / 4 * 4 + lines)
pin_a_below port lines p l = omega arith

byte_below : (s : Space PadHistory) (at : ℕ) → IsSpace s → IsByte (byte_at history_wiring s at)
byte_below s at h =
    choose IsByte (nat_eq at 0x20) _ _ (pin_a_below (plain_byte s 0x22) (pad_lines s.pads) (bytes.byte_at s.bytes 0x22 h.bytes)
    (pad_lines_below s.pads))
    (choose IsByte (is_pin at) _ _ (bytes.byte_at s.bytes (at + 2) h.bytes)
    (choose IsByte (is_timer_address at) _ _ (timer_byte_below s.timer at h.timer)
    (choose IsByte (nat_lt 0x10FF at) _ _ (omega arith) (bytes.byte_at s.bytes at h.bytes))))

after_kept : (clocks : ℕ) (s : Space PadHistory) → IsSpace s → IsSpace (space_after clocks s)
after_kept clocks s h = record { size = h.size; bytes = h.bytes; timer = timer_kept clocks s.timer h.timer }

loads_fit : IsLoadModel (space_loads history_wiring) IsSpace
loads_fit = record {
  byte = λ s at late h. byte_below (space_after late s) at (after_kept late s h);
  content_after = λ s at late h. record { size = h.size; bytes = h.bytes; timer = read_kept at late s.timer h.timer };
}

taken_kept : (s : Space PadHistory) → IsSpace s → IsSpace (space_taken s)
taken_kept s h = record {
  size = h.size;
  bytes = h.bytes;
  timer = record {
    count = h.timer.count;
    top = h.timer.top;
    temp = h.timer.temp;
    interrupt_mask = h.timer.interrupt_mask;
    control_a = h.timer.control_a;
    control_b = h.timer.control_b;
  };
}

-- Writings

set_kept : (at value : ℕ) (s : Space PadHistory) → IsByte value → IsSpace s → IsSpace (with_plain_byte at value s)
set_kept at value s v h = record {
  size = length-set s.bytes at value ∙ h.size;
  bytes = bytes.bytes_set s.bytes at value v h.bytes;
  timer = h.timer;
}

port_a_kept : (value : ℕ) (s : Space PadHistory) → IsByte value → IsSpace s → IsSpace (with_port_a history_wiring value s)
port_a_kept value s v h = record {
  size = length-set s.bytes 0x22 value ∙ h.size;
  bytes = bytes.bytes_set s.bytes 0x22 value v h.bytes;
  timer = h.timer;
}

byte_kept : (at value : ℕ) (s : Space PadHistory) → IsByte value → IsSpace s → IsSpace (after_byte history_wiring at value s)
byte_kept at value s v h =
    choose IsSpace (nat_eq at 0x20) _ _ (port_a_kept _ s (xor_lt 8 (plain_byte s 0x22) value (bytes.byte_at s.bytes 0x22 h.bytes) v) h)
    (choose IsSpace (nat_eq at 0x22) _ _ (port_a_kept value s v h)
    (choose IsSpace (is_pin at) _ _ (set_kept (at + 2) _ s (xor_lt 8 (plain_byte s (at + 2)) value (bytes.byte_at s.bytes (at + 2) h.bytes)
    v) h)
    (choose IsSpace (is_timer_address at) _ _ (record { size = h.size; bytes = h.bytes; timer = write_kept at value s.timer v h.timer })
    (choose IsSpace (nat_lt 0x10FF at) s _ h (set_kept at value s v h)))))

with_bit_below : (k : ℕ) (b : Bool) (n : ℕ) → k < 8 → IsByte n → IsByte (with_bit k b n)
with_bit_below k true n h v = or_lt 8 n (2 ^ k) v (pow-lt h)
with_bit_below k false n h v = omega (arith, and_le_l n (255 - 2 ^ k))

store_kept : (store : HeldStore) (s : Space PadHistory) → IsHeldStore store → IsSpace s → IsSpace (after_store history_wiring store s)
store_kept (Byte at value) s c h = byte_kept at value s c.1 h
store_kept (Bit at b set) s c h =
    choose IsSpace (takes_one_bit at) _ _
    (choose IsSpace set _ s (byte_kept at (2 ^ b) s (pow-lt c.1) h) h)
    (byte_kept at _ s (with_bit_below b set (byte_at history_wiring s at) c.1 (byte_below s at h)) h)

stores_kept : (stores : List HeldStore) (s : Space PadHistory) → AllByRecursion IsHeldStore stores → IsSpace s
    → IsSpace (after_stores history_wiring stores s)
stores_kept [] s c h = h
stores_kept (store ∷ stores) s c h = stores_kept stores (after_store history_wiring store s) c.1 (store_kept store s c.0 h)

-- Turns

entry_kept : (s next : State PadHistory) (edges : List Edge) → IsEntryTurn history_wiring s edges next → IsState s → IsState next
entry_kept s next edges turn h =
    let space : IsSpace (after_stores history_wiring (entry_stores s) (space_after s.response (space_taken s.space))) =
    stores_kept (entry_stores s) _ (entry_stores_fit s.core h.core)
    (after_kept s.response (space_taken s.space) (taken_kept s.space h.space)) in
    subst IsState (sym turn.goes_to) (record {
      image = h.image;
      core = interrupted_core_fits s.core h.core;
      space = space;
      response = h.response;
    })

instruction_kept : (s next : State PadHistory) (edges : List Edge) → IsInstructionTurn history_wiring s edges next → IsState s
    → IsState next
instruction_kept s next edges turn h =
    let i = turn.row in
    let r : ResultFits IsSpace (instruction_result history_wiring i s) =
    effect_result_fits (space_loads history_wiring) IsSpace loads_fit s.image (effect_of i) (words_of i) (clocks_of i) s.core s.space
    (effect_fits i) h.image h.core h.space in
    let d = instruction_result history_wiring i s in
    let space : IsSpace (after_stores history_wiring d.stores (space_after d.clocks d.content)) = stores_kept d.stores _ r.stores
    (after_kept d.clocks d.content r.content) in
    subst IsState (sym turn.goes_to) (record { image = h.image; core = r.core; space = space; response = h.response })

pub state_kept : (s next : State PadHistory) (edges : List Edge) → Turn history_wiring s edges next → IsState s → IsState next
state_kept s next edges (inl turn) h = entry_kept s next edges turn h
state_kept s next edges (inr turn) h = instruction_kept s next edges turn h

-- Runs

-- what every turn keeps, every run keeps
pub kept_along : {S : Type 0} (turn : S → List Edge → S → Type 0) (P : S → Type 0)
    → ((s : S) (edges : List Edge) (next : S) → turn s edges next → P s → P next) →
    (n : ℕ) (s : S) (edges : List Edge) (last : S) → Run turn n s edges last → P s → P last
kept_along turn P kept zero s edges last run h = subst P (sym run.1) h
kept_along turn P kept (suc n) s edges last (first, mid, rest, now, run, cut) h = kept_along turn P kept n mid rest last run
    (kept s first mid now h)

pub run_kept : (n : ℕ) (s last : State PadHistory) (edges : List Edge) → Run MachineTurn n s edges last → IsState s → IsState last
run_kept n s last edges run h = kept_along MachineTurn IsState (λ s edges next turn h. state_kept s next edges turn h) n s edges last run h

pub run_part_kept : (limit : ℕ) (s last : State PadHistory) (edges : List Edge) → IsRunPart limit s edges last → IsState s → IsState last
run_part_kept limit s last edges part h =
    kept_along (TurnBefore limit) IsState (λ s edges next turn h. state_kept s next edges turn.1 h) part.turns s part.all_edges last
    part.run h

-- At reset

zeros_are_bytes : (n : ℕ) → AllByRecursion IsByte (replicate n 0)
zeros_are_bytes zero = tt
zeros_are_bytes (suc n) = (omega arith, zeros_are_bytes n)

pub reset_is_state : (image : FinMap nat_cmp ℕ) (pairs : List (ℕ × ℕ)) (response : ℕ) → IsFlash image → (response ≡ 4) ⊎ (response ≡ 5)
    → IsState (state_at_reset image (history_at_reset pairs) response)
reset_is_state image pairs response flash r = record {
  image = flash;
  core = record {
    count = length-replicate {A = ℕ} 32 0;
    registers = zeros_are_bytes 32;
    sreg = omega arith;
    sp = omega arith;
    pc = omega arith;
  };
  space = record {
    size = length-replicate {A = ℕ} 0x1100 0;
    bytes = zeros_are_bytes 0x1100;
    timer = record {
      count = omega arith;
      top = omega arith;
      temp = omega arith;
      interrupt_mask = omega arith;
      control_a = omega arith;
      control_b = omega arith;
    };
  };
  response = r;
}
