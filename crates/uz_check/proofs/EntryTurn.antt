-- An interrupt's entry, where SP is in RAM.
use Rattle.uz_check.proofs.Common.{◌≡◌, ℕ, ◌+◌, ◌-◌, ◌/◌, ◌%◌, ◌≤◌, false, List, [], ◌∷◌, ◌++◌, refl, ◌∙◌, ap, arith, Byte, EdgeKind, Enter}
use Rattle.uz_check.proofs.Common.{with_bit, Core, timer_after, timer_taken, PadHistory, Space, history_wiring, with_plain_byte, after_byte}
use Rattle.uz_check.proofs.Common.{space_after, space_taken, State, after_stores, all_edge_kinds, edge_kinds, edges_at, entry_stores}
use Rattle.uz_check.proofs.Common.{after_entry, entry_edges, pushed}
use Rattle.uz_core.specs.Core.{interrupted_core}
use Rattle.uz_check.proofs.Ram.{off_core, ram_stored, ram_unseen}

abbrev pub entered_core : Core → Core
entered_core c = record { pc = 26; registers = c.registers; sreg = with_bit 7 false c.sreg; sp = c.sp - 2 }

abbrev pub entered_space : State PadHistory → Space PadHistory
entered_space s = record { bytes = pushed s; timer = timer_after s.response (timer_taken s.space.timer); pads = s.space.pads }

abbrev pub entered : State PadHistory → State PadHistory
entered s =
    record {
      image = s.image;
      core = entered_core s.core;
      space = entered_space s;
      response = s.response;
      is_owed = false;
      clock = s.clock + s.response;
    }

pub core_is : (c : Core) → 257 ≤ c.sp → c.sp ≤ 4351 → interrupted_core c ≡ entered_core c
core_is c low high =
    let one : (c.sp + 65535) % 65536 ≡ c.sp - 1 = omega arith in
    let two : (c.sp + 65534) % 65536 ≡ c.sp - 2 = omega arith in
    rw (one, two, off_core c.sp (omega arith), off_core (c.sp - 1) (omega arith)) refl

calls_are : (s : State PadHistory) → 257 ≤ s.core.sp → s.core.sp ≤ 4351 → entry_stores s ≡ Byte s.core.sp (s.core.pc % 256) ∷ Byte
    (s.core.sp - 1) (s.core.pc / 256) ∷ []
calls_are s low high =
    let one : (s.core.sp + 65535) % 65536 ≡ s.core.sp - 1 = omega arith in
    rw (one, off_core s.core.sp (omega arith), off_core (s.core.sp - 1) (omega arith)) refl

-- two stores in RAM
two_stored : (space : Space PadHistory) (a v b u : ℕ) → 256 ≤ a → a ≤ 4351 → 256 ≤ b → b ≤ 4351 → after_stores history_wiring
    (Byte a v ∷ Byte b u ∷ []) space ≡ with_plain_byte b u (with_plain_byte a v space)
two_stored space a v b u al ah bl bh =
    ap (λ x. after_byte history_wiring b u x) (ram_stored history_wiring space a v al ah) ∙ ram_stored history_wiring
    (with_plain_byte a v space) b u bl bh

two_unseen : (space : Space PadHistory) (a v b u : ℕ) → 256 ≤ a → a ≤ 4351 → 256 ≤ b → b ≤ 4351 → all_edge_kinds history_wiring
    (Byte a v ∷ Byte b u ∷ []) space ≡ []
two_unseen space a v b u al ah bl bh =
    let first = ram_stored history_wiring space a v al ah in
    let second = ram_stored history_wiring (with_plain_byte a v space) b u bl bh in
    let kinds : List EdgeKind = edge_kinds (Byte a v) space (with_plain_byte a v space) in
    ap (λ x. edge_kinds (Byte a v) space x ++ (edge_kinds (Byte b u) x (after_byte history_wiring b u x) ++ [])) first
    ∙ (ap (λ x. x ++ (edge_kinds (Byte b u) (with_plain_byte a v space) (after_byte history_wiring b u (with_plain_byte a v space)) ++ []))
    (ram_unseen space a v al)
    ∙ (ap (λ x. edge_kinds (Byte b u) (with_plain_byte a v space) x ++ []) second
    ∙ ap (λ x. x ++ []) (ram_unseen (with_plain_byte a v space) b u bl)))

pub entry_is : (s : State PadHistory) → 257 ≤ s.core.sp → s.core.sp ≤ 4351 → after_entry history_wiring s ≡ entered s
entry_is s low high =
    let space = space_after s.response (space_taken s.space) in
    let calls = ap (λ calls. after_stores history_wiring calls space) (calls_are s low high) in
    let stored = two_stored space s.core.sp (s.core.pc % 256) (s.core.sp - 1) (s.core.pc / 256) (omega arith) high (omega arith)
    (omega arith) in
    let core = core_is s.core low high in
    λ i. record {
      image = s.image;
      core = core i;
      space = (calls ∙ stored) i;
      response = s.response;
      is_owed = false;
      clock = s.clock + s.response;
    }

pub entry_seen : (s : State PadHistory) → 257 ≤ s.core.sp → s.core.sp ≤ 4351 → entry_edges history_wiring s ≡ record {
  clock = s.clock;
  kind = Enter s.space.timer.count;
} ∷ []
entry_seen s low high =
    let space = space_after s.response (space_taken s.space) in
    let unseen = two_unseen space s.core.sp (s.core.pc % 256) (s.core.sp - 1) (s.core.pc / 256) (omega arith) high (omega arith)
    (omega arith) in
    ap (λ kinds. record { clock = s.clock; kind = Enter s.space.timer.count } ∷ edges_at (s.clock + s.response) kinds)
    (ap (λ calls. all_edge_kinds history_wiring calls space) (calls_are s low high) ∙ unseen)
