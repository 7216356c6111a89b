-- The classes of effect that store: ST and OUT, PUSH, the pushes of a call, SBI and CBI.
use Rattle.uz_rules.proofs.Common.{or_parts, ◌≡◌, ◌≢◌, ◌⊎◌, inl, inr, ℕ, suc, ◌+◌, ◌-◌, ◌/◌, ◌%◌, ◌<◌, ◌≤◌, Bool, true, false}
use Rattle.uz_rules.proofs.Common.{if◌then◌else◌, nat_eq, nat_lt, nat_le, Option, Some, None, List, [], ◌∷◌, ◌++◌, fold, filter, length}
use Rattle.uz_rules.proofs.Common.{refl, sym, ◌∙◌, ap, subst, append_assoc, arith, ◌&&◌, ◌||◌, AllByRecursion, eqb_tells, nat_tests}
use Rattle.uz_rules.proofs.Common.{append-nil, bit_at_above, bit_at, HeldStore, Byte, BitCall, EdgeKind, bit_is_set, Core, is_core_address}
use Rattle.uz_rules.proofs.Common.{with_store, leaves_core, IsCore, PadWiring, Space, after_byte, after_store, sync_level, edge_kinds}
use Rattle.uz_rules.proofs.Common.{after_stores, all_edge_kinds, Ends, Kind, Main, Bit, Zero, One, Val, Range, Old, OldFlags, Head}
use Rattle.uz_rules.proofs.Common.{EventKind, Instance, ends, is_single, IsWithin, Admits, only, bst_answer, bst_covers, span_of}
use Rattle.uz_rules.proofs.Common.{with_flag_list, known_byte, ValueHolds, CoreMeets, cell_place, cell_range, misses, depth_limit, is_main}
use Rattle.uz_rules.proofs.Common.{depth_below, MemoryMeets, HeadFits, flags_from, with_cell, with_stored, stored_in, with_slots, pc_values}
use Rattle.uz_rules.proofs.Common.{byte_event, bit_event, level_after, is_setup_register, stored_bit, flag_is, cell_admits, may_store}
use Rattle.uz_rules.proofs.Common.{mask_fails, event_of, IsNoEntry, and_parts, or_cases, not-false, not-true, filter_map-append}
use Rattle.uz_rules.proofs.CoreKeeps.{in_span}
use Rattle.uz_rules.proofs.MemoryKeeps.{tracked_has_range, missed, stored_meets, kept_meets, push_meets}
use Rattle.uz_rules.proofs.SpaceStores.{byte_wrote, bit_kept}
use Rattle.uz_rules.proofs.StoreShows.{Shows, byte_shows, bit_shows}
use Rattle.uz_rules.proofs.CoreSteps.{stored_flags}
use Rattle.uz_rules.proofs.LoadClasses.{ram_not_core}

-- A list of stores

-- no store
pub none_shows : {P : Type 0} (w : PadWiring P) (s : Space P) → Shows (all_edge_kinds w [] s) (sync_level s)
    (sync_level (after_stores w [] s)) None
none_shows w s = record { events = refl; level = refl; calm = tt }

one_shows : (kinds : List EdgeKind) (old new : ℕ) (emitted : Option EventKind) → Shows kinds old new emitted → Shows (kinds ++ []) old new
    emitted
one_shows kinds old new emitted h = rw (append-nil kinds) h

calm_append : (a b : List EdgeKind) → AllByRecursion IsNoEntry a → AllByRecursion IsNoEntry b → AllByRecursion IsNoEntry (a ++ b)
calm_append [] b p q = q
calm_append (k ∷ a) b p q = (p.0, calm_append a b p.1 q)

then_shows : (a b : List EdgeKind) (x y z : ℕ) (emitted : Option EventKind) → Shows a x y None → Shows b y z emitted → Shows (a ++ b) x z
    emitted
then_shows a b x y z emitted p q = record {
  events = filter_map-append event_of a b ∙ rw p.events q.events;
  level = q.level ∙ ap (level_after emitted) p.level;
  calm = calm_append a b p.calm q.calm;
}

-- what shows nothing shows nothing at any level
pub silent_byte : (level at : ℕ) (v : Val) → (nat_eq at 0x23 || (nat_eq at 0x25 || (nat_eq at 0x26 || (nat_eq at 0x28 || nat_eq at 0xB3))))
    ≡ false → byte_event level v at ≡ Some None
silent_byte level at v e =
    let a = or_parts (nat_eq at 0x23) _ e in
    let b = or_parts (nat_eq at 0x25) _ a.1 in
    let c = or_parts (nat_eq at 0x26) _ b.1 in
    let d = or_parts (nat_eq at 0x28) _ c.1 in
    rw (a.0, b.0, c.0, d.0, d.1) refl

ram_event : (level at : ℕ) (v : Val) → 256 ≤ at → byte_event level v at ≡ Some None
ram_event level at v h = silent_byte level at v (grind (arith, nat_tests))

ram_shows : {P : Type 0} (w : PadWiring P) (s : Space P) (at v : ℕ) → length s.bytes ≡ 4352 → 256 ≤ at → v < 256
    → Shows (edge_kinds (Byte at v) s (after_byte w at v s)) (sync_level s) (sync_level (after_byte w at v s)) None
ram_shows w s at v size low b = byte_shows w s at v (sync_level s) (Range (ends 0 255)) None size refl
    (record { above = omega arith; below = omega arith }) (ram_event (sync_level s) at (Range (ends 0 255)) low)

-- Room on the stack

-- where the kind may push n more bytes, so many addresses are free
pub room_left : (head : Head) (kind : Kind) (d sp depth n : ℕ) → HeadFits head → d ≤ head.main → sp + depth + depth_below kind d ≡ head.hi
    → depth + n ≤ depth_limit head kind → head.lo + n ≤ suc sp
room_left head Main d sp depth n fits h e few = omega (arith, fits.room)
room_left head kind d sp depth n fits h e few = omega (arith, fits.room)

-- PUSH

pub push_core : (core : Core) (sp v : ℕ) → 256 ≤ sp → fold with_store core (Byte sp v ∷ []) ≡ core
push_core core sp v h = rw (ram_not_core sp h) refl

pub push_calls : (sp v : ℕ) → 256 ≤ sp → filter leaves_core (Byte sp v ∷ []) ≡ (Byte sp v ∷ [])
push_calls sp v h = rw (ram_not_core sp h) refl

-- what stores lead to, of memory and events
pub record Leads {P : Type 0} (w : PadWiring P) (head : Head) (r : Instance) (o : Core) (d sp : ℕ) (calls : List HeldStore) (s : Space P)
    (emitted : Option EventKind) : Type 0 where
  pub memory : MemoryMeets head r o d sp (after_stores w calls s).bytes
  pub shows : Shows (all_edge_kinds w calls s) (sync_level s) (sync_level (after_stores w calls s)) emitted

pub push_leads : {P : Type 0} (w : PadWiring P) (head : Head) (inst : Instance) (o : Core) (d sp v : ℕ) (x : Val) (s : Space P)
    → HeadFits head → length s.bytes ≡ 4352 → MemoryMeets head inst o d sp s.bytes → head.lo ≤ sp → v < 256 → ValueHolds x o v
    → Leads w head (with_slots (inst.stack.items ++ x ∷ []) inst) o d (sp - 1) (Byte sp v ∷ []) s None
push_leads w head inst o d sp v x s fits size m low b hx = record {
  memory = push_meets head inst o d sp (sp - 1) v x s.bytes (after_byte w sp v s).bytes fits m low (omega (arith, fits.low))
      (byte_wrote w s sp v size) hx;
  shows = one_shows _ _ _ None (ram_shows w s sp v size (omega (arith, fits.low)) b);
}

-- a call
pub call_leads : {P : Type 0} (w : PadWiring P) (head : Head) (inst : Instance) (o : Core) (d sp pc : ℕ) (s : Space P) → HeadFits head
    → length s.bytes ≡ 4352 → length (after_byte w sp (pc % 256) s).bytes ≡ 4352 → MemoryMeets head inst o d sp s.bytes → head.lo + 1 ≤ sp
    → pc < 65536
    → Leads w head (with_slots (inst.stack.items ++ pc_values pc) inst) o d (sp - 2) (Byte sp (pc % 256) ∷ Byte (sp - 1) (pc / 256) ∷ []) s
    None
call_leads w head inst o d sp pc s fits size again m low b =
    let one = push_leads w head inst o d sp (pc % 256) (known_byte (pc % 256)) s fits size m (omega arith) (omega arith)
    (record { above = omega arith; below = omega arith }) in
    let two = push_leads w head (with_slots (inst.stack.items ++ known_byte (pc % 256) ∷ []) inst) o d (sp - 1) (pc / 256)
    (known_byte (pc / 256)) (after_byte w sp (pc % 256) s) fits again one.memory (omega arith) (omega arith)
    (record { above = omega arith; below = omega arith }) in
    let below : sp - 1 - 1 ≡ sp - 2 = omega arith in
    let slots : (inst.stack.items ++ known_byte (pc % 256) ∷ []) ++ known_byte (pc / 256) ∷ [] ≡ inst.stack.items ++ pc_values pc =
    rw append_assoc refl in
    record {
      memory = subst (λ xs. MemoryMeets head (with_slots xs inst) o d (sp - 2)
          (after_stores w (Byte sp (pc % 256) ∷ Byte (sp - 1) (pc / 256) ∷ []) s).bytes) slots
          (subst (λ n. MemoryMeets head (with_slots ((inst.stack.items ++ known_byte (pc % 256) ∷ []) ++ known_byte (pc / 256) ∷ []) inst) o
          d n (after_stores w (Byte sp (pc % 256) ∷ Byte (sp - 1) (pc / 256) ∷ []) s).bytes) below two.memory);
      shows = then_shows _ _ (sync_level s) (sync_level (after_byte w sp (pc % 256) s)) _ None
          (ram_shows w s sp (pc % 256) size (omega (arith, fits.low)) (omega arith)) two.shows;
    }

-- SBI and CBI

pub bit_leads : {P : Type 0} (w : PadWiring P) (head : Head) (inst : Instance) (o : Core) (d sp at b : ℕ) (set : Bool) (s : Space P)
    (emitted : Option EventKind) → HeadFits head → length s.bytes ≡ 4352 → MemoryMeets head inst o d sp s.bytes → head.lo ≤ suc sp → at < 64
    → b < 8
    → bit_event (sync_level s) b set at ≡ Some emitted → Leads w head inst o d sp (BitCall at b set ∷ []) s emitted
bit_leads w head inst o d sp at b set s emitted fits size m low ha hb e = record {
  memory = kept_meets head inst o d sp s.bytes (after_store w (BitCall at b set) s).bytes fits m low (λ a h. bit_kept w s at b a set ha h);
  shows = one_shows _ _ _ emitted (bit_shows w s at b (sync_level s) set emitted size ha hb refl e);
}

-- ST, STD, STS, OUT: at an address, before the pointer takes its new value

-- an address that is OCR1A's, or no register's that sets up the machine
abbrev pub SetsNothingElse : ℕ → Type 0
SetsNothingElse at = nat_eq at 0x88 ≡ false → nat_eq at 0x89 ≡ false → is_setup_register at ≡ false

-- the facts of a store that isn't refused
pub record MayStore (head : Head) (inst : Instance) (level : ℕ) (a : Ends) (v : Val) (emitted : Option EventKind) : Type 0 where
  pub mask : is_single a ≡ true → mask_fails inst.kind a.lo v ≡ false
  pub may : may_store head inst.kind a v ≡ true
  pub io : is_single a ≡ true → SetsNothingElse a.lo
  pub emits : (if is_single a then byte_event level v a.lo else Some None) ≡ Some emitted

-- the core and what is held for the data space, after a store at an address
pub record Stored {P : Type 0} (w : PadWiring P) (head : Head) (inst r : Instance) (o : Core) (d at v : ℕ) (core : Core) (s : Space P)
    (emitted : Option EventKind) : Type 0 where
  pub meets : CoreMeets r o (fold with_store core (Byte at v ∷ []))
  pub enabled : bit_is_set (fold with_store core (Byte at v ∷ [])).sreg 7 ≡ is_main inst.kind
  pub is_core : IsCore (fold with_store core (Byte at v ∷ []))
  pub sp : (fold with_store core (Byte at v ∷ [])).sp ≡ core.sp
  pub leads : Leads w head r o d core.sp (filter leaves_core (Byte at v ∷ [])) s emitted

cell_core : (place : Option ℕ) (e : Ends) (inst : Instance) (o core : Core) → CoreMeets inst o core → CoreMeets (with_cell place e inst) o
    core
cell_core (Some j) e inst o core h = record { regs = h.regs; pairs = h.pairs; flags = h.flags }
cell_core None e inst o core h = h

-- bit 7 of a value that is stored to SREG is the kind's I

top_by : (b : Bit) (t main : Bool) → Admits b (Some t) → flag_is b main ≡ true → t ≡ main
top_by Zero t main a q = let z : t ≡ false = cc in z ∙ sym (not-true main q)
top_by One t main a q = let z : t ≡ true = cc in z ∙ sym q
top_by b t main a q = absurd cc

stored_top : (v : Val) (o : Core) (x : ℕ) (main : Bool) → ValueHolds v o x → flag_is (stored_bit v 7) main ≡ true → bit_is_set x 7 ≡ main
stored_top (Range e) o x main h q = top_by (bst_answer e 7) (bit_is_set x 7) main (bst_covers e 7 x h) q
stored_top (Old r) o x main h q = absurd cc
stored_top OldFlags o x true h q = absurd cc
stored_top OldFlags o x false h q =
    let z : bit_at (o.sreg % 128) 7 ≡ 0 = bit_at_above (o.sreg % 128) 7 7 (omega arith) (omega arith) in
    let y : bit_at x 7 ≡ 0 = ap (λ n. bit_at n 7) h ∙ z in
    rw y refl

pub not_core : (at : ℕ) → 0x20 ≤ at → SetsNothingElse at → nat_eq at 0x5F ≡ false → is_core_address at ≡ false
not_core at low io sreg =
    elim (eqb_tells at 0x5D) [
      | inl t ↦ let z : is_setup_register 0x5D ≡ false = subst SetsNothingElse t.1 io refl refl in absurd cc
      | inr t ↦
          elim (eqb_tells at 0x5E) [
            | inl u ↦ let z : is_setup_register 0x5E ≡ false = subst SetsNothingElse u.1 io refl refl in absurd cc
            | inr u ↦ let p = t.1 in let q = u.1 in let v : at ≢ 0x5F = (λ e. grind (arith, nat_tests)) in grind (arith, nat_tests)
          ]
    ]

pub record Taken (head : Head) (kind : Kind) (at : ℕ) (v : Ends) : Type 0 where
  pub place : ℕ
  pub placed : cell_place head kind at ≡ Some place
  pub range : Ends
  pub is : cell_range head at ≡ Some range
  pub low : range.lo ≤ v.lo
  pub high : v.hi ≤ range.hi

pub cell_taken : (head : Head) (kind : Kind) (at : ℕ) (v : Ends) → cell_admits (cell_place head kind at) (cell_range head at) v ≡ true
    → Taken head kind at v
cell_taken head kind at v e = by_case (cell_place head kind at) (cell_range head at) refl refl e
  where
    by_case : (place : Option ℕ) (range : Option Ends) → cell_place head kind at ≡ place → cell_range head at ≡ range → cell_admits place
        range v ≡ true → Taken head kind at v
    by_case (Some j) (Some r) q p e =
        let both = and_parts (nat_le r.lo v.lo) (nat_le v.hi r.hi) e in
        let first = both.0 in
        let second = both.1 in
        record { place = j; placed = q; range = r; is = p; low = grind (arith, nat_tests); high = grind (arith, nat_tests) }
    by_case place range q p e = absurd cc

none_is : (emitted : Option EventKind) → Some None ≡ Some emitted → emitted ≡ None
none_is emitted e = cc

-- where a range of RAM is allowed
pub record FreeRam (head : Head) (a : Ends) : Type 0 where
  pub low : 256 ≤ a.lo
  pub off : (a.hi < head.lo) ⊎ (head.hi < a.lo)
  pub none : misses head.cells.items a ≡ true

pub free_by : (head : Head) (a : Ends) → ((nat_le 0x100 a.lo && nat_le a.hi 0x10FF) && ((nat_lt a.hi head.lo || nat_lt head.hi a.lo)
    && misses head.cells.items a)) ≡ true → FreeRam head a
free_by head a e =
    let both = and_parts (nat_le 0x100 a.lo && nat_le a.hi 0x10FF) _ e in
    let ram = and_parts (nat_le 0x100 a.lo) (nat_le a.hi 0x10FF) both.0 in
    let off = and_parts (nat_lt a.hi head.lo || nat_lt head.hi a.lo) (misses head.cells.items a) both.1 in
    let first = ram.0 in
    record {
      low = grind (arith, nat_tests);
      off = elim (or_cases (nat_lt a.hi head.lo) (nat_lt head.hi a.lo) off.0) [
        | inl t ↦ inl (grind (arith, nat_tests))
        | inr t ↦ inr
            (grind (arith, nat_tests))
      ];
      none = off.1;
    }

-- A store of a byte at an address
module _ {P : Type 0} (w : PadWiring P) (head : Head) (inst : Instance) (o : Core) (d at v : ℕ) (core : Core) (s : Space P)
    (fits : HeadFits head) (size : length s.bytes ≡ 4352) (c : IsCore core) (h : CoreMeets inst o core)
    (enabled : bit_is_set core.sreg 7 ≡ is_main inst.kind) (m : MemoryMeets head inst o d core.sp s.bytes) (low : head.lo ≤ suc core.sp)
    (b : v < 256) where
  -- to SREG
  sreg_stored : (val : Val) → ValueHolds val o v → mask_fails inst.kind 0x5F val ≡ false
      → Stored w head inst (with_flag_list (flags_from val) inst) o d 0x5F v core s None
  sreg_stored val hv mask = record {
    meets = record { regs = h.regs; pairs = h.pairs; flags = stored_flags val o v hv };
    enabled = stored_top val o v (is_main inst.kind) hv (not-false _ mask);
    is_core = record { count = c.count; registers = c.registers; sreg = b; sp = c.sp; pc = c.pc };
    sp = refl;
    leads = record { memory = record { slots = m.slots; cells = m.cells; ranges = m.ranges; depth = m.depth }; shows = none_shows w s };
  }

  -- to the data space, off the stack
  space_stored : (e : Ends) (emitted : Option EventKind) (place : Option ℕ) → is_core_address at ≡ false
      → (at < head.lo) ⊎ (head.hi < at) → ((r : Ends) → cell_range head at ≡ Some r → IsWithin v r) → IsWithin v e
      → cell_place head inst.kind at ≡ place
      → Shows (edge_kinds (Byte at v) s (after_byte w at v s)) (sync_level s) (sync_level (after_byte w at v s)) emitted
      → Stored w head inst (with_cell place e inst) o d at v core s emitted
  space_stored e emitted place outside off takes within is shows =
      let same : fold with_store core (Byte at v ∷ []) ≡ core = rw outside refl in
      let calls : filter leaves_core (Byte at v ∷ []) ≡ (Byte at v ∷ []) = rw outside refl in
      record {
        meets = rw same (cell_core place e inst o core h);
        enabled = rw same enabled;
        is_core = rw same c;
        sp = ap (λ k. k.sp) same;
        leads = rw calls (record {
          memory = stored_meets head inst o d core.sp at v e s.bytes (after_byte w at v s).bytes fits m low (byte_wrote w s at v size) b
              off takes within place is;
          shows = one_shows _ _ _ emitted shows;
        });
      }

  pub store_stored : (a : Ends) (val : Val) (emitted : Option EventKind) → ValueHolds val o v → IsWithin at a
      → MayStore head inst (sync_level s) a val emitted → Stored w head inst (stored_in head a val inst) o d at v core s emitted
  store_stored a val emitted hv within may = by_single (is_single a) refl may.mask may.io may.may may.emits
    where
      span : IsWithin v (span_of val)
      span = in_span val o v b hv

      shows : byte_event (sync_level s) val at ≡ Some emitted → Shows (edge_kinds (Byte at v) s (after_byte w at v s)) (sync_level s)
          (sync_level (after_byte w at v s)) emitted
      shows e = byte_shows w s at v (sync_level s) val emitted size refl span e

      free : FreeRam head a → byte_event (sync_level s) val at ≡ Some emitted → (place : Option ℕ) → cell_place head inst.kind at ≡ place
          → Stored w head inst (with_cell place (span_of val) inst) o d at v core s emitted
      free f e place is =
          space_stored (span_of val) emitted place (ram_not_core at (omega (arith, f.low, within.above)))
          (elim f.off [ inl t ↦ inl (omega (arith, t, within.below)) | inr t ↦ inr (omega (arith, t, within.above)) ])
          (λ r p. elim (missed head.cells.items a r at f.none p) [
            | inl t ↦ absurd (omega (arith, t, within.above))
            | inr t ↦ absurd
                (omega (arith, t, within.below))
          ]) span is (shows e)

      untracked : FreeRam head a → (place : Option ℕ) → cell_place head inst.kind at ≡ place → place ≡ None
      untracked f None is = refl
      untracked f (Some j) is =
          let r = tracked_has_range head inst.kind at j is in
          elim (missed head.cells.items a r.range at f.none r.is) [
            | inl t ↦ absurd (omega (arith, t, within.above))
            | inr t ↦ absurd
                (omega (arith, t, within.below))
          ]

      -- a single address other than SREG's
      at_one : is_single a ≡ true → a.lo ≡ at → nat_eq at 0x5F ≡ false → SetsNothingElse at → may_store head inst.kind a val ≡ true
          → byte_event (sync_level s) val at ≡ Some emitted
          → Stored w head inst (with_cell (cell_place head inst.kind at) (span_of val) inst) o d at v core s emitted
      at_one one i sreg io may e =
          elim (or_cases (is_single a && (nat_le 0x20 a.lo && nat_le a.lo 0xFF)) _ may) [
            | inl t ↦
                let both = and_parts (nat_le 0x20 a.lo) (nat_le a.lo 0xFF) (and_parts (is_single a) _ t).1 in
                let first = both.0 in
                let second = both.1 in
                let above : 0x20 ≤ at = grind (arith, nat_tests) in
                let below : at ≤ 0xFF = grind (arith, nat_tests) in
                space_stored (span_of val) emitted (cell_place head inst.kind at)
                (not_core at above io sreg) (inl (omega (arith, below, fits.low)))
                (λ r p. absurd (omega (arith, below, (fits.cells_ram at r p).0))) span refl (shows e)
            | inr t ↦
                elim (or_cases (is_single a && cell_admits (cell_place head inst.kind a.lo) (cell_range head a.lo) (span_of val)) _ t) [
                  | inl u ↦
                      let k = subst (λ n. cell_admits (cell_place head inst.kind n) (cell_range head n) (span_of val) ≡ true) i
                      (and_parts (is_single a) _ u).1 in
                      let taken = cell_taken head inst.kind at (span_of val) k in
                      space_stored (span_of val) emitted (cell_place head inst.kind at)
                      (ram_not_core at (fits.cells_ram at taken.range taken.is).0) (fits.cells_off at taken.range taken.is)
                      (λ r p. let same : taken.range ≡ r = (let q = taken.is in cc) in subst (λ x. IsWithin v x) same
                      (record { above = omega (arith, taken.low, span.above); below = omega (arith, taken.high, span.below) })) span refl
                      (shows e)
                  | inr u ↦ free (free_by head a u) e (cell_place head inst.kind at) refl
                ]
          ]

      at_sreg : (t : Bool) → is_single a ≡ true → a.lo ≡ at → nat_eq at 0x5F ≡ t → mask_fails inst.kind at val ≡ false → SetsNothingElse at
          → may_store head inst.kind a val ≡ true → byte_event (sync_level s) val at ≡ Some emitted
          → Stored w head inst (if t then with_flag_list (flags_from val) inst else with_cell (cell_place head inst.kind at) (span_of val)
          inst) o d at v core s emitted
      at_sreg true one i is mask io may e =
          let j : at ≡ 0x5F = grind (arith, nat_tests) in
          let n : emitted ≡ None = none_is emitted (subst (λ x. byte_event (sync_level s) val x ≡ Some emitted) j e) in
          rw n (subst (λ x. Stored w head inst (with_flag_list (flags_from val) inst) o d x v core s None) (sym j)
          (sreg_stored val hv (subst (λ x. mask_fails inst.kind x val ≡ false) j mask)))
      at_sreg false one i is mask io may e = at_one one i is io may e

      by_single : (t : Bool) → is_single a ≡ t → (is_single a ≡ true → mask_fails inst.kind a.lo val ≡ false)
          → (is_single a ≡ true → SetsNothingElse a.lo) → may_store head inst.kind a val ≡ true
          → (if is_single a then byte_event (sync_level s) val a.lo else Some None) ≡ Some emitted → Stored w head inst
          (if t then with_stored head a.lo val inst else inst) o d at v core s emitted
      by_single true one mask io may e =
          let i = only a at one within in
          let e' : byte_event (sync_level s) val at ≡ Some emitted = subst (λ n. byte_event (sync_level s) val n ≡ Some emitted) i
          (rw one at e) in
          subst (λ n. Stored w head inst (with_stored head n val inst) o d at v core s emitted) (sym i)
          (at_sreg (nat_eq at 0x5F) one i refl (subst (λ n. mask_fails inst.kind n val ≡ false) i (mask one))
          (subst SetsNothingElse i (io one)) may e')
      by_single false many mask io may e =
          let f = free_by head a (rw many at may) in
          let n : emitted ≡ None = none_is emitted (rw many at e) in
          let event = ram_event (sync_level s) at val (omega (arith, f.low, within.above)) in
          let u = untracked f (cell_place head inst.kind at) refl in
          free f (event ∙ ap (λ x. Some x) (sym n)) None u
