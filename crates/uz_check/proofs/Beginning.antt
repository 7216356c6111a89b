-- A state that meets the entry condition has the invariant.
use Rattle.uz_check.proofs.Common.{◌≡◌, inl, inr, ℕ, zero, suc, ◌+◌, ◌-◌, ◌*◌, ◌<◌, Bool, List, [], ◌∷◌, length, map, refl, sym, ◌∙◌, ap}
use Rattle.uz_check.proofs.Common.{subst, arith, unwrap_or, slice_index, nat_cmp, FinMap, length-map, Ends, Bit, Zero, One, Free, OldBit}
use Rattle.uz_check.proofs.Common.{Kind, Main, Handler, Alone, Cert, bit_is_set, Core, register, pair, PadHistory, State, sync_level}
use Rattle.uz_check.proofs.Common.{IsState, IsWithin, value_at, pair_at, ValueHolds, FlagHolds, CoreMeets, HeaderHolds, depth_below}
use Rattle.uz_check.proofs.Common.{is_main, depth_of, TimerMeets, TimerCounts, LevelMeets, entry_instance, tracked, IsIn, EntryBit, AllHold}
use Rattle.uz_check.proofs.Common.{ends_at, Begins, EntryCondition, Certified, RunsAlone, RunsMain, Invariant, at_same, level_here}
use Rattle.uz_schedule.specs.declared.facts.Val.TheVariants.{Range}
use Rattle.uz_schedule.specs.Ends.{hull}
use Rattle.uz_transfer.specs.Values.{byte_hull}
use Rattle.uz_rules.specs.MemoryMeets.{MemoryMeets}
use Rattle.uz_check.proofs.Fits.{SpansFit}
use Rattle.uz_check.proofs.Premises.{Premises}
use Rattle.uz_check.specs.Invariant.{BeginsWithIt}
use Rattle.uz_check.proofs.Fitting.{is_placed}
use Rattle.uz_check.proofs.Cells.{main_or_handler, cells_by_place, in_own_range, head_holds}
use Rattle.uz_check.proofs.BoxesCovered.{place_tells, lands}
use Rattle.uz_check.proofs.Forth.{level_of_instance}
use Rattle.uz_check.proofs.Headline.{kept_of}

val_ranges : (xs : List Ends) (i : ℕ) → value_at (map Range xs) i ≡ Range (ends_at xs i)
val_ranges [] i = refl
val_ranges (x ∷ xs) zero = refl
val_ranges (x ∷ xs) (suc i) = val_ranges xs i

val_in : (xs : List Ends) (i : ℕ) (o : Core) (v : ℕ) → IsIn (ends_at xs i) v → ValueHolds (value_at (map Range xs) i) o v
val_in xs i o v h = subst (λ x. ValueHolds x o v) (sym (val_ranges xs i)) (record { above = h.0; below = h.1 })

-- two bytes lie in the hull of their ranges
pair_holds : (a b : Ends) (v u : ℕ) → IsIn a v → IsIn b u → IsWithin (v + 256 * u) (hull a b)
pair_holds a b v u h g = record { above = omega (arith, h.0, g.0); below = omega (arith, h.1, g.1) }

hull_is : (xs : List Ends) (r : ℕ) → hull (ends_at xs r) (ends_at xs (r + 1)) ≡ byte_hull (map Range xs) r
hull_is xs r = rw (val_ranges xs r, val_ranges xs (r + 1)) refl

pair_in : (xs : List Ends) (core : Core) → ((r : ℕ) → r < 32 → IsIn (ends_at xs r) (register core r)) → (r : ℕ) → r + 1 < 32
    → IsWithin (pair core r) (byte_hull (map Range xs) r)
pair_in xs core h r few = subst (λ w. IsWithin (pair core r) w) (hull_is xs r) (pair_holds (ends_at xs r) (ends_at xs (r + 1))
    (register core r) (register core (r + 1)) (h r (omega (arith, few))) (h (r + 1) few))

pairs_hold : (cert : Cert) (core : Core) → ((r : ℕ) → r < 32 → IsIn (ends_at cert.entry.regs r) (register core r)) → (i : ℕ) → i < 3
    → IsWithin (pair core (26 + 2 * i)) (pair_at (entry_instance cert).pairs i)
pairs_hold cert core h zero b = pair_in cert.entry.regs core h 26 (omega arith)
pairs_hold cert core h (suc zero) b = pair_in cert.entry.regs core h 28 (omega arith)
pairs_hold cert core h (suc (suc zero)) b = pair_in cert.entry.regs core h 30 (omega arith)
pairs_hold cert core h (suc (suc (suc i))) b = absurd (omega (arith, b))

-- a flag that is known, beside itself
flag_holds : (b : Bit) (v : Bool) → EntryBit b v → FlagHolds b v v
flag_holds Zero v h = h
flag_holds One v h = h
flag_holds Free v h = tt
flag_holds OldBit v h = refl

entry_core : (cert : Cert) (s : State PadHistory) (p : ℕ) → EntryCondition cert s p → CoreMeets (entry_instance cert) s.core s.core
entry_core cert s p h = record {
  regs = λ r b. val_in cert.entry.regs r s.core (register s.core r) (h.registers r b);
  pairs = pairs_hold cert s.core h.registers;
  flags = λ k b. flag_holds _ (bit_is_set s.core.sreg k) (h.flags k b);
}

entry_memory : (cert : Cert) (s : State PadHistory) (p : ℕ) (kind : Kind) → EntryCondition cert s p → cert.entry.kind ≡ kind
    → depth_below kind 0 ≡ 0 → SpansFit (tracked cert.head cert.entry.kind) cert.entry.cells.items → HeaderHolds cert.head s.space.bytes
    → MemoryMeets cert.head (entry_instance cert) s.core 0 s.core.sp s.space.bytes
entry_memory cert s p kind h of_kind none fit ranges =
    let slots = length-map cert.entry.stack.items (λ e. Range e) in
    record {
      slots = λ i b.
          let within : i < length cert.entry.stack.items = omega (arith, slots, b) in
          let place : s.core.sp + length cert.entry.stack.items - i ≡ s.core.sp + depth_of (entry_instance cert) - i =
          ap (λ n. s.core.sp + n - i) (sym slots) in
          val_in cert.entry.stack.items i s.core (slice_index s.space.bytes (s.core.sp + depth_of (entry_instance cert) - i))
          (subst (λ a. IsIn (ends_at cert.entry.stack.items i) (slice_index s.space.bytes a)) place (h.stack i within));
      cells = cells_by_place cert.head cert.entry.kind cert.entry.cells.items s.space.bytes fit h.cells;
      ranges = ranges;
      depth = omega (arith, slots, h.sp, ap (λ k. depth_below k 0) of_kind ∙ none);
    }

entry_level : (kind : Kind) (sync level : ℕ) → sync ≡ level → LevelMeets kind level sync
entry_level Main sync level e = tt
entry_level kind sync level e = e

begins : (image : FinMap nat_cmp ℕ) (cert : Cert) (s : State PadHistory) (p : ℕ) → Premises image cert → IsState s → s.image ≡ image
    → EntryCondition cert s p → (kind : Kind) → cert.entry.kind ≡ kind → Begins kind cert s p → Invariant image cert p s
begins image cert s p h is_state flash entry Main kind start =
    let e = entry_instance cert in
    let own : AllHold (tracked cert.head Main) cert.entry.cells.items s.space.bytes =
    subst (λ k. AllHold (tracked cert.head k) cert.entry.cells.items s.space.bytes) kind entry.cells in
    let own_fit = subst (λ k. SpansFit (tracked cert.head k) cert.entry.cells.items) kind h.limits.entry_cells in
    let rest_fit = (h.limits.rests start.rest start.is_rest).cells in
    let ranges = head_holds cert.head s.space.bytes (λ c has.
    elim (main_or_handler c.owner) [
      | inl mains ↦ in_own_range cert.head Main cert.entry.cells.items s.space.bytes own_fit own c has mains
      | inr handlers ↦ in_own_range cert.head Handler start.rest.cells.items s.space.bytes rest_fit start.cells c has handlers
    ]) in
    let to = lands h.laws.inside cert Main s.core 0 e s is_state is_state.core kind (record {
      pc = entry.pc;
      enabled = start.interrupts ∙ sym (ap is_main kind);
      core = entry_core cert s p entry;
      compared = tt;
      memory = entry_memory cert s p Main entry kind refl h.limits.entry_cells ranges;
      timer = subst (λ k. TimerMeets k e s.space.timer) (sym kind) tt;
      ticks = subst (λ k. TimerCounts k s.space.timer) (sym kind) (start.timer.counting, start.timer.enabled);
      level = subst (λ k. LevelMeets k e.level (sync_level s.space)) (sym kind) tt;
      response = entry.response;
    }) h.entry (inl refl) in
    record {
      is_state = is_state;
      flash = flash;
      level = entry.level;
      running = RunsMain h.entry.inst s.core start.rest;
      runs = record {
        stands = to;
        rests = record {
          is_rest = start.is_rest;
          cells = cells_by_place cert.head Handler start.rest.cells.items s.space.bytes rest_fit start.cells;
          top = start.timer.top;
          phase = inl (record { place = start.place; rested = start.rested; within = start.within; clear = start.timer.clear });
        };
      };
    }
begins image cert s p h is_state flash entry Handler kind start = absurd start
begins image cert s p h is_state flash entry Alone kind start =
    let e = entry_instance cert in
    let b = h.entry.inst in
    let place = place_tells e b h.entry.inside in
    let all : AllHold (tracked cert.head Alone) cert.entry.cells.items s.space.bytes =
    subst (λ k. AllHold (tracked cert.head k) cert.entry.cells.items s.space.bytes) kind entry.cells in
    let fit = subst (λ k. SpansFit (tracked cert.head k) cert.entry.cells.items) kind h.limits.entry_cells in
    let ranges = head_holds cert.head s.space.bytes (λ c has. in_own_range cert.head Alone cert.entry.cells.items s.space.bytes fit all c
    has refl) in
    let there = at_same cert.schedule p cert.entry.line b.line cert.entry.clock b.clock place.line place.clock start.place in
    let sync = level_of_instance cert p (sync_level s.space) b (is_placed cert h.limits h.entry.id h.entry.l h.entry.c b h.entry.is)
    entry.level there in
    let old_level : sync_level s.space ≡ e.level = ap (λ v. unwrap_or v 0) (sym entry.level ∙ level_here cert.schedule p cert.entry.line
    cert.entry.clock start.place) in
    let to = lands h.laws.inside cert Alone s.core 0 e s is_state is_state.core kind (record {
      pc = entry.pc;
      enabled = start.interrupts ∙ sym (ap is_main kind);
      core = entry_core cert s p entry;
      compared = tt;
      memory = entry_memory cert s p Alone entry kind refl h.limits.entry_cells ranges;
      timer = subst (λ k. TimerMeets k e s.space.timer) (sym kind) tt;
      ticks = subst (λ k. TimerCounts k s.space.timer) (sym kind) tt;
      level = entry_level e.kind (sync_level s.space) e.level old_level;
      response = entry.response;
    }) h.entry (inr sync) in
    record {
      is_state = is_state;
      flash = flash;
      level = entry.level;
      running = RunsAlone b s.core;
      runs = record { stands = to; place = there };
    }

pub begins_with : (image : FinMap nat_cmp ℕ) (cert : Cert) → Premises image cert → BeginsWithIt image cert
begins_with image cert h s p is_state flash entry = begins image cert s p h is_state flash entry cert.entry.kind refl entry.begins

pub certified_of : (image : FinMap nat_cmp ℕ) (cert : Cert) → Premises image cert → Certified image cert
certified_of image cert h s p is_state flash entry T = kept_of image cert h s p (begins_with image cert h s p is_state flash entry) T
