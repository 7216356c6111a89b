-- What an instruction makes of core, memory and what is seen, by class of effect.
use Rattle.uz_rules.proofs.Common.{flag_fails, mask_fails, may_store, is_single, Ends, depth_limit, ◌≡◌, ℕ, suc, ◌+◌, ◌<◌, ◌≤◌, Bool, true}
use Rattle.uz_rules.proofs.Common.{false, not, if◌then◌else◌, nat_eq, nat_lt, Option, Some, None, List, [], length, refl, ◌∙◌, subst, arith}
use Rattle.uz_rules.proofs.Common.{◌&&◌, ◌||◌, nat_tests, length-set, AddressMode, Direct, Store, HeldStore, bit_is_set, with_bit, Core}
use Rattle.uz_rules.proofs.Common.{with_pointer_after, IsCore, is_timer_address, PadWiring, Space, is_pin, after_byte, Val, Head, EventKind}
use Rattle.uz_rules.proofs.Common.{Instance, Fail, Mask, value_at, CoreMeets, MemoryMeets, HeadFits, is_main, is_handler, address_range}
use Rattle.uz_rules.proofs.Common.{with_pointer_range, depth_of, emission_at, refuse_if, is_setup_register, top_fails, io_fails, fail_of}
use Rattle.uz_rules.proofs.Common.{InstanceFits, bit_of_with_bit, not-false}
use Rattle.uz_rules.proofs.SpaceStores.{choose_if}
use Rattle.uz_rules.proofs.StoreClasses.{Leads, MayStore, SetsNothingElse, none_shows, room_left}

-- What is known before the instruction
pub record Before {P : Type 0} (head : Head) (inst : Instance) (o : Core) (d : ℕ) (core : Core) (s : Space P) : Type 0 where
  pub fits : HeadFits head
  pub few : d ≤ head.main
  pub limits : InstanceFits head inst
  pub is_core : IsCore core
  pub size : length s.bytes ≡ 4352
  pub enabled : bit_is_set core.sreg 7 ≡ is_main inst.kind
  pub meets : CoreMeets inst o core
  pub memory : MemoryMeets head inst o d core.sp s.bytes
  pub pc : core.pc ≡ inst.pc

-- and after it: the draft holds of the core, and of memory once the stores are made
pub record Parts {P : Type 0} (w : PadWiring P) (head : Head) (inst r : Instance) (o : Core) (d : ℕ) (core : Core) (calls : List HeldStore)
    (s : Space P) (emitted : Option EventKind) : Type 0 where
  pub core_meets : CoreMeets r o core
  pub enabled : bit_is_set core.sreg 7 ≡ is_main inst.kind
  pub leads : Leads w head r o d core.sp calls s emitted

-- where the kind may push n more bytes, so many addresses are free
pub room_for : {P : Type 0} (head : Head) (inst : Instance) (o : Core) (d : ℕ) (core : Core) (s : Space P) → Before head inst o d core s
    → (n : ℕ) → depth_of inst + n ≤ depth_limit head inst.kind → head.lo + n ≤ suc core.sp
room_for head inst o d core s b n few = room_left head inst.kind d core.sp (depth_of inst) n b.fits b.few b.memory.depth few

pub low_room : {P : Type 0} (head : Head) (inst : Instance) (o : Core) (d : ℕ) (core : Core) (s : Space P) → Before head inst o d core s
    → head.lo ≤ suc core.sp
low_room head inst o d core s b = omega (arith, room_for head inst o d core s b 0 (omega (arith, b.limits.depth)))

-- memory of another instance with the same stack and cells
pub memory_same : (head : Head) (a b : Instance) (o : Core) (d sp tp : ℕ) (xs ys : List ℕ) → a.kind ≡ b.kind → a.stack ≡ b.stack
    → a.cells ≡ b.cells → sp ≡ tp → xs ≡ ys → MemoryMeets head a o d sp xs → MemoryMeets head b o d tp ys
memory_same head a b o d sp tp xs ys k p c q e h = record {
  slots = λ i w. rw (← p, ← q, ← e) (h.slots i (rw p w));
  cells = λ at j i. rw (← c, ← e) (h.cells at j (rw k i));
  ranges = λ at r i. rw (← e) (h.ranges at r i);
  depth = rw (← q, ← p, ← k) h.depth;
}

-- no store, no push
pub quiet : {P : Type 0} (w : PadWiring P) (head : Head) (inst r : Instance) (o : Core) (d : ℕ) (old core : Core) (s t : Space P)
    → CoreMeets r o core → bit_is_set core.sreg 7 ≡ is_main inst.kind → MemoryMeets head inst o d old.sp s.bytes
    → inst.kind ≡ r.kind → inst.stack ≡ r.stack → inst.cells ≡ r.cells → old.sp ≡ core.sp → s.bytes ≡ t.bytes → Parts w head inst r o d core
    [] t None
quiet w head inst r o d old core s t h en m k p c q e = record {
  core_meets = h;
  enabled = en;
  leads = record { memory = memory_same head inst r o d old.sp core.sp s.bytes t.bytes k p c q e m; shows = none_shows w t };
}

-- Pointers leave all but registers and pairs

pub pointer_core : (mode : AddressMode) (at : ℕ) (core : Core)
    → ((with_pointer_after mode at core).sp ≡ core.sp) × ((with_pointer_after mode at core).sreg ≡ core.sreg)
pointer_core (Direct k) at core = (refl, refl)
pointer_core mode at core = (refl, refl)

pub pointer_rest : (mode : AddressMode) (old now : Instance) → (now.kind ≡ (with_pointer_range mode old now).kind)
    × (now.stack ≡ (with_pointer_range mode old now).stack) × (now.cells ≡ (with_pointer_range mode old now).cells)
pointer_rest (Direct k) old now = (refl, refl, refl)
pointer_rest mode old now = (refl, refl, refl)

-- I after it is written

-- a flag of SREG, which may be I where the kind has it clear
pub flag_enabled : (flag : ℕ) (set main : Bool) (sreg : ℕ) → flag < 8 → refuse_if (nat_eq flag 7 && (set || main)) Mask None ≡ None
    → bit_is_set sreg 7 ≡ main → bit_is_set (with_bit flag set sreg) 7 ≡ main
flag_enabled flag set main sreg h e enabled = by_case (nat_eq flag 7) set main refl e enabled
    (bit_of_with_bit flag 7 sreg set h (omega arith))
  where
    by_case : (t u m : Bool) → nat_eq flag 7 ≡ t → refuse_if (t && (u || m)) Mask None ≡ None → bit_is_set sreg 7 ≡ m
        → bit_is_set (with_bit flag u sreg) 7 ≡ (if nat_eq 7 flag then u else bit_is_set sreg 7) → bit_is_set (with_bit flag u sreg) 7 ≡ m
    by_case true true m p e en is = absurd cc
    by_case true false true p e en is = absurd cc
    by_case true false false p e en is = let q : nat_eq 7 flag ≡ true = grind (arith, nat_tests) in rw q at is
    by_case false u m p e en is = let q : nat_eq 7 flag ≡ false = grind (arith, nat_tests) in (rw q at is) ∙ en

-- Refusals that don't stand

pub unless_none : (b : Bool) (why : Fail) (later : Option Fail) → refuse_if b why later ≡ None → (b ≡ false) × (later ≡ None)
unless_none true why later e = absurd cc
unless_none false why later e = (refl, e)

pub single_fails : (t b : Bool) → (t && b) ≡ false → t ≡ true → b ≡ false
single_fails true b e q = e
single_fails false b e q = absurd cc

-- what a store's address tells that isn't refused as Io: a register that sets up the machine it is at OCR1A alone. A handler's store to
-- OCR1AL gives what is known, and others don't store there
pub record IoFine (inst : Instance) (at : ℕ) (v : Val) : Type 0 where
  pub setup : SetsNothingElse at
  pub low : nat_eq at 0x88 ≡ true → (is_handler inst.kind ≡ true) × (top_fails inst v ≡ false)

pub io_fine : (inst : Instance) (at : ℕ) (v : Val) → io_fails inst at v ≡ false → IoFine inst at v
io_fine inst at v e = by_case (nat_eq at 0x88) (nat_eq at 0x89) (is_handler inst.kind) refl refl refl e
  where
    by_case : (p q h : Bool) → nat_eq at 0x88 ≡ p → nat_eq at 0x89 ≡ q → is_handler inst.kind ≡ h
        → (if h && p then top_fails inst v else if h && q then false else is_setup_register at) ≡ false → IoFine inst at v
    by_case true q true low high handler e = record { setup = λ a b. absurd cc; low = λ t. (handler, e) }
    by_case true q false low high handler e =
        let i : at ≡ 0x88 = grind (arith, nat_tests) in
        let z : is_setup_register 0x88 ≡ false = subst (λ n. is_setup_register n ≡ false) i e in absurd cc
    by_case false true h low high handler e = record { setup = λ a b. absurd cc; low = λ t. absurd cc }
    by_case false false true low high handler e = record { setup = λ a b. e; low = λ t. absurd cc }
    by_case false false false low high handler e = record { setup = λ a b. e; low = λ t. absurd cc }

-- the refusals of a store that don't stand
pub record StoreFacts (head : Head) (inst : Instance) (a : Ends) (v : Val) : Type 0 where
  pub flag : (is_single a && flag_fails inst.kind a.lo v) ≡ false
  pub mask : (is_single a && mask_fails inst.kind a.lo v) ≡ false
  pub may : not (may_store head inst.kind a v) ≡ false
  pub io : (is_single a && io_fails inst a.lo v) ≡ false

pub facts_of : (head : Head) (inst : Instance) (to : AddressMode) (r : ℕ) → fail_of head (Store to r) inst ≡ None → StoreFacts head inst
    (address_range to inst) (value_at inst.regs r)
facts_of head inst to r fail =
    let one = unless_none _ _ _ fail in
    let two = unless_none _ _ _ one.1 in
    let three = unless_none _ _ _ two.1 in
    let four = unless_none _ _ _ three.1 in
    record { flag = one.0; mask = two.0; may = three.0; io = four.0 }

pub may_be_stored : (head : Head) (inst : Instance) (level : ℕ) (to : AddressMode) (r : ℕ) (emitted : Option EventKind)
    → fail_of head (Store to r) inst ≡ None → emission_at level (Store to r) inst ≡ Some emitted → MayStore head inst level
    (address_range to inst) (value_at inst.regs r) emitted
may_be_stored head inst level to r emitted e f =
    let facts = facts_of head inst to r e in
    record {
      mask = single_fails _ _ facts.mask;
      may = not-false _ facts.may;
      io = λ t. (io_fine inst (address_range to inst).lo (value_at inst.regs r) (single_fails _ _ facts.io t)).setup;
      emits = f;
    }

pub size_stored : {P : Type 0} (w : PadWiring P) (s : Space P) (at v : ℕ) → length (after_byte w at v s).bytes ≡ length s.bytes
size_stored {P} w s at v =
    let Same : Space P → Type 0 = λ t. length t.bytes ≡ length s.bytes in
    choose_if Same (nat_eq at 0x20) _ _ (λ t. length-set s.bytes 0x22 _)
    (λ t. choose_if Same (nat_eq at 0x22) _ _ (λ t. length-set s.bytes 0x22 _)
    (λ t. choose_if Same (is_pin at) _ _ (λ t. length-set s.bytes (at + 2) _)
    (λ t. choose_if Same (is_timer_address at) _ _ (λ t. refl)
    (λ t. choose_if Same (nat_lt 0x10FF at) _ _ (λ t. refl) (λ t. length-set s.bytes at v)))))
