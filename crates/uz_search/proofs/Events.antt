-- What an instruction emits: a return a leave, and nothing else one; and a sync event turns the level.
use Rattle.uz_search.proofs.Common.{◌≡◌, ℕ, zero, suc, ◌≤◌, ◌+◌, ◌-◌, Option, Some, None, Bool, true, false, not, ◌&&◌, ◌||◌, nat_eq, refl}
use Rattle.uz_search.proofs.Common.{arith, if◌then◌else◌, ⊤, Bit, Zero, One, Free, OldBit, Val, Head, Kind, Main, Handler, Alone, EventKind}
use Rattle.uz_search.proofs.Common.{Sync, Pixel, Sound, Leave, Instance, returns_from_interrupt, Effect, NoOperation, Store, WriteIoBit}
use Rattle.uz_search.proofs.Common.{is_single, bst_answer, emission_at, level_after, is_handler, address_range, fail_of, bit_of_bool}
use Rattle.uz_search.proofs.Common.{span_of, value_at}
use Rattle.uz_core.specs.declared.machine.Effect.TheVariants.{Return}
use Rattle.uz_transfer.specs.Emission.{level_event, toggle_event, byte_event, bit_event}
use Rattle.uz_transfer.specs.declared.fail.Fail.TheVariants.{Return as ReturnWhy}
use Rattle.uz_search.proofs.Lists.{choose}

-- a store's event: sync to the other level, a pixel or a sound
abbrev pub Turns : ℕ → Option (Option EventKind) → Type 0
Turns level None = ⊤
Turns level (Some None) = ⊤
Turns level (Some (Some (Sync v))) = level + v ≡ 1
Turns level (Some (Some Pixel)) = ⊤
Turns level (Some (Some Sound)) = ⊤
Turns level (Some (Some Leave)) = ⊥

level_turns : (level : ℕ) (b : Bit) → level ≤ 1 → Turns level (level_event level b)
level_turns zero Zero le = tt
level_turns (suc zero) Zero le = refl
level_turns (suc (suc n)) Zero le = absurd (omega arith)
level_turns zero One le = refl
level_turns (suc zero) One le = tt
level_turns (suc (suc n)) One le = absurd (omega arith)
level_turns level Free le = tt
level_turns level OldBit le = tt

toggle_turns : (level : ℕ) (b : Bit) → level ≤ 1 → Turns level (toggle_event level b)
toggle_turns level Zero le = tt
toggle_turns level One le = omega arith
toggle_turns level Free le = tt
toggle_turns level OldBit le = tt

byte_turns : (level : ℕ) (v : Val) (at : ℕ) → level ≤ 1 → Turns level (byte_event level v at)
byte_turns level v at le =
    choose (Turns level) (nat_eq at 0x23) _ _ (toggle_turns level (bst_answer (span_of v) 0) le)
    (choose (Turns level) (nat_eq at 0x25) _ _ (level_turns level (bst_answer (span_of v) 0) le)
    (choose (Turns level) (nat_eq at 0x26 || nat_eq at 0x28) (Some (Some Pixel)) _ tt
    (choose (Turns level) (nat_eq at 0xB3) (Some (Some Sound)) (Some None) tt tt)))

bit_turns : (level b : ℕ) (set : Bool) (at : ℕ) → level ≤ 1 → Turns level (bit_event level b set at)
bit_turns level b set at le =
    choose (Turns level) (nat_eq at 0x23) _ _ (choose (Turns level) (nat_eq b 0 && set) (Some (Some (Sync (1 - level)))) (Some None)
    (omega arith) tt)
    (choose (Turns level) (nat_eq at 0x25) _ _ (choose (Turns level) (nat_eq b 0) _ (Some None) (level_turns level (bit_of_bool set) le) tt)
    (choose (Turns level) (nat_eq at 0x26) _ _ (choose (Turns level) set (Some (Some Pixel)) (Some None) tt tt)
    (choose (Turns level) (nat_eq at 0x28) (Some (Some Pixel)) (Some None) tt tt)))

-- of any instruction: a return leaves
abbrev pub Emits : ℕ → Bool → Option (Option EventKind) → Type 0
Emits level true event = event ≡ Some (Some Leave)
Emits level false event = Turns level event

pub emits : (level : ℕ) (e : Effect) (x : Instance) → level ≤ 1 → Emits level (returns_from_interrupt e) (emission_at level e x)
emits level (Store to r) x le = choose (Turns level) (is_single (address_range to x)) _ (Some None)
    (byte_turns level (value_at x.regs r) (address_range to x).lo le) tt
emits level (WriteIoBit at b set) x le = bit_turns level b set at le
emits level (Return true) x le = refl
emits level (Return false) x le = tt
emits level NoOperation x le = tt
emits level e x le = tt

-- a return is the handler's
pub back_handler : (head : Head) (e : Effect) (x : Instance) → fail_of head e x ≡ None → returns_from_interrupt e ≡ true → x.kind ≡ Handler
back_handler head (Return true) x f b = by_kind x.kind f
  where
    by_kind : (k : Kind) → (if not (is_handler k) then Some ReturnWhy else None) ≡ None → k ≡ Handler
    by_kind Handler h = refl
    by_kind Main h = cc
    by_kind Alone h = cc
back_handler head (Return false) x f b = cc
back_handler head NoOperation x f b = cc
back_handler head e x f b = cc

-- The level after an event

pub level_turned : (level : ℕ) (event : Option EventKind) → level ≤ 1 → Turns level (Some event) → level_after event level ≤ 1
level_turned level None le t = le
level_turned level (Some (Sync v)) le t = omega (arith, t)
level_turned level (Some Pixel) le t = le
level_turned level (Some Sound) le t = le
level_turned level (Some Leave) le t = le
