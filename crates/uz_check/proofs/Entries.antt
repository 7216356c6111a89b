-- An instruction emits no entry, and one that isn't RETI no leave.
use Rattle.uz_check.proofs.Common.{◌≡◌, All, ℕ, ◌+◌, Bool, true, false, cond, eqb, List, [], ◌∷◌, ◌++◌, sym, subst, arith, ◌&&◌, ◌||◌}
use Rattle.uz_check.proofs.Common.{All-nil, All-cons, All-append, All-tail, Instr, HeldStore, EdgeKind, PadHistory, Space, history_wiring}
use Rattle.uz_check.proofs.Common.{plain_byte, after_store, is_store, space_after, State, sync_level, address_of, edge_kinds}
use Rattle.uz_check.proofs.Common.{all_edge_kinds, edges_at, instruction_edges, instruction_result, effect_of, returns_from_interrupt}
use Rattle.uz_check.proofs.Common.{InTime, IsPlain, Pixel, Sound, Leave}
use Rattle.uz_core.specs.declared.machine.EdgeKind.TheVariants.{Sync}

abbrev one : EdgeKind → List EdgeKind
one kind = kind ∷ []

maybe : (P : EdgeKind → Type 0) (b : Bool) (kind : EdgeKind) → P kind → All P (cond b (one kind) [])
maybe P true kind h = All-cons P kind [] h (All-nil P)
maybe P false kind h = All-nil P

maybe_not : (P : EdgeKind → Type 0) (b : Bool) (kind : EdgeKind) → P kind → All P (cond b [] (one kind))
maybe_not P true kind h = All-nil P
maybe_not P false kind h = All-cons P kind [] h (All-nil P)

-- what holds of what stores show
record OfStores (P : EdgeKind → Type 0) : Type 0 where
  sync : (v : ℕ) → P (Sync v)
  pixel : (v : ℕ) → P (Pixel v)
  sound : (v : ℕ) → P (Sound v)

of_store : (P : EdgeKind → Type 0) → OfStores P → (call : HeldStore) (old new : Space PadHistory) → All P (edge_kinds call old new)
of_store P h call old new =
    let level = eqb (sync_level old) (sync_level new) in
    let port_c = is_store call && (eqb (address_of call) 0x28 || eqb (address_of call) 0x26) in
    let ocr2a = is_store call && eqb (address_of call) 0xB3 in
    let sync = Sync (sync_level new) in
    let pixel = Pixel (plain_byte new 0x28) in
    let sound = Sound (plain_byte new 0xB3) in
    All-append P (cond level [] (one sync) ++ cond port_c (one pixel) []) (cond ocr2a (one sound) [])
    (All-append P (cond level [] (one sync)) (cond port_c (one pixel) []) (maybe_not P level sync (h.sync (sync_level new)))
    (maybe P port_c pixel (h.pixel (plain_byte new 0x28))))
    (maybe P ocr2a sound (h.sound (plain_byte new 0xB3)))

of_stores : (P : EdgeKind → Type 0) → OfStores P → (calls : List HeldStore) (space : Space PadHistory)
    → All P (all_edge_kinds history_wiring calls space)
of_stores P h [] space = All-nil P
of_stores P h (call ∷ calls) space =
    All-append P (edge_kinds call space (after_store history_wiring call space))
    (all_edge_kinds history_wiring calls (after_store history_wiring call space))
    (of_store P h call space (after_store history_wiring call space)) (of_stores P h calls (after_store history_wiring call space))

at_clock : (P : EdgeKind → Type 0) (clock : ℕ) (kinds : List EdgeKind) → All P kinds → All (λ e. P e.kind) (edges_at clock kinds)
at_clock P clock [] h = All-nil (λ e. P e.kind)
at_clock P clock (kind ∷ kinds) h =
    All-cons (λ e. P e.kind) (record { clock = clock; kind = kind }) (edges_at clock kinds) (h 0 kind (omega arith))
    (at_clock P clock kinds (All-tail P kind kinds h))

pub no_entry : (row : Instr) (s : State PadHistory) → All (λ e. InTime e.kind) (instruction_edges history_wiring row s)
no_entry row s =
    let d = instruction_result history_wiring row s in
    let kinds = all_edge_kinds history_wiring d.stores (space_after d.clocks d.content) in
    at_clock InTime (s.clock + d.clocks) (kinds ++ cond d.returned (one Leave) [])
    (All-append InTime kinds (cond d.returned (one Leave) [])
    (of_stores InTime (record { sync = λ v. tt; pixel = λ v. tt; sound = λ v. tt }) d.stores (space_after d.clocks d.content))
    (maybe InTime d.returned Leave tt))

-- a row that isn't RETI emits no leave either
pub no_marks : (row : Instr) (s : State PadHistory) → returns_from_interrupt (effect_of row) ≡ false → All (λ e. IsPlain e.kind)
    (instruction_edges history_wiring row s)
no_marks row s other =
    let d = instruction_result history_wiring row s in
    let kinds = all_edge_kinds history_wiring d.stores (space_after d.clocks d.content) in
    let none : All IsPlain (cond d.returned (one Leave) []) = subst (λ b. All IsPlain (cond b (one Leave) [])) (sym other)
    (All-nil IsPlain) in
    at_clock IsPlain (s.clock + d.clocks) (kinds ++ cond d.returned (one Leave) [])
    (All-append IsPlain kinds (cond d.returned (one Leave) [])
    (of_stores IsPlain (record { sync = λ v. tt; pixel = λ v. tt; sound = λ v. tt }) d.stores (space_after d.clocks d.content)) none)
