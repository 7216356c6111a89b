-- Each sync edge of a run brings another level than the one before it.
use Rattle.uz_check.proofs.Common.{cond_both, eqb-true, ◌≡◌, ◌≢◌, inl, inr, ℕ, zero, suc, ◌+◌, ◌%◌, ◌<◌, Bool, true, false, not, cond, List}
use Rattle.uz_check.proofs.Common.{[], ◌∷◌, ◌++◌, append_assoc, refl, sym, ◌∙◌, ap, subst, arith, ⊤, ◌==◌, ◌&&◌, ◌||◌, slice_index}
use Rattle.uz_check.proofs.Common.{nat_tests, reverse-append, HeldStore, Edge, EdgeKind, Enter, clocks_of, content_after_loads}
use Rattle.uz_check.proofs.Common.{is_core_address, load_addresses, sample_clock, effect_of, PadHistory, Space, PadWiring, after_store}
use Rattle.uz_check.proofs.Common.{history_wiring, is_store, plain_byte, space_after, space_loads, space_taken, State, Turn, address_of}
use Rattle.uz_check.proofs.Common.{after_stores, all_edge_kinds, edge_kinds, edges_at, entry_edges, entry_stores, instruction_edges}
use Rattle.uz_check.proofs.Common.{instruction_result, sync_level, Run, TurnBefore, is_high, newest_first, Pixel, Sound, Leave}
use Rattle.std.proofs.Common.{append-nil}
use Rattle.uz_core.specs.declared.machine.EdgeKind.TheVariants.{Sync}
use Rattle.uz_core.specs.Addresses.{PORTB, PINC, PORTC, OCR2A}

-- Histories, newest first

abbrev pub IsChange : EdgeKind → Bool → Type 0
IsChange (Sync value) high = not (value == 0) ≢ high
IsChange (Pixel value) high = ⊤
IsChange (Sound value) high = ⊤
IsChange (Enter count) high = ⊤
IsChange Leave high = ⊤

abbrev pub Changes : List Edge → Type 0
Changes [] = ⊤
Changes (e ∷ before) = IsChange e.kind (is_high before) × Changes before

pub changes_rest : (later before : List Edge) → Changes (later ++ before) → Changes before
changes_rest [] before c = c
changes_rest (e ∷ later) before c = changes_rest later before c.1

-- edges in the order of time, after a history
abbrev added : List Edge → List Edge → List Edge
added [] before = before
added (e ∷ later) before = added later (e ∷ before)

added_is : (edges before : List Edge) → added edges before ≡ newest_first edges ++ before
added_is [] before = refl
added_is (e ∷ later) before =
    added_is later (e ∷ before)
    ∙ (sym (append_assoc (newest_first later) (e ∷ []) before) ∙ ap (λ x. x ++ before) (sym (reverse-append (e ∷ []) later)))

added_both : (a b before : List Edge) → added (a ++ b) before ≡ added b (added a before)
added_both [] b before = refl
added_both (e ∷ a) b before = added_both a b (e ∷ before)

-- What a machine's level has to do with it

abbrev high_of : {P : Type 0} → Space P → Bool
high_of space = not (sync_level space == 0)

abbrev Tells : {P : Type 0} → List Edge → Space P → Type 0
Tells before space = Changes before × (is_high before ≡ high_of space)

unlike : (a b : ℕ) → a < 2 → b < 2 → (a == b) ≡ false → not (b == 0) ≡ not (a == 0) → ⊥
unlike a b p q e f = grind (arith, nat_tests)

-- One store

abbrev store_kinds : Bool → Bool → Bool → ℕ → ℕ → ℕ → List EdgeKind
store_kinds same pixel sound level value tone = cond same [] (Sync level ∷ []) ++ cond pixel (Pixel value ∷ []) []
    ++ cond sound (Sound tone ∷ []) []

store_tells : (same pixel sound : Bool) (level value tone clock : ℕ) (before : List Edge)
    → (same ≡ true → is_high before ≡ not (level == 0)) → (same ≡ false → not (level == 0) ≢ is_high before) → Changes before →
    Changes (added (edges_at clock (store_kinds same pixel sound level value tone)) before)
    × (is_high (added (edges_at clock (store_kinds same pixel sound level value tone)) before) ≡ not (level == 0))
store_tells true true true level value tone clock before keeps brings c = ((tt, (tt, c)), keeps refl)
store_tells true true false level value tone clock before keeps brings c = ((tt, c), keeps refl)
store_tells true false true level value tone clock before keeps brings c = ((tt, c), keeps refl)
store_tells true false false level value tone clock before keeps brings c = (c, keeps refl)
store_tells false true true level value tone clock before keeps brings c = ((tt, (tt, (brings refl, c))), refl)
store_tells false true false level value tone clock before keeps brings c = ((tt, (brings refl, c)), refl)
store_tells false false true level value tone clock before keeps brings c = ((tt, (brings refl, c)), refl)
store_tells false false false level value tone clock before keeps brings c = ((brings refl, c), refl)

store_step : {P : Type 0} (store : HeldStore) (old new : Space P) (clock : ℕ) (before : List Edge) → Tells before old
    → Tells (added (edges_at clock (edge_kinds store old new)) before) new
store_step {P} store old new clock before h =
    let low : sync_level old < 2 = omega arith in
    let next : sync_level new < 2 = omega arith in
    store_tells (sync_level old == sync_level new) (is_store store && (address_of store == PORTC || address_of store == PINC))
    (is_store store && address_of store == OCR2A)
    (sync_level new) (plain_byte new PORTC) (plain_byte new OCR2A) clock before
    (λ e. h.1 ∙ ap (λ n. not (n == 0)) (eqb-true (sync_level old) (sync_level new) e))
    (λ e f. unlike (sync_level old) (sync_level new) low next e (f ∙ h.1)) h.0

-- Stores in order

joined : (clock : ℕ) (a b : List EdgeKind) (before : List Edge) → added (edges_at clock (a ++ b)) before ≡ added (edges_at clock b)
    (added (edges_at clock a) before)
joined clock [] b before = refl
joined clock (kind ∷ a) b before = joined clock a b (record { clock = clock; kind = kind } ∷ before)

stores_step : {P : Type 0} (wiring : PadWiring P) (stores : List HeldStore) (space : Space P) (clock : ℕ) (before : List Edge)
    → Tells before space → Tells (added (edges_at clock (all_edge_kinds wiring stores space)) before) (after_stores wiring stores space)
stores_step {P} wiring [] space clock before h = h
stores_step {P} wiring (store ∷ stores) space clock before h =
    let next = after_store wiring store space in
    let first = store_step store space next clock before h in
    let more = stores_step wiring stores next clock (added (edges_at clock (edge_kinds store space next)) before) first in
    subst (λ es. Tells es (after_stores wiring stores next))
    (sym (joined clock (edge_kinds store space next) (all_edge_kinds wiring stores next) before)) more

leave_step : {P : Type 0} (returned : Bool) (space : Space P) (clock : ℕ) (before : List Edge) → Tells before space
    → Tells (added (edges_at clock (cond returned (Leave ∷ []) [])) before) space
leave_step {P} true space clock before h = ((tt, h.0), h.1)
leave_step {P} false space clock before h = h

-- loads change no byte
loads_keep : {P : Type 0} (wiring : PadWiring P) (late : ℕ) (space : Space P) (addresses : List ℕ)
    → (content_after_loads (space_loads wiring) late space addresses).bytes ≡ space.bytes
loads_keep {P} wiring late space [] = refl
loads_keep {P} wiring late space (at ∷ addresses) =
    cond_both (is_core_address at) _ _ (λ (s : Space P). s.bytes ≡ space.bytes) (λ _. loads_keep wiring late space addresses)
    (λ _. loads_keep wiring late ((space_loads wiring).content_after space at late) addresses)

-- Turns and runs

turn_step : (s next : State PadHistory) (edges before : List Edge) → Turn history_wiring s edges next → Tells before s.space
    → Tells (added edges before) next.space
turn_step s next edges before (inl enter) h =
    let space = space_after s.response (space_taken s.space) in
    let noted : Edge = record { clock = s.clock; kind = Enter s.space.timer.count } in
    let there = stores_step history_wiring (entry_stores s) space (s.clock + s.response) (noted ∷ before) ((tt, h.0), h.1) in
    subst (λ es. Tells (added es before) next.space) (sym enter.emits)
    (subst (λ (n : State PadHistory). Tells (added (entry_edges history_wiring s) before) n.space) (sym enter.goes_to) there)
turn_step s next edges before (inr run) h =
    let d = instruction_result history_wiring run.row s in
    let space = space_after d.clocks d.content in
    let same : d.content.bytes ≡ s.space.bytes = loads_keep history_wiring (sample_clock (effect_of run.row) (clocks_of run.row)) s.space
    (load_addresses (effect_of run.row) s.core) in
    let quiet : Tells before space = (h.0, h.1 ∙ ap (λ bytes. not (slice_index bytes PORTB % 2 == 0)) (sym same)) in
    let stored = stores_step history_wiring d.stores space (s.clock + d.clocks) before quiet in
    let left = leave_step d.returned (after_stores history_wiring d.stores space) (s.clock + d.clocks) _ stored in
    let there = subst (λ es. Tells es (after_stores history_wiring d.stores space))
    (sym (joined (s.clock + d.clocks) (all_edge_kinds history_wiring d.stores space) (cond d.returned (Leave ∷ []) []) before)) left in
    subst (λ es. Tells (added es before) next.space) (sym run.emits)
    (subst (λ (n : State PadHistory). Tells (added (instruction_edges history_wiring run.row s) before) n.space) (sym run.goes_to)
    there)

run_step : (limit n : ℕ) (s last : State PadHistory) (edges before : List Edge) → Run (TurnBefore limit) n s edges last
    → Tells before s.space → Tells (added edges before) last.space
run_step limit zero s last edges before run h =
    subst (λ es. Tells (added es before) last.space) (sym run.0) (subst (λ (x : State PadHistory). Tells before x.space) (sym run.1) h)
run_step limit (suc n) s last edges before (first, mid, rest, turn, run, cut) h =
    let one = turn_step s mid first before turn.1 h in
    let more = run_step limit n mid last rest (added first before) run one in
    subst (λ es. Tells es last.space) (sym (ap (λ x. added x before) cut ∙ added_both first rest before)) more

-- from a state whose sync is low
pub run_changes : (limit n : ℕ) (s last : State PadHistory) (edges : List Edge) → Run (TurnBefore limit) n s edges last
    → sync_level s.space ≡ 0 → Changes (newest_first edges)
run_changes limit n s last edges run low =
    let all = run_step limit n s last edges [] run (tt, sym (ap (λ n. not (n == 0)) low)) in
    subst Changes (added_is edges [] ∙ append-nil (newest_first edges)) all.0
