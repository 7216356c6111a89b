-- A turn looks at the pads' lines before its stores alone: pads whose lines are the same at its start, and that go on alike, have the same turn.
use Rattle.std.proofs.Common.{◌≡◌, ℕ, ◌+◌, ◌*◌, ◌^◌, Bool, true, false, if◌then◌else◌, not, ◌&&◌, ◌||◌, List, [], ◌∷◌, ◌++◌, slice_index, slice_set}
use Rattle.std.specs.Prelude.{◌/◌}
use Rattle.std.proofs.Common.{nat_eq, nat_lt, bit_xor, refl, sym, ◌∙◌, ap, subst, inl, inr}
use Rattle.uz_core.specs.declared.machine.HeldStore.{HeldStore}
use Rattle.uz_core.specs.declared.machine.HeldStore.TheVariants.{Byte, Bit}
use Rattle.uz_core.specs.Arithmetic.{bit_is_set, with_bit}
use Rattle.uz_core.specs.Timer.{Timer, timer_after, is_timer_address, timer_after_read, timer_after_write, timer_byte, timer_at_reset, is_due}
use Rattle.uz_core.specs.Space.{Space, PadWiring, is_pin, takes_one_bit, byte_at, space_loads, after_store, after_byte, space_after}
use Rattle.uz_core.specs.Space.{space_taken}
use Rattle.uz_core.specs.declared.machine.Edge.{Edge}
use Rattle.uz_core.specs.declared.machine.EdgeKind.{EdgeKind}
use Rattle.uz_core.specs.declared.machine.EdgeKind.TheVariants.{Enter, Leave}
use Rattle.uz_core.specs.Turn.{State, edge_kinds, after_stores, all_edge_kinds, edges_at, entry_stores, IsEntryTurn, IsInstructionTurn}
use Rattle.uz_core.specs.Turn.{Turn, instruction_result}
use Rattle.avr_table.specs.Rows.{words_of, clocks_of}
use Rattle.uz_core.specs.Effects.{effect_of}
use Rattle.uz_core.specs.Core.{Core}
use Rattle.uz_core.proofs.LoadModels.{LoadAlike, ResultAlike, same_effect_result}
use Rattle.uz_core.proofs.Wirings.{SpaceAlike, TurnAlike, after_alike, taken_alike, with_space}

-- pads that stand for pads go on alike
abbrev pub GoesAlike : {P Q : Type 0} (w : PadWiring P) (v : PadWiring Q) (R : P → Q → Type 0) → Type 0
GoesAlike {P = P} {Q = Q} w v R = (n : ℕ) (p : P) (q : Q) → R p q → R (w.with_level n p) (v.with_level n q)

-- pads as they were at a turn's start
record Starts {P Q : Type 0} (R : P → Q → Type 0) (p0 : P) (q0 : Q) (p : P) (q : Q) : Type 0 where
  first : p ≡ p0
  other : q ≡ q0
  stands : R p q

abbrev byte_by : List ℕ → Timer → ℕ → ℕ → ℕ
byte_by bytes timer lines at = byte_at {P = ℕ} (record { lines = λ p. p; with_level = λ n p. p })
    (record { bytes = bytes; timer = timer; pads = lines }) at

load_alike : {P Q : Type 0} → (w : PadWiring P) (v : PadWiring Q) (R : P → Q → Type 0) (p0 : P) (q0 : Q) → w.lines p0 ≡ v.lines q0
    → LoadAlike (space_loads w) (space_loads v) (SpaceAlike (Starts R p0 q0))
load_alike w v R p0 q0 lines = record {
  same = λ s t at late r.
      ap (λ x. byte_by x (timer_after late s.timer) (w.lines s.pads) at) r.bytes ∙
      (ap (λ x. byte_by t.bytes (timer_after late x) (w.lines s.pads) at) r.timer ∙
      (ap (λ x. byte_by t.bytes (timer_after late t.timer) (w.lines x) at) r.pads.first ∙
      (ap (λ x. byte_by t.bytes (timer_after late t.timer) x at) lines ∙
      ap (λ x. byte_by t.bytes (timer_after late t.timer) (v.lines x) at) (sym r.pads.other))));
  kept = λ s t at late r. record { bytes = r.bytes; timer = ap (λ x. timer_after_read at late x) r.timer; pads = r.pads };
}

stands_still : {P Q : Type 0} → (R : P → Q → Type 0) (p0 : P) (q0 : Q) (s : Space P) (t : Space Q) → SpaceAlike (Starts R p0 q0) s t
    → SpaceAlike R s t
stands_still R p0 q0 s t r = record { bytes = r.bytes; timer = r.timer; pads = r.pads.stands }

choose : {A B : Type 0} → (b : Bool) → (x y : A) (z w : B) (Q : A → B → Type 0) → Q x z → Q y w → Q (if b then x else y)
    (if b then z else w)
choose true x y z w Q p q = p
choose false x y z w Q p q = q

byte_alike : {P Q : Type 0} → (w : PadWiring P) (v : PadWiring Q) (R : P → Q → Type 0) → GoesAlike w v R → (at n : ℕ) (s : Space P)
    (t : Space Q) → SpaceAlike R s t → SpaceAlike R (after_byte w at n s) (after_byte v at n t)
byte_alike w v R h at n s t r =
    choose (nat_eq at 32) _ _ _ _ (SpaceAlike R)
    (record {
      bytes = ap (λ x. slice_set x 34 (bit_xor (slice_index x 34) n)) r.bytes;
      timer = r.timer;
      pads = subst (λ x. R (w.with_level (bit_xor (slice_index s.bytes 34) n) s.pads)
          (v.with_level (bit_xor (slice_index x 34) n) t.pads)) r.bytes (h _ s.pads t.pads r.pads);
    })
    (choose (nat_eq at 34) _ _ _ _ (SpaceAlike R)
    (record { bytes = ap (λ x. slice_set x 34 n) r.bytes; timer = r.timer; pads = h n s.pads t.pads r.pads })
    (choose (is_pin at) _ _ _ _ (SpaceAlike R)
    (record { bytes = ap (λ x. slice_set x (at + 2) (bit_xor (slice_index x (at + 2)) n)) r.bytes; timer = r.timer; pads = r.pads })
    (choose (is_timer_address at) _ _ _ _ (SpaceAlike R)
    (record { bytes = r.bytes; timer = ap (timer_after_write at n) r.timer; pads = r.pads })
    (choose (nat_lt 0x10FF at) _ _ _ _ (SpaceAlike R) r
    (record { bytes = ap (λ x. slice_set x at n) r.bytes; timer = r.timer; pads = r.pads })))))

-- A store of a bit reads no pin of port A

left_false : (a b : Bool) → (a || b) ≡ false → a ≡ false
left_false false b e = refl
left_false true b e = absurd cc

byte_off : {P Q : Type 0} → (w : PadWiring P) (v : PadWiring Q) (R : P → Q → Type 0) (s : Space P) (t : Space Q) (at : ℕ)
    → takes_one_bit at ≡ false → SpaceAlike R s t → byte_at w s at ≡ byte_at v t at
byte_off w v R s t at off r =
    let no : nat_eq at 32 ≡ false = left_false (nat_eq at 32) (is_pin at) (left_false (nat_eq at 32 || is_pin at) (nat_eq at 54) off) in
    let mine : ℕ → ℕ = λ pins. if is_pin at then slice_index s.bytes (at + 2) else
    if is_timer_address at then timer_byte s.timer at else if nat_lt 0x10FF at then 0 else slice_index s.bytes at in
    let others : ℕ → ℕ = λ pins. if is_pin at then slice_index t.bytes (at + 2) else
    if is_timer_address at then timer_byte t.timer at else if nat_lt 0x10FF at then 0 else slice_index t.bytes at in
    ap (λ b. if b then slice_index s.bytes 34 / 4 * 4 + w.lines s.pads else mine 0) no ∙
    (ap (λ x. if is_pin at then slice_index x (at + 2) else
    if is_timer_address at then timer_byte s.timer at else if nat_lt 0x10FF at then 0 else slice_index x at) r.bytes ∙
    (ap (λ x. if is_pin at then slice_index t.bytes (at + 2) else
    if is_timer_address at then timer_byte x at else if nat_lt 0x10FF at then 0 else slice_index t.bytes at) r.timer ∙
    sym (ap (λ b. if b then slice_index t.bytes 34 / 4 * 4 + v.lines t.pads else others 0) no)))

bit_alike : {P Q : Type 0} → (w : PadWiring P) (v : PadWiring Q) (R : P → Q → Type 0) → GoesAlike w v R → (at k : ℕ) (set one : Bool)
    (s : Space P) (t : Space Q) → takes_one_bit at ≡ one → SpaceAlike R s t →
    SpaceAlike R (if one then (if set then after_byte w at (2 ^ k) s else s) else after_byte w at (with_bit k set (byte_at w s at)) s)
    (if one then (if set then after_byte v at (2 ^ k) t else t) else after_byte v at (with_bit k set (byte_at v t at)) t)
bit_alike w v R h at k set true s t e r = choose set _ _ _ _ (SpaceAlike R) (byte_alike w v R h at (2 ^ k) s t r) r
bit_alike w v R h at k set false s t e r =
    subst (λ x. SpaceAlike R (after_byte w at (with_bit k set (byte_at w s at)) s) (after_byte v at (with_bit k set x) t))
    (byte_off w v R s t at e r) (byte_alike w v R h at (with_bit k set (byte_at w s at)) s t r)

store_alike : {P Q : Type 0} → (w : PadWiring P) (v : PadWiring Q) (R : P → Q → Type 0) → GoesAlike w v R → (c : HeldStore) (s : Space P)
    (t : Space Q) → SpaceAlike R s t → SpaceAlike R (after_store w c s) (after_store v c t)
store_alike w v R h (Byte at n) s t r = byte_alike w v R h at n s t r
store_alike w v R h (Bit at b set) s t r = bit_alike w v R h at b set (takes_one_bit at) s t refl r

stores_alike : {P Q : Type 0} → (w : PadWiring P) (v : PadWiring Q) (R : P → Q → Type 0) → GoesAlike w v R → (stores : List HeldStore)
    (s : Space P) (t : Space Q) → SpaceAlike R s t → SpaceAlike R (after_stores w stores s) (after_stores v stores t)
stores_alike w v R h [] s t r = r
stores_alike w v R h (c ∷ cs) s t r = stores_alike w v R h cs (after_store w c s) (after_store v c t) (store_alike w v R h c s t r)

-- Edges look at the bytes alone

abbrev kinds_by : HeldStore → List ℕ → List ℕ → List EdgeKind
kinds_by c old new = edge_kinds {P = ℕ} c (record { bytes = old; timer = timer_at_reset; pads = 0 })
    (record { bytes = new; timer = timer_at_reset; pads = 0 })

kinds_alike : {P Q : Type 0} → (w : PadWiring P) (v : PadWiring Q) (R : P → Q → Type 0) → GoesAlike w v R → (stores : List HeldStore)
    (s : Space P) (t : Space Q) → SpaceAlike R s t → all_edge_kinds w stores s ≡ all_edge_kinds v stores t
kinds_alike w v R h [] s t r = refl
kinds_alike w v R h (c ∷ cs) s t r =
    let next : SpaceAlike R (after_store w c s) (after_store v c t) = store_alike w v R h c s t r in
    ap (λ x. kinds_by c x (after_store w c s).bytes ++ all_edge_kinds w cs (after_store w c s)) r.bytes ∙
    (ap (λ x. kinds_by c t.bytes x ++ all_edge_kinds w cs (after_store w c s)) next.bytes ∙
    ap (λ x. edge_kinds c t (after_store v c t) ++ x) (kinds_alike w v R h cs (after_store w c s) (after_store v c t) next))

abbrev ended : {P Q : Type 0} → State P → Core → Space Q → Bool → ℕ → State Q
ended s core space is_owed clocks = record {
  image = s.image;
  core = core;
  space = space;
  response = s.response;
  is_owed = is_owed;
  clock = s.clock + clocks;
}

entry_alike : {P Q : Type 0} → (w : PadWiring P) (v : PadWiring Q) (R : P → Q → Type 0) → GoesAlike w v R → (s : State P) (t : Space Q)
    → SpaceAlike R s.space t → (edges : List Edge) (new : State P) → IsEntryTurn w s edges new → TurnAlike R v s t edges new
entry_alike w v R h s t r edges new turn =
    let stores = entry_stores s in
    let aged : SpaceAlike R (space_after s.response (space_taken s.space)) (space_after s.response (space_taken t)) =
    after_alike R s.response (space_taken s.space) (space_taken t) (taken_alike R s.space t r) in
    let after = after_stores v stores (space_after s.response (space_taken t)) in
    let stored : SpaceAlike R (after_stores w stores (space_after s.response (space_taken s.space))) after = stores_alike w v R h stores _ _
    aged in
    record {
      after = after;
      turn = inl (record {
        enters = ap (λ x. is_due x && bit_is_set s.core.sreg 7 && not s.is_owed) (sym r.timer) ∙ turn.enters;
        goes_to = ap (λ x. with_space x after) turn.goes_to;
        emits = turn.emits ∙
            (ap (λ x. record { clock = s.clock; kind = Enter x.count } ∷ edges_at (s.clock + s.response)
            (all_edge_kinds w stores (space_after s.response (space_taken s.space)))) r.timer ∙
            ap (λ x. record { clock = s.clock; kind = Enter t.timer.count } ∷ edges_at (s.clock + s.response) x)
            (kinds_alike w v R h stores _ _ aged));
      });
      alike = subst (λ x. SpaceAlike R x.space after) (sym turn.goes_to) stored;
    }

instruction_alike : {P Q : Type 0} → (w : PadWiring P) (v : PadWiring Q) (R : P → Q → Type 0) → GoesAlike w v R → (s : State P) (t : Space Q)
    → w.lines s.space.pads ≡ v.lines t.pads → SpaceAlike R s.space t → (edges : List Edge) (new : State P) → IsInstructionTurn w s edges new → TurnAlike R v s t edges new
instruction_alike w v R h s t lines r edges new turn =
    let i = turn.row in
    let a = instruction_result w i s in
    let b = instruction_result v i (with_space s t) in
    let start : SpaceAlike (Starts R s.space.pads t.pads) s.space t = record {
      bytes = r.bytes;
      timer = r.timer;
      pads = record { first = refl; other = refl; stands = r.pads };
    } in
    let same : ResultAlike (SpaceAlike (Starts R s.space.pads t.pads)) a b = same_effect_result (space_loads w) (space_loads v)
    (SpaceAlike (Starts R s.space.pads t.pads)) (load_alike w v R s.space.pads t.pads lines)
    s.image (effect_of i) (words_of i) (clocks_of i) s.core s.space t start in
    let content : SpaceAlike R a.content b.content = stands_still R s.space.pads t.pads a.content b.content same.content in
    let aged : SpaceAlike R (space_after a.clocks a.content) (space_after b.clocks b.content) =
    subst (λ n. SpaceAlike R (space_after a.clocks a.content) (space_after n b.content)) same.clocks
    (after_alike R a.clocks a.content b.content content) in
    let after = after_stores v b.stores (space_after b.clocks b.content) in
    let stored : SpaceAlike R (after_stores w a.stores (space_after a.clocks a.content)) after =
    subst (λ stores. SpaceAlike R (after_stores w a.stores (space_after a.clocks a.content))
    (after_stores v stores (space_after b.clocks b.content))) same.stores (stores_alike w v R h a.stores _ _ aged) in
    let kinds : all_edge_kinds w a.stores (space_after a.clocks a.content) ≡ all_edge_kinds v b.stores (space_after b.clocks b.content) =
    kinds_alike w v R h a.stores _ _ aged ∙ ap (λ stores. all_edge_kinds v stores (space_after b.clocks b.content)) same.stores in
    record {
      after = after;
      turn = inr (record {
        enters = ap (λ x. is_due x && bit_is_set s.core.sreg 7 && not s.is_owed) (sym r.timer) ∙ turn.enters;
        row = i;
        reads = turn.reads;
        runs = turn.runs;
        goes_to = ap (λ x. with_space x after) turn.goes_to ∙
            (ap (λ core. ended s core after a.owed a.clocks) same.core ∙
            (ap (λ owed. ended s b.core after owed a.clocks) same.owed ∙
            ap (λ clocks. ended s b.core after b.owed clocks) same.clocks));
        emits = turn.emits ∙
            (ap (λ x. edges_at (s.clock + a.clocks) (x ++ (if a.returned then Leave ∷ [] else []))) kinds ∙
            (ap (λ n. edges_at (s.clock + n) (all_edge_kinds v b.stores (space_after b.clocks b.content)
            ++ (if a.returned then Leave ∷ [] else []))) same.clocks ∙
            ap (λ x. edges_at (s.clock + b.clocks) (all_edge_kinds v b.stores (space_after b.clocks b.content)
            ++ (if x then Leave ∷ [] else []))) same.returned));
      });
      alike = subst (λ x. SpaceAlike R x.space after) (sym turn.goes_to) stored;
    }

-- A turn over some pads is, with the same edges, a turn over those that they stand for, if the lines are the same at its start
pub turn_from : {P Q : Type 0} → (w : PadWiring P) (v : PadWiring Q) (R : P → Q → Type 0) → GoesAlike w v R → (s : State P) (t : Space Q)
    → w.lines s.space.pads ≡ v.lines t.pads → SpaceAlike R s.space t → (edges : List Edge) (new : State P) → Turn w s edges new
    → TurnAlike R v s t edges new
turn_from w v R h s t lines r edges new (inl turn) = entry_alike w v R h s t r edges new turn
turn_from w v R h s t lines r edges new (inr turn) = instruction_alike w v R h s t lines r edges new turn
