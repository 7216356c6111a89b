-- Calls one after another are one run over the pairs that they recorded.
use Rattle.std.proofs.Common.{◌≡◌, ℕ, ◌+◌, ◌-◌, ◌≤◌, ◌<◌, Bool, true, false, if◌then◌else◌, ◌&&◌, List, [], ◌∷◌, ◌++◌, length, take, replicate}
use Rattle.std.proofs.Common.{nat_le, refl, sym, ◌∙◌, ap, subst, arith, append_assoc, length-append}
use Rattle.std.specs.Prelude.{slice_index_or, Some, None}
use Rattle.std.proofs.Math.ListN.{get_or-append}
use Rattle.std.proofs.Math.Seq.{take-append_seam}
use Rattle.std.proofs.lemmas.Bool.Decides.{nat_tests}
use Rattle.std.proofs.lemmas.List.{length-replicate, length-take-le, replicate-append-replicate}
use Rattle.uz_core.specs.declared.machine.Edge.{Edge}
use Rattle.uz_core.specs.PadLine.{PadHistory, latches}
use Rattle.uz_core.specs.Run.{MachineTurn, Run}
use Rattle.uz_core.specs.Turn.{State}
use Rattle.uz_player.specs.PadRuns.{AreOneRun, InCalls, IsReady, RunsAlike, pair_of_latch, recorded, with_history, with_pairs_ahead}
use Rattle.uz_player.proofs.PadRunLaws.{run_again, run_pairs, runs_alike}

abbrev Pairs : Type 0
Pairs = List (ℕ × ℕ)

-- Latches within the first pairs find them, whatever follows

within_both : (i n m k : ℕ) → nat_le 1 i ≡ true → i ≤ n → (nat_le i (n + m) ≡ nat_le i (n + k)) × (i - 1 < n)
within_both i n m k one h = (same i n m k h, before i n one h)
  where
    same : (i n m k : ℕ) → i ≤ n → nat_le i (n + m) ≡ nat_le i (n + k)
    same i n m k h = grind (arith, nat_tests)

    before : (i n : ℕ) → nat_le 1 i ≡ true → i ≤ n → i - 1 < n
    before i n one h = grind (arith, nat_tests)

found_within : (i : ℕ) (first u v : Pairs) → i ≤ length first → pair_of_latch i (first ++ u) ≡ pair_of_latch i (first ++ v)
found_within i first u v h = by_test (nat_le 1 i) refl
  where
    found_by : (b : Bool) → nat_le 1 i ≡ b →
        (if b && nat_le i (length (first ++ u)) then Some (slice_index_or (first ++ u) (i - 1) (0, 0)) else None) ≡
        (if b && nat_le i (length (first ++ v)) then Some (slice_index_or (first ++ v) (i - 1) (0, 0)) else None)
    found_by false e = refl
    found_by true e =
        let both = within_both i (length first) (length u) (length v) e h in
        ap (λ n. if nat_le i n then Some (slice_index_or (first ++ u) (i - 1) (0, 0)) else None) (length-append first u) ∙
        (ap (λ b. if b then Some (slice_index_or (first ++ u) (i - 1) (0, 0)) else None) both.0 ∙
        (ap (λ n. if nat_le i n then Some (slice_index_or (first ++ u) (i - 1) (0, 0)) else None) (sym (length-append first v)) ∙
        ap (λ x. if nat_le i (length (first ++ v)) then Some x else None)
        (get_or-append first u (0, 0) (i - 1) both.1 ∙ sym (get_or-append first v (0, 0) (i - 1) both.1))))

    by_test : (b : Bool) → nat_le 1 i ≡ b → pair_of_latch i (first ++ u) ≡ pair_of_latch i (first ++ v)
    by_test b e =
        ap (λ c. if c && nat_le i (length (first ++ u)) then Some (slice_index_or (first ++ u) (i - 1) (0, 0)) else None) e ∙
        (found_by b e ∙
        ap (λ c. if c && nat_le i (length (first ++ v)) then Some (slice_index_or (first ++ v) (i - 1) (0, 0)) else None) (sym e))

-- A pair that is held for more latches than there are

split_held : (held times : ℕ) (pair : ℕ × ℕ) (before : Pairs) → times ≤ held →
    before ++ replicate held pair ≡ (before ++ replicate times pair) ++ replicate (held - times) pair
split_held held times pair before h =
    let whole : times + (held - times) ≡ held = omega arith in
    ap (λ n. before ++ replicate n pair) (sym whole) ∙
    (ap (λ ps. before ++ ps) (sym (replicate-append-replicate times (held - times) pair)) ∙
    sym (append_assoc before (replicate times pair) (replicate (held - times) pair)))

size_found : (n times : ℕ) (pair : ℕ × ℕ) (pairs : Pairs) → n ≤ length pairs → length (take n pairs ++ replicate times pair) ≡ n + times
size_found n times pair pairs h =
    length-append (take n pairs) (replicate times pair) ∙
    (ap (λ k. k + length (replicate times pair)) (length-take-le n pairs h) ∙ ap (λ k. n + k) (length-replicate times pair))

-- One call

-- two states of one machine with the same values of PORTA and other pairs
abbrev with_pairs : Pairs → State PadHistory → State PadHistory
with_pairs pairs s = with_history (record { pairs = pairs; levels = s.space.pads.levels }) s

record Recorded (pairs : Pairs) (s : State PadHistory) (edges : List Edge) (mid : State PadHistory) (turns : ℕ) : Type 0 where
  run : Run MachineTurn turns (with_pairs pairs s) edges (with_pairs pairs mid)

one_call : (held times turns : ℕ) (pair : ℕ × ℕ) (more : Pairs) (s mid : State PadHistory) (edges : List Edge) → IsReady s → times ≤ held
    → Run MachineTurn turns (with_pairs_ahead (replicate held pair) s) edges mid
    → latches mid.space.pads.levels ≡ latches s.space.pads.levels + times →
    Recorded (take (latches s.space.pads.levels) s.space.pads.pairs ++ (replicate times pair ++ more)) s edges mid turns
one_call held times turns pair more s mid edges ready few run count =
    let n = latches s.space.pads.levels in
    let before = take n s.space.pads.pairs in
    let found = before ++ replicate times pair in
    let pads : PadHistory = record { pairs = before ++ (replicate times pair ++ more); levels = s.space.pads.levels } in
    let start = with_pairs_ahead (replicate held pair) s in
    let size = size_found n times pair s.space.pads.pairs ready.few in
    let a : RunsAlike turns start edges mid pads = runs_alike turns start mid edges pads run
    (record { value = ready.value; before = ready.before; others = ready.before; a_is = ready.levels; b_is = ready.levels; since = refl })
    (λ i j e from below.
    let same : i ≡ j = omega (arith, e) in
    let within : i ≤ length found = omega (arith, size, count, below) in
    ap (pair_of_latch i) (split_held held times pair before few) ∙
    (found_within i found (replicate (held - times) pair) more within ∙
    (ap (pair_of_latch i) (append_assoc before (replicate times pair) more) ∙
    ap (λ k. pair_of_latch k pads.pairs) same))) in
    let levels : a.after.levels ≡ mid.space.pads.levels = a.others_take ∙ sym a.takes in
    record {
      run = subst (λ (h : PadHistory). Run MachineTurn turns (with_history pads s) edges (with_history h mid)) (same_pads a.after pads.pairs
          mid.space.pads.levels a.pairs levels) a.run;
    }
  where
    same_pads : (h : PadHistory) (pairs : Pairs) (levels : List ℕ) → h.pairs ≡ pairs → h.levels ≡ levels →
        h ≡ (let x : PadHistory = record { pairs = pairs; levels = levels } in x)
    same_pads h pairs levels e f =
        ap (λ ps. let x : PadHistory = record { pairs = ps; levels = h.levels } in x) e ∙
        ap (λ ls. let x : PadHistory = record { pairs = pairs; levels = ls } in x) f

-- All calls

ready_again : (held times turns : ℕ) (pair : ℕ × ℕ) (s mid : State PadHistory) (edges : List Edge) → IsReady s → times ≤ held
    → Run MachineTurn turns (with_pairs_ahead (replicate held pair) s) edges mid
    → latches mid.space.pads.levels ≡ latches s.space.pads.levels + times →
    (take (latches mid.space.pads.levels) mid.space.pads.pairs ≡ take (latches s.space.pads.levels) s.space.pads.pairs ++ replicate times pair)
    × IsReady mid
ready_again held times turns pair s mid edges ready few run count =
    let n = latches s.space.pads.levels in
    let before = take n s.space.pads.pairs in
    let found = before ++ replicate times pair in
    let kept = run_pairs turns (with_pairs_ahead (replicate held pair) s) mid edges run (ready.value, ready.before, ready.levels) in
    let pairs : mid.space.pads.pairs ≡ found ++ replicate (held - times) pair = kept.0 ∙ split_held held times pair before few in
    let size = size_found n times pair s.space.pads.pairs ready.few in
    let all = ap (λ (ps : Pairs). length ps) pairs ∙ length-append found (replicate (held - times) pair) in (
      ap (λ ps. take (latches mid.space.pads.levels) ps) pairs ∙
          (ap (λ k. take k (found ++ replicate (held - times) pair)) (count ∙ sym size) ∙ take-append_seam found (replicate (held - times) pair)),
      record { value = kept.1.0; before = kept.1.1; levels = kept.1.2; few = omega (arith, all, size, count) },
    )

pub one_run : (calls : List ((ℕ × ℕ) × ℕ)) (s last : State PadHistory) (edges : List Edge) → InCalls calls s edges last → IsReady s
    → AreOneRun calls s edges last
one_run [] s last edges (none, same) ready = λ more. (0, (none, ap (with_pairs_ahead more) same))
one_run ((pair, times) ∷ calls) s last edges (turns, first, mid, rest, run, few, count, later, cut) ready = λ more.
    let n = latches s.space.pads.levels in
    let before = take n s.space.pads.pairs in
    let next = ready_again 65536 times turns pair s mid first ready few run count in
    let all = one_run calls mid last rest later next.1 more in
    let ahead = recorded calls ++ more in
    let one : Recorded (before ++ (replicate times pair ++ ahead)) s first mid turns = one_call 65536 times turns pair ahead s mid first ready
    few run count in
    let same : before ++ (replicate times pair ++ ahead) ≡ take (latches mid.space.pads.levels) mid.space.pads.pairs ++ ahead =
    sym (append_assoc before (replicate times pair) ahead) ∙ ap (λ ps. ps ++ ahead) (sym next.0) in
    let joined : before ++ (replicate times pair ++ ahead) ≡ before ++ (recorded ((pair, times) ∷ calls) ++ more) =
    ap (λ ps. before ++ ps) (sym (append_assoc (replicate times pair) (recorded calls) more)) in
    let there = subst (λ ps. Run MachineTurn turns (with_pairs (before ++ (replicate times pair ++ ahead)) s) first (with_pairs ps mid)) same
    one.run in
    let here = subst (λ ps. Run MachineTurn turns (with_pairs ps s) first (with_pairs_ahead ahead mid)) joined there in
    let both = run_again turns all.0 (with_pairs_ahead (recorded ((pair, times) ∷ calls) ++ more) s) (with_pairs_ahead ahead mid)
    (with_pairs_ahead more last) first rest here all.1 in (
      both.0,
      subst (λ es. Run MachineTurn both.0 (with_pairs_ahead (recorded ((pair, times) ∷ calls) ++ more) s) es (with_pairs_ahead more last))
          (sym cut) both.1,
    )
