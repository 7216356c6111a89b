-- A call goes on from the fields before it to those after it.
use Rattle.std.proofs.Common.{◌≡◌, ℕ, zero, suc, ◌+◌, ◌-◌, ◌≤◌, ◌<◌, Bool, true, false, if◌then◌else◌, List, [], ◌∷◌, ◌++◌, length, min, nat_le, take}
use Rattle.std.proofs.Common.{replicate, refl, sym, ◌∙◌, ap, subst, arith, length-append}
use Rattle.std.specs.Prelude.{reverse, Some, None, slice_index_or}
use Rattle.std.specs.Ordering.{nat_cmp}
use Rattle.std.specs.FinMap.{FinMap}
use Rattle.std.proofs.lemmas.Bool.Decides.{nat_tests}
use Rattle.std.proofs.lemmas.List.{length-map, length-replicate, length-take-le}
use Rattle.uz_core.specs.declared.machine.Edge.{Edge}
use Rattle.uz_core.specs.PadLine.{PadHistory, latches}
use Rattle.uz_core.specs.Run.{HasNoTurn}
use Rattle.uz_core.specs.Turn as machine
use Rattle.uz_console.specs.Holding.{holding_state, pads_left}
use Rattle.uz_console.specs.Consoles.{state_of}
use Rattle.uz_console.proofs.SaveLemmas.{run_keeps}
use Rattle.uz_pads.specs.declared.pads.Pad.{Pad}
use Rattle.uz_pads.specs.Pads.{IsBegun, latched_pad, list_of, no_pad, pairs_of}
use Rattle.uz_player.specs.declared.calls.Called.{Called}
use Rattle.uz_player.specs.declared.frame.Frame.{Frame}
use Rattle.uz_player.specs.declared.frame.Frame.TheVariants as how
use Rattle.uz_player.specs.declared.play.Play.{Play}
use Rattle.uz_player.specs.declared.state.State.{State}
use Rattle.uz_player.specs.Calls.{CallEnds, IsCalled}
use Rattle.uz_player.specs.Frames.{EndsIn, GoesOn, IsAt, PlaysFrame, clock_of, end_of, left_of}
use Rattle.uz_player.specs.States.{StandsFor, flag, left_in, pads_in, remembering}
use Rattle.uz_player.proofs.PadMemory.{begun_since, latches_since}
use Rattle.uz_player.proofs.PadRunLaws.{run_latches}

-- Pads that remember the pair of the last latch have no latch past their list

size_by : (b : Bool) (pad : Pad) → length (pairs_of (if b then pad ∷ [] else [])) ≡ (if b then 1 else 0)
size_by true pad = refl
size_by false pad = refl

past_list : (a b : Bool) (pad : Pad) (n : ℕ) → a ≡ true → b ≡ true → None ≡ (if a then (if b then Some pad else None) else None) → suc n ≡ 0
past_list true true pad n s t e = absurd cc
past_list true false pad n s t e = absurd cc
past_list false b pad n s t e = absurd cc

within_list : (n len size : ℕ) → len ≡ size → suc n ≤ len → nat_le (suc n) size ≡ true
within_list n len size e h = grind (arith, nat_tests)

one_or_more : (n : ℕ) → nat_le 1 (suc n) ≡ true
one_or_more n = grind (arith, nat_tests)

none_missing : (n len : ℕ) (list : List Pad) → None ≡ latched_pad n list → len ≡ length list → n ≤ len → n ≡ 0
none_missing zero len list e size few = refl
none_missing (suc n) len list e size few = past_list (nat_le 1 (suc n)) (nat_le (suc n) (length list))
    (slice_index_or list (suc n - 1) no_pad) n (one_or_more n) (within_list n len (length list) size few) e

few_by : (b : Bool) (pad : Pad) (n len : ℕ) (list : List Pad) → (if b then Some pad else None) ≡ latched_pad n list → len ≡ length list
    → n ≤ len → min 1 n ≤ (if b then 1 else 0)
few_by true pad n len list e size few = grind (arith, nat_tests)
few_by false pad n len list e size few = subst (λ k. min 1 k ≤ 0) (sym (none_missing n len list e size few)) (omega arith)

few_again : (state : State) (s : machine.State PadHistory) (seen : List Edge) → StandsFor state s seen
    → latches s.space.pads.levels ≤ length s.space.pads.pairs →
    (let t : machine.State PadHistory = remembering (pads_in state.pads) s in latches t.space.pads.levels ≤ length t.space.pads.pairs)
few_again state s seen h few =
    let pad : Pad = record { one = state.pads.one; two = state.pads.two } in
    let b = flag state.pads.latched in
    let size : length s.space.pads.pairs ≡ length h.pads.list =
    ap (λ (pairs : List (ℕ × ℕ)). length pairs) h.pads.stands.pairs ∙ length-map h.pads.list (λ (pad : Pad). (pad.one, pad.two)) in
    subst (λ n. n ≤ length (pairs_of (pads_in state.pads))) (sym (latches_since s.space.pads.levels))
    (subst (λ n. min 1 (latches s.space.pads.levels) ≤ n) (sym (size_by b pad))
    (few_by b pad (latches s.space.pads.levels) (length s.space.pads.pairs) h.pads.list h.pads.stands.current size few))

-- How often the pair that is held was latched

left_over : (n next len size left taken : ℕ) → size ≡ len → next ≡ min n len → left ≡ len - next → taken ≡ 65536 - left
    → size ≤ n + 65536 → taken < 65536 → n + 65536 ≡ size + taken
left_over n next len size left taken a b c d f e = grind (arith, nat_tests)

pub taken_by : (play : Play) (left taken : ℕ) → left ≡ pads_left play.console → taken ≡ 65536 - left → (s : machine.State PadHistory)
    (seen : List Edge) → IsAt play s seen → length s.space.pads.pairs ≤ latches s.space.pads.levels + 65536 → taken < 65536
    → latches s.space.pads.levels + 65536 ≡ length s.space.pads.pairs + taken
taken_by play left taken e t s seen at most below =
    let p = (state_of play.console).space.pads in
    let size : length s.space.pads.pairs ≡ length (list_of p) =
    ap (λ (pairs : List (ℕ × ℕ)). length pairs) (at.stands).pads.pairs ∙ length-map (list_of p) (λ (pad : Pad). (pad.one, pad.two)) in
    left_over (latches s.space.pads.levels) p.next (length (list_of p)) (length s.space.pads.pairs) left taken size (at.stands).pads.next e t most below

held_size : (pad : Pad) (n : ℕ) (pairs : List (ℕ × ℕ)) → n ≤ length pairs → length (take n pairs ++ replicate 65536 (pad.one, pad.two)) ≡ n + 65536
held_size pad n pairs h =
    let pair : ℕ × ℕ = (pad.one, pad.two) in
    length-append (take n pairs) (replicate 65536 pair) ∙
    (ap (λ k. k + length (replicate 65536 pair)) (length-take-le n pairs h) ∙ ap (λ k. n + k) (length-replicate 65536 pair))

not_past : (n m size : ℕ) → size ≡ n + 65536 → n ≤ m → size ≤ m + 65536
not_past n m size e h = omega arith

latched_since : (n m size last taken : ℕ) → m + 65536 ≡ last + taken → last ≡ size → size ≡ n + 65536 → m ≡ n + taken
latched_since n m size last taken a b c = omega arith

begun_levels : (levels : List ℕ) → IsBegun levels → (v : ℕ) × (older : List ℕ) × (levels ≡ v ∷ older)
begun_levels [] h = absurd h
begun_levels (v ∷ older) h = (v, older, refl)

-- The call

ends_again : (until : ℕ) (play : Play) (state : State) (bytes : List ℕ) (frame : Frame) → left_in state ≡ left_of play
    → state.clock ≡ clock_of play → EndsIn until play bytes frame → CallEnds until state bytes frame
ends_again until play state bytes how.Over left clock h = h
ends_again until play state bytes how.Quiet left clock h = (left ∙ h.0, subst (λ n. until ≤ n) (sym clock) h.1)
ends_again until play state bytes how.Stopped left clock h = (left ∙ h.0, subst (λ n. n < until) (sym clock) h.1)

stops_again : (until : ℕ) (play : Play) (bytes : List ℕ) (frame : Frame) → EndsIn until play bytes frame → frame ≡ how.Stopped
    → (s : machine.State PadHistory) (seen : List Edge) → IsAt play s seen → HasNoTurn s
stops_again until play bytes how.Over h e = absurd cc
stops_again until play bytes how.Quiet h e = absurd cc
stops_again until play bytes how.Stopped h e = h.2

pub calls_on : (pad : Pad) (clocks : ℕ) (image : FinMap nat_cmp ℕ) (old : State) (called : Called) (first play : Play)
    (before after : List ℕ) → ((s : machine.State PadHistory) (seen : List Edge) → StandsFor old s seen → image ≡ s.image
    → IsAt first (remembering (pads_in old.pads) s) seen) → left_of first ≡ left_in old → clock_of first ≡ old.clock
    → (f : PlaysFrame pad clocks first play before after called.frame)
    → ((s : machine.State PadHistory) (seen : List Edge) → IsAt play s seen → StandsFor called.state s seen)
    → left_in called.state ≡ left_of play → called.state.clock ≡ clock_of play
    → ((s : machine.State PadHistory) (seen : List Edge) → IsAt play s seen
    → length s.space.pads.pairs ≤ latches s.space.pads.levels + 65536 → called.latches < 65536
    → latches s.space.pads.levels + 65536 ≡ length s.space.pads.pairs + called.latches)
    → IsCalled pad clocks image old before after called
calls_on pad clocks image old called first play before after from left clock f stands left_again clock_again taken = record {
  bytes = f.bytes;
  put = f.put;
  goes = λ s seen h same few.
      let t : machine.State PadHistory = remembering (pads_in old.pads) s in
      let fit = few_again old s seen h few in
      let g : GoesOn first play (holding_state pad 65536 t) seen f.bytes = f.goes t seen (from s seen h same) fit in
      let held = holding_state pad 65536 t in
      let kept = (run_keeps g.turns held g.last g.edges g.run).pairs in
      let size = held_size pad (latches t.space.pads.levels) t.space.pads.pairs fit in
      let more = run_latches g.turns held g.last g.edges g.run (begun_levels t.space.pads.levels (begun_since s.space.pads.levels h.pads.stands.begun)) in
      let last_size = ap (λ (pairs : List (ℕ × ℕ)). length pairs) kept in
      record {
        turns = g.turns;
        edges = g.edges;
        last = g.last;
        run = g.run;
        scanned = g.scanned;
        kept = ap (λ es. es ++ g.edges) (sym left) ∙ (g.kept ∙ ap (λ es. g.scanned ++ es) (sym left_again));
        stands = stands g.last (reverse g.scanned ++ seen) g.is_at;
        records = g.records;
        latches = λ below. latched_since (latches t.space.pads.levels) (latches g.last.space.pads.levels)
            (length (holding_state pad 65536 t).space.pads.pairs) (length g.last.space.pads.pairs) called.latches
            (taken g.last (reverse g.scanned ++ seen) g.is_at (not_past (latches t.space.pads.levels) (latches g.last.space.pads.levels)
            (length g.last.space.pads.pairs) (last_size ∙ size) more) below) last_size size;
        stops = λ e. stops_again (end_of (clock_of first) clocks) play f.bytes called.frame f.ends e g.last (reverse g.scanned ++ seen) g.is_at;
      };
  ends = ends_again (end_of old.clock clocks) play called.state f.bytes called.frame left_again clock_again
      (subst (λ n. EndsIn (end_of n clocks) play f.bytes called.frame) clock f.ends);
}
