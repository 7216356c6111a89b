-- A run over pads whose latches find the same pairs is the same run.
use Rattle.std.proofs.Common.{◌≡◌, ℕ, zero, suc, ◌+◌, ◌-◌, ◌*◌, ◌≤◌, Bool, true, false, if◌then◌else◌, not, ◌&&◌, List, [], ◌∷◌, ◌++◌, length}
use Rattle.std.proofs.Common.{map, nat_le, nat_lt, refl, sym, ◌∙◌, ap, subst, arith, append_assoc}
use Rattle.std.specs.Prelude.{count_by, slice_index, slice_index_or, Option, Some, None}
use Rattle.std.proofs.lemmas.List.{length-map}
use Rattle.std.proofs.lemmas.List.Sums.{sum_by-cons}
use Rattle.std.proofs.Math.ListN.{get_or-map}
use Rattle.uz_core.specs.Arithmetic.{bit_value, bit_is_set}
use Rattle.uz_core.specs.declared.machine.Edge.{Edge}
use Rattle.uz_core.specs.PadLine.{PadHistory, changes_of, changes_since_latch, is_fall, is_rise, latches, line_level, moves, pad_lines, with_level}
use Rattle.uz_core.specs.Run.{MachineTurn, Run}
use Rattle.uz_core.specs.Space.{Space, history_wiring}
use Rattle.uz_core.specs.Turn.{State}
use Rattle.uz_core.proofs.Wirings.{Alike, SpaceAlike, TurnAlike, turn_alike, with_space}
use Rattle.uz_player.specs.PadRuns.{FindTheSame, RunsAlike, SamePresent, pair_of_latch, with_history}
use Rattle.uz_player.proofs.TurnsFrom.{turn_from}

-- The lines by the pair that the last latch found

abbrev Sel : Type 0
Sel = ℕ × ℕ → ℕ

abbrev line_of : Option (ℕ × ℕ) → Sel → ℕ → Bool
line_of None sel m = true
line_of (Some pair) sel m = not (nat_lt m 12 && bit_is_set (sel pair) m)

level_by : (a b : Bool) (pair : ℕ × ℕ) (sel : Sel) (m : ℕ) →
    not (a && b && nat_lt m 12 && bit_is_set (sel pair) m) ≡ line_of (if a && b then Some pair else None) sel m
level_by true true pair sel m = refl
level_by true false pair sel m = refl
level_by false b pair sel m = refl

word_at : (pairs : List (ℕ × ℕ)) (sel : Sel) → sel (0, 0) ≡ 0 → (k : ℕ) → slice_index (map sel pairs) k ≡ sel (slice_index_or pairs k (0, 0))
word_at pairs sel none k = ap (λ d. slice_index_or (map sel pairs) k d) (sym none) ∙ get_or-map sel pairs k (0, 0)

level_is : (pairs : List (ℕ × ℕ)) (sel : Sel) → sel (0, 0) ≡ 0 → (levels : List ℕ) →
    line_level (map sel pairs) levels ≡ line_of (pair_of_latch (latches levels) pairs) sel (moves levels)
level_is pairs sel none levels =
    let n = latches levels in
    let m = moves levels in
    ap (λ len. not (nat_le 1 n && nat_le n len && nat_lt m 12 && bit_is_set (slice_index (map sel pairs) (n - 1)) m)) (length-map pairs sel) ∙
    (ap (λ word. not (nat_le 1 n && nat_le n (length pairs) && nat_lt m 12 && bit_is_set word m)) (word_at pairs sel none (n - 1)) ∙
    level_by (nat_le 1 n) (nat_le n (length pairs)) (slice_index_or pairs (n - 1) (0, 0)) sel m)

abbrev lines_by : Option (ℕ × ℕ) → ℕ → ℕ
lines_by pair m = bit_value (line_of pair (λ (p : ℕ × ℕ). p.0) m) + bit_value (line_of pair (λ (p : ℕ × ℕ). p.1) m) * 2

lines_are : (h : PadHistory) → pad_lines h ≡ lines_by (pair_of_latch (latches h.levels) h.pairs) (moves h.levels)
lines_are h =
    ap (λ b. bit_value b + bit_value (line_level (map (λ (p : ℕ × ℕ). p.1) h.pairs) h.levels) * 2) (level_is h.pairs (λ p. p.0) refl h.levels) ∙
    ap (λ b. bit_value (line_of (pair_of_latch (latches h.levels) h.pairs) (λ (p : ℕ × ℕ). p.0) (moves h.levels)) + bit_value b * 2)
    (level_is h.pairs (λ p. p.1) refl h.levels)

same_moves : (a b : PadHistory) → SamePresent a b → moves a.levels ≡ moves b.levels
same_moves a b h = ap (λ cs. count_by (is_rise 3) cs) h.since

same_lines : (a b : PadHistory) → SamePresent a b → pair_of_latch (latches a.levels) a.pairs ≡ pair_of_latch (latches b.levels) b.pairs
    → pad_lines a ≡ pad_lines b
same_lines a b h pair =
    lines_are a ∙ (ap (λ p. lines_by p (moves a.levels)) pair ∙
    (ap (λ m. lines_by (pair_of_latch (latches b.levels) b.pairs) m) (same_moves a b h) ∙ sym (lines_are b)))

-- PORTA takes a value: the present stays the same, and as many latches come

record Keeps (na nb : ℕ) (first other : PadHistory) (a b : PadHistory) : Type 0 where
  mine_are : a.pairs ≡ first.pairs
  others_are : b.pairs ≡ other.pairs
  came : List ℕ
  takes : a.levels ≡ came ++ first.levels
  others_take : b.levels ≡ came ++ other.levels
  present : SamePresent a b
  count : latches b.levels + na ≡ latches a.levels + nb

latches_more : (n v : ℕ) (before : List ℕ) → latches (n ∷ v ∷ before) ≡ (if is_fall 2 (v, n) then 1 else 0) + latches (v ∷ before)
latches_more n v before = sum_by-cons (λ c. if is_fall 2 c then 1 else 0) (v, n) (changes_of (v ∷ before))

since_more : (fall : Bool) (c : ℕ × ℕ) (xs ys : List (ℕ × ℕ)) → xs ≡ ys → (if fall then c ∷ [] else c ∷ xs) ≡ (if fall then c ∷ [] else c ∷ ys)
since_more true c xs ys e = refl
since_more false c xs ys e = ap (λ zs. c ∷ zs) e

count_more : (k x y p q na nb : ℕ) → x ≡ k + p → y ≡ k + q → q + na ≡ p + nb → y + na ≡ x + nb
count_more k x y p q na nb e f h = omega arith

keeps_on : (na nb : ℕ) (mine others : PadHistory) (n : ℕ) (a b : PadHistory) → Keeps na nb mine others a b
    → Keeps na nb mine others (with_level n a) (with_level n b)
keeps_on na nb mine others n a b h =
    let p = h.present in
    let v = p.value in
    let c : ℕ × ℕ = (v, n) in
    let first : latches (n ∷ a.levels) ≡ (if is_fall 2 c then 1 else 0) + latches a.levels =
    ap (λ ls. latches (n ∷ ls)) p.a_is ∙ (latches_more n v p.before ∙ ap (λ ls. (if is_fall 2 c then 1 else 0) + latches ls) (sym p.a_is)) in
    let second : latches (n ∷ b.levels) ≡ (if is_fall 2 c then 1 else 0) + latches b.levels =
    ap (λ ls. latches (n ∷ ls)) p.b_is ∙ (latches_more n v p.others ∙ ap (λ ls. (if is_fall 2 c then 1 else 0) + latches ls) (sym p.b_is)) in
    let since : changes_since_latch (changes_of (v ∷ p.before)) ≡ changes_since_latch (changes_of (v ∷ p.others)) =
    ap (λ ls. changes_since_latch (changes_of ls)) (sym p.a_is) ∙ (p.since ∙ ap (λ ls. changes_since_latch (changes_of ls)) p.b_is) in
    record {
      mine_are = h.mine_are;
      others_are = h.others_are;
      came = n ∷ h.came;
      takes = ap (λ ls. n ∷ ls) h.takes;
      others_take = ap (λ ls. n ∷ ls) h.others_take;
      present = record {
        value = n;
        before = a.levels;
        others = b.levels;
        a_is = refl;
        b_is = refl;
        since = ap (λ ls. changes_since_latch (changes_of (n ∷ ls))) p.a_is ∙
            (since_more (is_fall 2 c) c (changes_since_latch (changes_of (v ∷ p.before))) (changes_since_latch (changes_of (v ∷ p.others))) since ∙
            ap (λ ls. changes_since_latch (changes_of (n ∷ ls))) (sym p.b_is));
      };
      count = count_more (if is_fall 2 c then 1 else 0) (latches (n ∷ a.levels)) (latches (n ∷ b.levels)) (latches a.levels)
          (latches b.levels) na nb first second h.count;
    }

-- Latches never become fewer

record Passes (k : ℕ) (ps : List (ℕ × ℕ)) (a b : PadHistory) : Type 0 where
  same : a ≡ b
  pairs : a.pairs ≡ ps
  begun : (v : ℕ) × (older : List ℕ) × (a.levels ≡ v ∷ older)
  many : k ≤ latches a.levels

no_fewer : (k x y z : ℕ) → x ≡ y + z → k ≤ z → k ≤ x
no_fewer k x y z e h = omega arith

passes : (k : ℕ) (pairs : List (ℕ × ℕ)) → Alike history_wiring history_wiring (Passes k pairs)
passes k pairs = record {
  lines = λ a b h. ap pad_lines h.same;
  with_level = λ n a b h. record {
    same = ap (with_level n) h.same;
    pairs = h.pairs;
    begun = (n, a.levels, refl);
    many = no_fewer k (latches (n ∷ a.levels)) (if is_fall 2 (h.begun.0, n) then 1 else 0) (latches a.levels)
        (ap (λ ls. latches (n ∷ ls)) h.begun.2 ∙ (latches_more n h.begun.0 h.begun.1 ∙
        ap (λ ls. (if is_fall 2 (h.begun.0, n) then 1 else 0) + latches ls) (sym h.begun.2))) h.many;
  };
}

abbrev HasBegun : PadHistory → Type 0
HasBegun h = (v : ℕ) × (older : List ℕ) × (h.levels ≡ v ∷ older)

turn_latches : (s next : State PadHistory) (edges : List Edge) → MachineTurn s edges next → HasBegun s.space.pads →
    (latches s.space.pads.levels ≤ latches next.space.pads.levels) × HasBegun next.space.pads
turn_latches s next edges turn begun =
    let k = latches s.space.pads.levels in
    let ps = s.space.pads.pairs in
    let start : SpaceAlike (Passes k ps) s.space s.space = record {
      bytes = refl;
      timer = refl;
      pads = record { same = refl; pairs = refl; begun = begun; many = omega arith };
    } in
    let t : TurnAlike (Passes k ps) history_wiring s s.space edges next = turn_alike history_wiring history_wiring (Passes k ps) (passes k ps) s
    s.space start edges next turn in
    (t.alike.pads.many, t.alike.pads.begun)

pub run_latches : (n : ℕ) (s last : State PadHistory) (edges : List Edge) → Run MachineTurn n s edges last → HasBegun s.space.pads →
    latches s.space.pads.levels ≤ latches last.space.pads.levels
run_latches zero s last edges run begun =
    subst (λ (x : State PadHistory). latches s.space.pads.levels ≤ latches x.space.pads.levels) (sym run.1) (omega arith)
run_latches (suc n) s last edges (first, mid, rest, turn, run, cut) begun =
    let one = turn_latches s mid first turn begun in
    let more = run_latches n mid last rest run one.1 in
    omega (arith, one.0, more)

-- The run, turn by turn

same_space : (s : Space PadHistory) (t : Space PadHistory) → s.bytes ≡ t.bytes → s.timer ≡ t.timer →
    t ≡ (let u : Space PadHistory = record { bytes = s.bytes; timer = s.timer; pads = t.pads } in u)
same_space s t bytes timer =
    ap (λ x. let u : Space PadHistory = record { bytes = x; timer = t.timer; pads = t.pads } in u) (sym bytes) ∙
    ap (λ x. let u : Space PadHistory = record { bytes = s.bytes; timer = x; pads = t.pads } in u) (sym timer)

abbrev Finds : ℕ → ℕ → ℕ → List (ℕ × ℕ) → List (ℕ × ℕ) → Type 0
Finds top na nb mine others = (i j : ℕ) → j + na ≡ i + nb → na ≤ i → i ≤ top → pair_of_latch i mine ≡ pair_of_latch j others

run_on : (n top na nb : ℕ) (mine others : PadHistory) → Finds top na nb mine.pairs others.pairs → (s last : State PadHistory) (edges : List Edge)
    (pads : PadHistory) → Run MachineTurn n s edges last → na ≤ latches s.space.pads.levels → latches last.space.pads.levels ≤ top
    → Keeps na nb mine others s.space.pads pads →
    (after : PadHistory) × Run MachineTurn n (with_history pads s) edges (with_history after last)
    × Keeps na nb mine others last.space.pads after
run_on zero top na nb mine others finds s last edges pads run from below keeps = (
  pads,
  (run.0, ap (with_history pads) run.1),
  subst (λ (x : State PadHistory). Keeps na nb mine others x.space.pads pads) (sym run.1) keeps,
)
run_on (suc n) top na nb mine others finds s last edges pads (first, mid, rest, turn, run, cut) from below keeps =
    let a = s.space.pads in
    let one = turn_latches s mid first turn (keeps.present.value, keeps.present.before, keeps.present.a_is) in
    let more = run_latches n mid last rest run one.1 in
    let within : latches a.levels ≤ top = omega (arith, one.0, more, below) in
    let later : na ≤ latches mid.space.pads.levels = omega (arith, one.0, from) in
    let pair : pair_of_latch (latches a.levels) a.pairs ≡ pair_of_latch (latches pads.levels) pads.pairs =
    ap (pair_of_latch (latches a.levels)) keeps.mine_are ∙
    (finds (latches a.levels) (latches pads.levels) keeps.count from within ∙
    ap (pair_of_latch (latches pads.levels)) (sym keeps.others_are)) in
    let other = with_history pads s in
    let start : SpaceAlike (Keeps na nb mine others) s.space other.space = record { bytes = refl; timer = refl; pads = keeps } in
    let t : TurnAlike (Keeps na nb mine others) history_wiring s other.space first mid = turn_from history_wiring history_wiring
    (Keeps na nb mine others) (keeps_on na nb mine others) s other.space (same_lines a pads keeps.present pair) start first mid turn in
    let there : MachineTurn other first (with_history t.after.pads mid) =
    subst (λ (x : Space PadHistory). MachineTurn other first (with_space mid x)) (same_space mid.space t.after t.alike.bytes t.alike.timer) t.turn in
    let all = run_on n top na nb mine others finds mid last rest t.after.pads run later below t.alike.pads in
    (all.0, (first, with_history t.after.pads mid, rest, there, all.1, cut), all.2)

pub runs_alike : (turns : ℕ) (s last : State PadHistory) (edges : List Edge) (pads : PadHistory) → Run MachineTurn turns s edges last
    → SamePresent s.space.pads pads → FindTheSame (latches last.space.pads.levels) s.space.pads pads → RunsAlike turns s edges last pads
runs_alike turns s last edges pads run present finds =
    let na = latches s.space.pads.levels in
    let nb = latches pads.levels in
    let count : nb + na ≡ na + nb = omega arith in
    let start : Keeps na nb s.space.pads pads s.space.pads pads = record {
      mine_are = refl;
      others_are = refl;
      came = [];
      takes = refl;
      others_take = refl;
      present = present;
      count = count;
    } in
    let all = run_on turns (latches last.space.pads.levels) na nb s.space.pads pads (λ i j e from below. finds i j (sym e) from below)
    s last edges pads run (omega arith) (omega arith) start in
    record {
      after = all.0;
      run = all.1;
      present = all.2.present;
      pairs = all.2.others_are;
      came = all.2.came;
      takes = all.2.takes;
      others_take = all.2.others_take;
    }

-- The pairs that a run finds stay

pub run_pairs : (turns : ℕ) (s last : State PadHistory) (edges : List Edge) → Run MachineTurn turns s edges last → HasBegun s.space.pads
    → (last.space.pads.pairs ≡ s.space.pads.pairs) × HasBegun last.space.pads
run_pairs zero s last edges run begun =
    (ap (λ (x : State PadHistory). x.space.pads.pairs) run.1, subst (λ (x : State PadHistory). HasBegun x.space.pads) (sym run.1) begun)
run_pairs (suc n) s last edges (first, mid, rest, turn, run, cut) begun =
    let k = latches s.space.pads.levels in
    let start : SpaceAlike (Passes k s.space.pads.pairs) s.space s.space = record {
      bytes = refl;
      timer = refl;
      pads = record { same = refl; pairs = refl; begun = begun; many = omega arith };
    } in
    let t : TurnAlike (Passes k s.space.pads.pairs) history_wiring s s.space first mid = turn_alike history_wiring history_wiring
    (Passes k s.space.pads.pairs) (passes k s.space.pads.pairs) s s.space start first mid turn in
    let more = run_pairs n mid last rest run t.alike.pads.begun in
    (more.0 ∙ t.alike.pads.pairs, more.1)

-- Runs one after another

pub run_again : (n k : ℕ) (s mid last : State PadHistory) (edges more : List Edge) → Run MachineTurn n s edges mid
    → Run MachineTurn k mid more last → (m : ℕ) × Run MachineTurn m s (edges ++ more) last
run_again zero k s mid last edges more run next =
    (k, subst (λ x. Run MachineTurn k x (edges ++ more) last) run.1 (subst (λ es. Run MachineTurn k mid (es ++ more) last) (sym run.0) next))
run_again (suc n) k s mid last edges more (first, there, rest, turn, run, cut) next =
    let all = run_again n k there mid last rest more run next in
    (suc all.0, (first, there, rest ++ more, turn, all.1, ap (λ es. es ++ more) cut ∙ append_assoc first rest more))
