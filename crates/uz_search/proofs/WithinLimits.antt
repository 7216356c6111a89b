-- Each instance on a trail is within limits.
use Rattle.uz_search.proofs.Common.{◌≡◌, ◌≢◌, ℕ, zero, suc, ◌<◌, ◌≤◌, ◌+◌, ◌-◌, ◌*◌, ◌%◌, List, [], ◌∷◌, map, Some, None, Bool, true, false}
use Rattle.uz_search.proofs.Common.{not, ◌&&◌, ◌||◌, nat_le, nat_lt, refl, sym, ap, ◌∙◌, subst, ⊎_elim, length, slice_get, slice_set}
use Rattle.uz_search.proofs.Common.{slice_index_or, replicate, if◌then◌else◌, true≢false, arith, flat_map, mod-lt, cases_eq, cases_lt}
use Rattle.uz_search.proofs.Common.{cases_Bool, nat_tests, Outcome, clocks_of, words_of, effect_of, EffectFits, Effect, NoOperation, Branch}
use Rattle.uz_search.proofs.Common.{SkipIf, Jump, JumpTarget, Absolute, Relative, Indirect, Ends, hull, is_within, whole_byte, whole_pair}
use Rattle.uz_search.proofs.Common.{tracked, BitFits, HeadFits, spans_fit, OldBit, Val, Range, Old, OldFlags, Head, Kind, Handler, Instance}
use Rattle.uz_search.proofs.Common.{ends, Exit, outcomes, targets, jump_pcs, numbers_from, fail_of, refuse_if, test_of, at_exit}
use Rattle.uz_search.proofs.Common.{clears_flag, exits_of, following_of, sampled_of, byte_hull, pair_range, span_of, value_at, Next}
use Rattle.uz_search.proofs.Common.{Program, Widening, Register, Pair, Among, Flash, Follows, entries, order_of_program, split_at, pieces}
use Rattle.uz_search.proofs.Common.{is_whole, widened_all, widened_by, widened_pair, widened_value, facts_at, widened, ComparedKnown, Each}
use Rattle.uz_search.proofs.Common.{IsOpen, OldFits, loosened, same_Some, slice_get-get_or, length-set, get_or-set_other, get_or-set_same}
use Rattle.uz_core.specs.declared.machine.Effect.TheVariants.{Return}
use Rattle.uz_transfer.specs.Refusals.{target_fails}
use Rattle.uz_search.specs.Limits.{IsWithinLimits, EndedWithinLimits}
use Rattle.uz_core.proofs.EffectRanges.{effect_fits}
use Rattle.uz_schedule.specs.Instances.{hull_at, span_of_val, old_from}
use Rattle.uz_search.proofs.TimerLaws.{refused}
use Rattle.uz_search.proofs.Lists.{append_cases, choose, of_flat, of_map}
use Rattle.uz_search.proofs.OneResult.{Steps, draft_at, steps}
use Rattle.uz_search.proofs.Results.{result, same_kind, back_is_handler}
use Rattle.uz_search.proofs.SearchingLemmas.{tree_all}
use Rattle.uz_search.proofs.Standing.{entry_of}
use Rattle.uz_search.proofs.PiecesLaws.{from_result, result_place}
use Rattle.uz_search.proofs.ComparedLimits.{compared_known, nothing_known}
use Rattle.uz_search.proofs.Loosening.{NearlyKnown, loosened_known, narrowed_nearly}
use Rattle.uz_search.proofs.Known.{Known, each_set, index_each}
use Rattle.uz_search.proofs.MarkingLemmas.{get_set_same, get_set_other}
use Rattle.uz_search.proofs.KnownStep.{transfer_known}
use Rattle.avr_table.specs.declared.Outcome.TheVariants as outcome
use Rattle.uz_transfer.specs.declared.fail.Fail.TheVariants as why

-- Program counters

or_false : (a b : Bool) → (a || b) ≡ false → b ≡ false
or_false true b h = absurd (true≢false h)
or_false false b h = h

number_below : (a n bound pc : ℕ) → a + n ≤ bound → Among (numbers_from a n) pc → pc < bound
number_below a zero bound pc le (i, h) = cc
number_below a (suc n) bound pc le (zero, h) = let same = same_Some a pc h in omega (arith, le, same)
number_below a (suc n) bound pc le (suc i, h) = number_below (suc a) n bound pc (omega (arith, le)) (i, h)

one_pc : (a pc : ℕ) → a < 32768 → Among (a ∷ []) pc → pc < 32768
one_pc a pc below (zero, h) = subst (λ n. n < 32768) (same_Some a pc h) below
one_pc a pc below (suc i, h) = cc

jump_below : (target : JumpTarget) (following pc : ℕ) (x : Instance) → EffectFits (Jump target false) → target_fails target x ≡ false
    → Among (jump_pcs target following x) pc → pc < 32768
jump_below (Absolute k) following pc x fits fine h = one_pc k pc fits h
jump_below (Relative k) following pc x fits fine h = one_pc ((following + k) % 32768) pc (mod-lt (following + k) (omega arith)) h
jump_below Indirect following pc x fits fine h =
    let low : nat_lt 0x7FFF (pair_range x 30).hi ≡ false = or_false (nat_le (16 + (pair_range x 30).lo) (pair_range x 30).hi)
    (nat_lt 0x7FFF (pair_range x 30).hi) fine in
    let few : (pair_range x 30).hi ≤ 0x7FFF = grind (arith, nat_tests) in
    by few h
  where
    lo : ℕ
    lo = (pair_range x 30).lo

    hi : ℕ
    hi = (pair_range x 30).hi

    nothing : Among {A = ℕ} [] pc → ⊥
    nothing (i, e) = cc

    by : hi ≤ 0x7FFF → Among (numbers_from lo (suc hi - lo)) pc → pc < 32768
    by few there = ⊎_elim
        (λ (gt : suc hi < lo). let none : suc hi - lo ≡ 0 = omega (arith, gt) in
        absurd (nothing (subst (λ n. Among (numbers_from lo n) pc) none there)))
        (λ (le : lo ≤ suc hi). number_below lo (suc hi - lo) 32768 pc (omega (arith, le, few)) there)
        (cases_lt (suc hi) lo)

target_below : (head : Head) (e : Effect) (o : Outcome) (following pc : ℕ) (x : Instance) → EffectFits e → fail_of head e x ≡ None
    → following < 32768 → Among (targets e o following x) pc → pc < 32768
target_below head (Branch flag set offset) outcome.Taken following pc x fits fine low h = one_pc ((following + offset) % 32768) pc
    (mod-lt (following + offset) (omega arith)) h
target_below head (Branch flag set offset) outcome.Next following pc x fits fine low h = one_pc following pc low h
target_below head (Branch flag set offset) outcome.SkipOne following pc x fits fine low h = one_pc following pc low h
target_below head (Branch flag set offset) outcome.SkipTwo following pc x fits fine low h = one_pc following pc low h
target_below head (SkipIf test) o following pc x fits fine low h = one_pc _ pc (mod-lt _ (omega arith)) h
target_below head (Jump target call) o following pc x fits fine low h =
    let second = (refused _ why.Stack (refuse_if (target_fails target x) why.Return None) fine).1 in
    jump_below target following pc x fits (refused (target_fails target x) why.Return None second).0 h
target_below head (Return false) o following pc x fits fine low h = one_pc _ pc (mod-lt _ (omega arith)) h
target_below head (Return true) o following pc x fits fine low h = one_pc (x.pc % 32768) pc (mod-lt x.pc (omega arith)) h
target_below head NoOperation o following pc x fits fine low h = one_pc following pc low h
target_below head e o following pc x fits fine low h = one_pc following pc low h

exit_below : (head : Head) (e : Effect) (clocks : Outcome → ℕ) (following : ℕ) (x : Instance) (os : List Outcome) (exit : Exit)
    → EffectFits e → fail_of head e x ≡ None → following < 32768
    → Among (exits_of e clocks following x os) exit → exit.pc < 32768
exit_below head e clocks following x [] exit fits fine low (i, h) = cc
exit_below head e clocks following x (o ∷ os) exit fits fine low (i, h) = ⊎_elim
    (λ here. let t = of_map (λ pc. record { pc = pc; clocks = clocks o }) (targets e o following x) here.0 exit here.1 in
    subst (λ n. n < 32768) (ap (λ (z : Exit). z.pc) t.2) (target_below head e o following t.0 x fits fine low (here.0, t.1)))
    (λ later. exit_below head e clocks following x os exit fits fine low later)
    (append_cases (map (λ pc. record { pc = pc; clocks = clocks o }) (targets e o following x)) (exits_of e clocks following x os) i exit h)

-- Both words for limits

same_span : (v : Val) → span_of v ≡ span_of_val v
same_span (Range e) = refl
same_span (Old r) = refl
same_span OldFlags = refl

same_hull : (regs : List Val) (r : ℕ) → byte_hull regs r ≡ hull_at regs r
same_hull regs r = λ i. hull (same_span (value_at regs r) i) (same_span (value_at regs (r + 1)) i)

pub known_of : (p : Program) (x : Instance) → IsWithinLimits p x → Known p.head x.kind x
known_of p x h = record {
  register_count = h.register_count;
  registers = h.registers;
  pair_count = h.pair_count;
  hulls = λ k few at. subst IsOpen (sym (same_hull x.regs (26 + 2 * k))) (h.hulls k few at);
  flag_count = h.flag_count;
  flags = h.flags;
  slots = h.slots;
  stack = h.stack;
  cells = h.cells;
}

pub within_of : (p : Program) (x : Instance) → x.pc < 32768 → ComparedKnown p.head.version x.kind x.compared → Known p.head x.kind x
    → IsWithinLimits p x
within_of p x pc compared h = record {
  pc = pc;
  register_count = h.register_count;
  registers = h.registers;
  pair_count = h.pair_count;
  hulls = λ k few at. subst IsOpen (same_hull x.regs (26 + 2 * k)) (h.hulls k few at);
  flag_count = h.flag_count;
  flags = h.flags;
  compared = compared;
  slots = h.slots;
  stack = h.stack;
  cells = h.cells;
}

-- a result, before it is loosened
record NearlyWithin (p : Program) (x : Instance) : Type 0 where
  pc : x.pc < 32768
  compared : ComparedKnown p.head.version x.kind x.compared
  known : NearlyKnown p.head x.kind x

-- Widening

-- every number of a byte's range stays in it
abbrev Wider : Val → Val → Type 0
Wider v w = ((span_of w).lo ≤ (span_of v).lo) × ((span_of v).hi ≤ (span_of w).hi)

value_wider : (fact : Ends) (v : Val) → Wider v (widened_value fact v)
value_wider fact (Old r) = (omega arith, omega arith)
value_wider fact OldFlags = (omega arith, omega arith)
value_wider fact (Range e) = by (is_within e fact) refl
  where
    by : (b : Bool) → is_within e fact ≡ b → Wider (Range e) (if b then Range fact else Range e)
    by true is = (grind (arith, nat_tests), grind (arith, nat_tests))
    by false is = (omega arith, omega arith)

value_old : (kind : Kind) (fact : Ends) (v : Val) → OldFits kind v → OldFits kind (widened_value fact v)
value_old kind fact (Old r) h = h
value_old kind fact OldFlags h = h
value_old kind fact (Range e) h = choose (OldFits kind) (is_within e fact) (Range fact) (Range e) tt tt

set_wider : (regs : List Val) (r j : ℕ) (w : Val) → r < length regs → Wider (value_at regs r) w → Wider (value_at regs j)
    (value_at (slice_set regs r w) j)
set_wider regs r j w low wide = ⊎_elim
    (λ (same : j ≡ r). subst (λ m. Wider (value_at regs m) (value_at (slice_set regs r w) m)) (sym same)
    (subst (Wider (value_at regs r)) (sym (get_or-set_same regs r w (Range (ends 0 255)) low)) wide))
    (λ (other : j ≢ r). subst (Wider (value_at regs j)) (sym (get_or-set_other regs r j w (Range (ends 0 255)) other))
    (omega arith, omega arith))
    (cases_eq j r)

hull_wider : (a b c d : Val) → Wider a c → Wider b d → IsOpen (hull (span_of a) (span_of b)) → IsOpen (hull (span_of c) (span_of d))
hull_wider a b c d low high is = (omega (arith, low.0, high.0, is.0), omega (arith, low.1, high.1, is.1))

pair_whole : (fact e : Ends) → widened_pair fact e ≡ whole_pair → e ≡ whole_pair
pair_whole fact e = by (is_whole fact) refl (is_within e fact)
  where
    by : (a : Bool) → is_whole fact ≡ a → (b : Bool) → (if not a && b then fact else e) ≡ whole_pair → e ≡ whole_pair
    by true is b h = h
    by false is false h = h
    by false is true h = absurd (true≢false (sym (ap is_whole h) ∙ is))

module _ (head : Head) (kind : Kind) where
  fact_known : (fact : Widening) (x : Instance) → Known head kind x → Known head kind (widened_by fact x)
  unfolding widened_by
  fact_known (Register r fact) x h = by (nat_lt r 32) refl
    where
      w : Val
      w = widened_value fact (slice_index_or x.regs r (Range whole_byte))

      regs : List Val
      regs = slice_set x.regs r (widened_value fact (slice_index_or x.regs r (Range whole_byte)))

      open_still : r < 32 → (k : ℕ) → k < 3 → slice_get x.pairs k ≡ Some whole_pair
          → IsOpen (byte_hull (slice_set x.regs r (widened_value fact (slice_index_or x.regs r (Range whole_byte)))) (26 + 2 * k))
      open_still low k few at =
          let len = h.register_count in
          let wide = value_wider fact (slice_index_or x.regs r (Range whole_byte)) in
          let v : Val = widened_value fact (slice_index_or x.regs r (Range whole_byte)) in
          hull_wider (value_at x.regs (26 + 2 * k)) (value_at x.regs (26 + 2 * k + 1)) (value_at (slice_set x.regs r v) (26 + 2 * k))
          (value_at (slice_set x.regs r v) (26 + 2 * k + 1))
          (set_wider x.regs r (26 + 2 * k) v (omega (arith, len, low)) wide)
          (set_wider x.regs r (26 + 2 * k + 1) v (omega (arith, len, low)) wide) (h.hulls k few at)

      by : (b : Bool) → nat_lt r 32 ≡ b → Known head kind
          (if b then record x { regs = slice_set x.regs r (widened_value fact (slice_index_or x.regs r (Range whole_byte))) } else x)
      by true is = record {
        register_count = length-set x.regs r (widened_value fact (slice_index_or x.regs r (Range whole_byte))) ∙ h.register_count;
        registers = each_set (OldFits kind) x.regs r (widened_value fact (slice_index_or x.regs r (Range whole_byte))) h.registers
            (value_old kind fact (slice_index_or x.regs r (Range whole_byte)) (index_each (OldFits kind) x.regs r (Range whole_byte)
            h.registers tt));
        pair_count = h.pair_count;
        hulls = open_still (grind (arith, nat_tests));
        flag_count = h.flag_count;
        flags = h.flags;
        slots = h.slots;
        stack = h.stack;
        cells = h.cells;
      }
      by false is = h
  fact_known (Pair n fact) x h = by (nat_lt n 3) refl
    where
      open_still : n < 3 → (k : ℕ) → k < 3 → slice_get (slice_set x.pairs n (widened_pair fact (slice_index_or x.pairs n whole_pair)))
          k ≡ Some whole_pair → IsOpen (byte_hull x.regs (26 + 2 * k))
      open_still low k few at = ⊎_elim
          (λ (same : k ≡ n).
          let len = h.pair_count in
          let e : Ends = widened_pair fact (slice_index_or x.pairs n whole_pair) in
          let here : e ≡ whole_pair = same_Some e whole_pair (sym (get_set_same x.pairs n e (omega (arith, len, low)))
          ∙ ap (slice_get (slice_set x.pairs n e)) (sym same) ∙ at) in
          let old : slice_index_or x.pairs n whole_pair ≡ whole_pair = pair_whole fact (slice_index_or x.pairs n whole_pair) here in
          h.hulls k few (ap (slice_get x.pairs) same ∙ slice_get-get_or x.pairs n whole_pair (omega (arith, len, low)) ∙ ap Some old))
          (λ (other : k ≢ n). h.hulls k few (sym (get_set_other x.pairs n k (widened_pair fact (slice_index_or x.pairs n whole_pair)) other)
          ∙ at))
          (cases_eq k n)

      by : (b : Bool) → nat_lt n 3 ≡ b → Known head kind
          (if b then record x { pairs = slice_set x.pairs n (widened_pair fact (slice_index_or x.pairs n whole_pair)) } else x)
      by true is = record {
        register_count = h.register_count;
        registers = h.registers;
        pair_count = length-set x.pairs n (widened_pair fact (slice_index_or x.pairs n whole_pair)) ∙ h.pair_count;
        hulls = open_still (grind (arith, nat_tests));
        flag_count = h.flag_count;
        flags = h.flags;
        slots = h.slots;
        stack = h.stack;
        cells = h.cells;
      }
      by false is = h

  facts_known : (facts : List Widening) (x : Instance) → Known head kind x → Known head kind (widened_all facts x)
  facts_known [] x h = h
  facts_known (fact ∷ facts) x h = facts_known facts (widened_by fact x) (fact_known fact x h)

  pub widened_known : (p : Program) (x : Instance) → NearlyKnown head kind x → Known head kind (widened p x)
  unfolding widened
  widened_known p x h = facts_known (facts_at p x.pc) (loosened x) (loosened_known head kind x h)

-- The handler's entry

old_each : (k n : ℕ) → k + n ≤ 32 → Each (OldFits Handler) (old_from k n)
old_each k zero le i v h = cc
old_each k (suc n) le zero v h = subst (OldFits Handler) (same_Some (Old k) v h) (refl, omega (arith, le))
old_each k (suc n) le (suc i) v h = old_each (suc k) n (omega (arith, le)) i v h

entry_known : (p : Program) (end e : Instance) → NearlyWithin p end → end.kind ≡ Handler → Among (entries p end) e → IsWithinLimits p e
entry_known p end e h handler there =
    let it = entry_of p end e there in
    subst (IsWithinLimits p) it.is (record {
      pc = omega arith;
      register_count = refl;
      registers = old_each 0 32 (omega arith);
      pair_count = refl;
      hulls = open_all;
      flag_count = refl;
      flags = old_flags;
      compared = nothing_known p.head.version Handler;
      slots = omega arith;
      stack = λ i v at. cc;
      cells = subst (λ k. spans_fit (tracked p.head k) end.cells.items ≡ true) handler h.known.cells;
    })
  where
    open_all : (k : ℕ) → k < 3 → slice_get (whole_pair ∷ whole_pair ∷ whole_pair ∷ []) k ≡ Some whole_pair
        → IsOpen (hull_at (old_from 0 32) (26 + 2 * k))
    open_all zero few at = (refl, omega arith)
    open_all (suc zero) few at = (refl, omega arith)
    open_all (suc (suc zero)) few at = (refl, omega arith)
    open_all (suc (suc (suc k))) few at = absurd (omega (arith, few))

    old_flags : Each (BitFits Handler) (replicate 7 OldBit)
    old_flags zero b at = subst (BitFits Handler) (same_Some OldBit b at) refl
    old_flags (suc zero) b at = subst (BitFits Handler) (same_Some OldBit b at) refl
    old_flags (suc (suc zero)) b at = subst (BitFits Handler) (same_Some OldBit b at) refl
    old_flags (suc (suc (suc zero))) b at = subst (BitFits Handler) (same_Some OldBit b at) refl
    old_flags (suc (suc (suc (suc zero)))) b at = subst (BitFits Handler) (same_Some OldBit b at) refl
    old_flags (suc (suc (suc (suc (suc zero))))) b at = subst (BitFits Handler) (same_Some OldBit b at) refl
    old_flags (suc (suc (suc (suc (suc (suc zero)))))) b at = subst (BitFits Handler) (same_Some OldBit b at) refl
    old_flags (suc (suc (suc (suc (suc (suc (suc i))))))) b at = cc

-- Results

within_next : (image : Flash) (p : Program) (x : Instance) (next : Next) → HeadFits p.head → IsWithinLimits p x → (s : Steps image p x next)
    → (y : Instance) → Among next.out.items y → NearlyWithin p y
within_next image p x next fits h s y there =
    let r = result image p x next s y there in
    let e : Effect = effect_of s.row in
    let known = transfer_known p.head x (known_of p x h) image (following_of (words_of s.row) x)
    (sampled_of ((order_of_program p).length x.line) e (clocks_of s.row) x) e fits s.fails in
    let z : Instance = at_exit (order_of_program p) x (draft_at image p x s.row) s.emitted (clears_flag e x) r.exit in
    let nearly : NearlyKnown p.head x.kind y = narrowed_nearly p.head x.kind (test_of p.head e x) r.exit z y (record {
      register_count = known.register_count;
      registers = known.registers;
      pair_count = known.pair_count;
      flag_count = known.flag_count;
      flags = known.flags;
      slots = known.slots;
      stack = known.stack;
      cells = known.cells;
    }) r.left in
    let low : r.exit.pc < 32768 =
    exit_below p.head e (clocks_of s.row) (following_of (words_of s.row) x) x (outcomes image (following_of (words_of s.row) x) e x) r.exit
    (effect_fits s.row) s.fails (mod-lt (x.pc + words_of s.row) (omega arith)) r.there in
    let kind = sym (same_kind image p x next s y there) in
    record {
      pc = subst (λ (v : Instance). v.pc < 32768) r.is low;
      compared = subst (λ k. ComparedKnown p.head.version k y.compared) kind
          (subst (λ (v : Instance). ComparedKnown p.head.version x.kind v.compared) r.is
          (compared_known p.head e x (effect_fits s.row) h.compared));
      known = subst (λ k. NearlyKnown p.head k y) kind nearly;
    }

within_more : (image : Flash) (p : Program) (x y : Instance) → HeadFits p.head → IsWithinLimits p x → Follows image p x y → IsWithinLimits p
    y
within_more image p x y fits h follows = ⊎_elim
    (λ (back : next.back ≡ true).
    let flat : Among (flat_map (entries p) next.out.items) y = subst (λ l. Among l y)
    (ap (λ b. if b then flat_map (entries p) next.out.items else map (widened p) (pieces (split_at p x) next.out.items)) back) follows.is in
    let from = of_flat (entries p) next.out.items y flat in
    entry_known p from.0 y (within_next image p x next fits h s from.0 from.1) (same_kind image p x next s from.0 from.1 ∙ back_is_handler
    image p x next s back) from.2)
    (λ (back : next.back ≡ false).
    let f = from_result p x next y back follows.is in
    let z = f.piece in
    let w = within_next image p x next fits h s f.result f.there in
    let same = result_place p x next y f in
    subst (IsWithinLimits p) f.is (within_of p (widened p z) (subst (λ (v : Instance). v.pc < 32768) (sym f.is)
    (subst (λ n. n < 32768) (sym same.pc) w.pc))
    (subst (λ (v : Instance). ComparedKnown p.head.version v.kind v.compared) (sym f.is)
    (subst (λ c. ComparedKnown p.head.version y.kind c) (sym same.compared)
    (subst (λ k. ComparedKnown p.head.version k f.result.compared) (sym same.kind) w.compared)))
    (subst (λ k. Known p.head k (widened p z)) (sym same.kind ∙ sym (ap (λ (v : Instance). v.kind) f.is))
    (widened_known p.head f.result.kind p z (f.is_piece.nearly p.head f.result.kind w.known)))))
    (cases_Bool next.back)
  where
    next : Next
    next = follows.next

    s : Steps image p x next
    s = steps image p x next follows.after

pub ended_within : EndedWithinLimits
ended_within image p found x fits starts ended node =
    tree_all image p (IsWithinLimits p) starts (λ a b h follows. within_more image p a b fits.head h follows) found.nodes.keys
    found.parents.items ended.tree x node
