-- The points of instances are within a certificate's limits.
use Rattle.std.proofs.Common.{◌≡◌, ◌≢◌, ◌∙◌, sym, ap, refl, arith, inl, inr, ◌⊎◌, ℕ, zero, suc, ◌+◌, ◌*◌, ◌<◌, ◌≤◌, Bool, true}
use Rattle.std.proofs.Common.{false, List, [], ◌∷◌, map, All, length, get_or, subst, if◌then◌else◌}
use Rattle.std.specs.Prelude.{Option, None, Some, ◌&&◌, nat_eq, nat_lt, slice_get, slice_index_or, replicate}
use Rattle.std.proofs.lemmas.Bool.Decides.{nat_tests}
use Rattle.std.proofs.lemmas.List.{length-map}
use Rattle.std.proofs.lemmas.List.Elements.{All-cons, All-nil}
use Rattle.std.proofs.lemmas.Option.{slice_get-get_or}
use Rattle.std.proofs.lemmas.Bool.{and_parts}
use Rattle.uz_schedule.specs.Ends.{Ends, whole_byte, whole_pair}
use Rattle.uz_schedule.specs.Limits.{clock_limit, is_top}
use Rattle.uz_schedule.specs.Instances.{hull_at, span_of_val, val_at}
use Rattle.uz_schedule.specs.Tracked.{tracked}
use Rattle.uz_schedule.specs.WellFormed.{BitFits, CellFactFits, FactFits, PairFits, PartFits, PointFits, PointKindFits, IsTimerLeftOut}
use Rattle.uz_schedule.specs.WellFormed.{ComparedFits, RulesFit, SplitFits}
use Rattle.uz_schedule.specs.WellFormed.{RangeFits, is_carry_and_zero_default, is_zero_or_one, spans_fit}
use Rattle.uz_schedule.specs.declared.facts.Bit.TheVariants.{Old as OldBit}
use Rattle.uz_schedule.specs.declared.facts.Compared.{Compared}
use Rattle.uz_schedule.specs.declared.facts.Compared.TheVariants.{Byte, Nothing, Pair as ComparedPair, PairResult, Result, Value}
use Rattle.uz_schedule.specs.declared.facts.Fact.TheVariants.{Any, Between, Old as OldFact}
use Rattle.uz_schedule.specs.declared.facts.PairFact.{PairFact}
use Rattle.uz_schedule.specs.declared.facts.PairFact.TheVariants.{Any as AnyPair, Between as BetweenPair, Loop as LoopPair}
use Rattle.uz_schedule.specs.declared.facts.Val.{Val}
use Rattle.uz_schedule.specs.declared.facts.Val.TheVariants.{Range, Old, OldFlags}
use Rattle.uz_schedule.specs.declared.header.Cell.{Cell}
use Rattle.uz_schedule.specs.declared.kinds.Kind.{Kind}
use Rattle.uz_schedule.specs.declared.kinds.Kind.TheVariants.{Main, Handler, Alone}
use Rattle.uz_schedule.specs.declared.kinds.RuleVersion.{RuleVersion}
use Rattle.uz_schedule.specs.declared.kinds.RuleVersion.TheVariants.{Two, Three}
use Rattle.uz_schedule.specs.declared.states.Instance.{Instance}
use Rattle.uz_schedule.specs.declared.states.Point.{Point}
use Rattle.uz_transfer.specs.Kinds.{is_main}
use Rattle.uz_search.specs.Following.{lines_of, split_at}
use Rattle.uz_search.specs.Pieces.{split_in}
use Rattle.uz_search.specs.declared.program.Program.{Program}
use Rattle.uz_search.specs.Fitting.{Stands}
use Rattle.uz_search.proofs.Lists.{of_map}
use Rattle.uz_search.specs.Limits.{ComparedIsThere, ComparedKnown, IsOpen, IsWithinLimits, OldFits}
use Rattle.uz_paths.specs.Linked.{SuccessorsFit}
use Rattle.uz_paths.specs.Splits.{SplitsFit}
use Rattle.uz_join.specs.Points.{AreOrdered, AreOrderedVals, IsOrdered, IsOrderedCompared, IsOrderedVal, byte_fact, fact_of, old_facts}
use Rattle.uz_join.specs.Points.{pair_fact, point_of, range_fact, same_ends, vector_point}
use Rattle.uz_paths.proofs.SameInstance.{ends_same, eq_of}

-- Elements

pub all_of : {A : Type 0} (P : A → Type 0) (xs : List A) → ((i : ℕ) (x : A) → slice_get xs i ≡ Some x → P x) → All P xs
all_of P xs each k d within = each k (get_or xs k d) (slice_get-get_or xs k d within)

mapped : {A B : Type 0} (P : B → Type 0) (f : A → B) (xs : List A) → ((i : ℕ) (x : A) → slice_get xs i ≡ Some x → P (f x))
    → All P (map f xs)
mapped P f xs each = all_of P (map f xs) (λ i y at. let x = of_map f xs i y at in subst P x.2 (each i x.0 x.1))

-- Facts

apart : (a b : ℕ) → nat_eq a b ≡ false → a ≢ b
apart a b e = grind (arith, nat_tests)

-- a range that isn't the whole one
part : (top : ℕ) (e : Ends) → RangeFits top e → (nat_eq e.lo 0 && nat_eq e.hi top) ≡ false → PartFits top e
part top e range partial = record { range = range; part = by (nat_eq e.lo 0) refl partial }
  where
    by : (b : Bool) → nat_eq e.lo 0 ≡ b → (b && nat_eq e.hi top) ≡ false → (0 < e.lo) ⊎ (e.hi < top)
    by true is not = let other = apart e.hi top not in let high = range.high in inr (omega arith)
    by false is not = let other = apart e.lo 0 is in inl (omega arith)

byte_fits : (kind : Kind) (e : Ends) → RangeFits 255 e → FactFits kind (byte_fact e)
byte_fits kind e range = by (nat_eq e.lo 0 && nat_eq e.hi 255) refl
  where
    by : (b : Bool) → (nat_eq e.lo 0 && nat_eq e.hi 255) ≡ b → FactFits kind (if b then Any else Between e)
    by true is = tt
    by false is = part 255 e range is

cell_fits : (e : Ends) → RangeFits 255 e → CellFactFits (byte_fact e)
cell_fits e range = by (nat_eq e.lo 0 && nat_eq e.hi 255) refl
  where
    by : (b : Bool) → (nat_eq e.lo 0 && nat_eq e.hi 255) ≡ b → CellFactFits (if b then Any else Between e)
    by true is = tt
    by false is = part 255 e range is

fact_fits : (kind : Kind) (v : Val) → OldFits kind v → IsOrderedVal v → FactFits kind (fact_of v)
fact_fits kind (Range e) old range = byte_fits kind e range
fact_fits kind (Old r) old range = old
fact_fits kind OldFlags old range = old

range_fits : (ambiguous : Bool) (e : Ends) → RangeFits 65535 e → (nat_eq e.lo 0 && nat_eq e.hi 65535) ≡ false
    → PairFits (range_fact ambiguous e)
range_fits ambiguous e range partial = by (ambiguous && (nat_eq e.lo e.hi && nat_lt e.hi 2)) refl
  where
    by : (b : Bool) → (ambiguous && (nat_eq e.lo e.hi && nat_lt e.hi 2)) ≡ b → PairFits (if b then LoopPair 1 e.lo else BetweenPair e)
    by true is = let order = range.order in let high = range.high in record {
      some = omega arith;
      factor = omega arith;
      offset = omega arith;
    }
    by false is = part 65535 e range partial

pair_fits : (ambiguous : Bool) (hull e : Ends) → RangeFits 65535 e → (e ≡ whole_pair → hull ≡ whole_pair)
    → PairFits (pair_fact ambiguous hull e)
pair_fits ambiguous hull e range whole = by (same_ends e hull) refl
  where
    not_whole : same_ends e hull ≡ false → (b : Bool) → (nat_eq e.lo 0 && nat_eq e.hi 65535) ≡ b → b ≡ false
    not_whole differ false is = refl
    not_whole differ true is =
        let parts = and_parts (nat_eq e.lo 0) (nat_eq e.hi 65535) is in
        let all : e ≡ whole_pair = ends_same e whole_pair (eq_of e.lo 0 parts.0) (eq_of e.hi 65535 parts.1) in
        let one : same_ends whole_pair whole_pair ≡ false = subst (λ z. same_ends whole_pair z ≡ false) (whole all)
        (subst (λ z. same_ends z hull ≡ false) all differ) in
        absurd (cc)

    by : (b : Bool) → same_ends e hull ≡ b → PairFits (if b then AnyPair else range_fact ambiguous e)
    by true is = tt
    by false is = range_fits ambiguous e range (let t = not_whole is (nat_eq e.lo 0 && nat_eq e.hi 65535) refl in t)

and_false : (b : Bool) → (b && false) ≡ false
and_false true = refl
and_false false = refl

-- no pair is said in the way that the text would take for a flag
has_text : (ambiguous : Bool) (hull e : Ends) → (is_zero_or_one (pair_fact ambiguous hull e) && ambiguous) ≡ false
has_text false hull e = and_false (is_zero_or_one (pair_fact false hull e))
has_text true hull e = by (same_ends e hull)
  where
    between : (b : Bool) → (nat_eq e.lo e.hi && nat_lt e.hi 2) ≡ b → (is_zero_or_one (if b then LoopPair 1 e.lo else BetweenPair e) && true)
        ≡ false
    between true is = refl
    between false is = ap (λ b. b && true) is

    by : (b : Bool) → (is_zero_or_one (if b then AnyPair else range_fact true e) && true) ≡ false
    by true = refl
    by false = between (nat_eq e.lo e.hi && nat_lt e.hi 2) refl

-- Pairs

span_fits : (v : Val) → IsOrderedVal v → RangeFits 255 (span_of_val v)
span_fits (Range e) range = range
span_fits (Old r) range = record { order = omega arith; high = omega arith }
span_fits OldFlags range = record { order = omega arith; high = omega arith }

-- a hull that is open is the whole range
open_whole : (regs : List Val) (r : ℕ) → length regs ≡ 32 → r + 1 < 32 → AreOrderedVals regs → IsOpen (hull_at regs r)
    → hull_at regs r ≡ whole_pair
open_whole regs r count inside ordered wide =
    let low = (span_fits (val_at regs r) (ordered r (val_at regs r) (slice_get-get_or regs r (Range whole_byte) (omega arith)))).high in
    let high = (span_fits (val_at regs (r + 1))
    (ordered (r + 1) (val_at regs (r + 1)) (slice_get-get_or regs (r + 1) (Range whole_byte) (omega arith)))).high in
    let begin = wide.0 in
    let end = wide.1 in
    ends_same (hull_at regs r) whole_pair begin (omega arith)

-- Cells

spans_count : (cells : List Cell) (spans : List Ends) → spans_fit cells spans ≡ true → length spans ≡ length cells
spans_count [] [] h = refl
spans_count [] (e ∷ spans) h = absurd (cc)
spans_count (c ∷ cells) [] h = absurd (cc)
spans_count (c ∷ cells) (e ∷ spans) h = ap suc (spans_count cells spans (and_parts _ (spans_fit cells spans) h).1)

three_fit : (a b c : PairFact) → PairFits a → PairFits b → PairFits c → All PairFits (a ∷ b ∷ c ∷ [])
three_fit a b c h k l = All-cons PairFits a (b ∷ c ∷ []) h (All-cons PairFits b (c ∷ []) k (All-cons PairFits c [] l (All-nil PairFits)))

-- Points

main_handler : Main ≡ Handler → ⊥
main_handler e = cc

alone_handler : Alone ≡ Handler → ⊥
alone_handler e = cc

-- What is known of comparisons

compared_fits : (c : Compared) → ComparedIsThere c → IsOrderedCompared c → ComparedFits c
compared_fits Nothing there ordered = tt
compared_fits (Byte d source) there ordered = there
compared_fits (ComparedPair d low high) there ordered = there
compared_fits (Result d k old) there ordered = (there.0, there.1, ordered)
compared_fits (PairResult d k old) there ordered = (there.0, there.1, ordered)
compared_fits (Value d) there ordered = there

-- only main is split, by registers, and only version 3 knows of it
abbrev pub SplitKnown : RuleVersion → Kind → Option ℕ → Type 0
SplitKnown version kind split = (r : ℕ) → split ≡ Some r → (kind ≡ Main) × (r < 32) × (version ≡ Three)

pub split_known : (p : Program) (x : Instance) → SplitsFit p → SplitKnown p.head.version x.kind (split_at p x)
split_known p x fit r e = by x.kind e
  where
    by : (k : Kind) → (if is_main k then split_in p.splits x.pc else None) ≡ Some r → (k ≡ Main) × (r < 32) × (p.head.version ≡ Three)
    by Main e = let f = fit x.pc r e in (refl, f.0, f.1)
    by Handler e = absurd (cc)
    by Alone e = absurd (cc)

whole_of : (split : Option ℕ) → ((r : ℕ) → split ≡ Some r → ⊥) → split ≡ None
whole_of None h = refl
whole_of (Some r) h = absurd (h r refl)

split_fits : (version : RuleVersion) (kind : Kind) (split : Option ℕ) → SplitKnown version kind split → SplitFits split
split_fits version kind None known = tt
split_fits version kind (Some r) known = (known r refl).1

pub known_fits : (version : RuleVersion) (kind : Kind) (p : Point) → SplitKnown version kind p.split → ComparedKnown version kind p.compared
    → IsOrderedCompared p.compared → RulesFit version kind p
known_fits Two kind p split known ordered = (known, whole_of p.split (λ r e. let three : Two ≡ Three = (split r e).2 in cc))
known_fits Three Main p split known ordered = (compared_fits p.compared known ordered, split_fits Three Main p.split split)
known_fits Three Handler p split known ordered = (known, whole_of p.split (λ r e. let main : Handler ≡ Main = (split r e).0 in cc))
known_fits Three Alone p split known ordered = (known, whole_of p.split (λ r e. let main : Alone ≡ Main = (split r e).0 in cc))

handler_fits : (version : RuleVersion) (p : Point) → p.compared ≡ Nothing → p.split ≡ None → RulesFit version Handler p
handler_fits Two p nothing whole = (nothing, whole)
handler_fits Three p nothing whole = (nothing, whole)

pub own_fits : (p : Program) (count : ℕ) (x : Instance) (next : List ℕ) (split : Option ℕ) → SplitKnown p.head.version x.kind split
    → Stands p x → IsWithinLimits p x
    → x.clock < clock_limit → IsOrdered x → SuccessorsFit count next → PointFits p.head (lines_of p) count
    (record (point_of x next) { split = split })
own_fits p count x next split known stands limits early ordered names = record {
  kind = kind x.kind refl;
  rules = known_fits p.head.version x.kind (record (point_of x next) { split = split }) known limits.compared ordered.compared;
  pc = limits.pc;
  box = record {
    line_order = omega arith;
    line = stands.line;
    count_order = omega arith;
    count = omega arith;
    clock = early;
    slope = omega arith;
  };
  core = record {
    register_count = length-map x.regs fact_of ∙ limits.register_count;
    registers = mapped (FactFits x.kind) fact_of x.regs (λ i v at. fact_fits x.kind v (limits.registers i v at) (ordered.registers i v at));
    pair_count = refl;
    pairs = three_fit
        (pair_fact false (hull_at x.regs 26) (slice_index_or x.pairs 0 whole_pair))
        (pair_fact false (hull_at x.regs 28) (slice_index_or x.pairs 1 whole_pair))
        (pair_fact (is_carry_and_zero_default x.kind x.flags) (hull_at x.regs 30) (slice_index_or x.pairs 2 whole_pair))
        (pair 0 false (omega arith)) (pair 1 false (omega arith)) (pair 2 (is_carry_and_zero_default x.kind x.flags) (omega arith));
    flag_count = limits.flag_count;
    flags = all_of (BitFits x.kind) x.flags limits.flags;
    text = has_text (is_carry_and_zero_default x.kind x.flags) (hull_at x.regs 30) (slice_index_or x.pairs 2 whole_pair);
  };
  memory = record {
    slots = (let few = limits.slots in let same = length-map x.stack.items fact_of in omega arith);
    stack = mapped (FactFits x.kind) fact_of x.stack.items (λ i v at. fact_fits x.kind v (limits.stack i v at) (ordered.stack i v at));
    cell_count = length-map x.cells.items byte_fact ∙ spans_count (tracked p.head x.kind) x.cells.items limits.cells;
    cells = mapped CellFactFits byte_fact x.cells.items (λ i e at. cell_fits e (ordered.cells i e at));
  };
  next = record { few = names.few; there = names.there; rise = names.rise };
}
  where
    left_out : x.kind ≢ Handler → IsTimerLeftOut (record (point_of x next) { split = split })
    left_out other = record { top = (stands.timer other).0; temp = (stands.timer other).1 }

    kind : (k : Kind) → x.kind ≡ k → PointKindFits x.kind (record (point_of x next) { split = split })
    kind Main is = subst (λ k. PointKindFits k (record (point_of x next) { split = split })) (sym is) (
      record {
        first_line = (stands.main is).0;
        last_line = (stands.main is).0;
        first_count = refl;
        last_count = refl;
        clock = (stands.main is).1;
        slope = refl;
        pending = stands.pending (λ h. main_handler (sym is ∙ h));
      },
      left_out (λ h. main_handler (sym is ∙ h)),
    )
    kind Handler is = subst (λ k. PointKindFits k (record (point_of x next) { split = split })) (sym is) (record { top = stands.top; temp = ordered.temp })
    kind Alone is = subst (λ k. PointKindFits k (record (point_of x next) { split = split })) (sym is)
        (stands.pending (λ h. alone_handler (sym is ∙ h)), left_out (λ h. alone_handler (sym is ∙ h)))

    at : (k : ℕ) → k < 3 → slice_get x.pairs k ≡ Some (slice_index_or x.pairs k whole_pair)
    at k less = slice_get-get_or x.pairs k whole_pair (let three = limits.pair_count in omega arith)

    pair : (k : ℕ) (b : Bool) → k < 3 → PairFits (pair_fact b (hull_at x.regs (26 + 2 * k)) (slice_index_or x.pairs k whole_pair))
    pair k b less = pair_fits b (hull_at x.regs (26 + 2 * k)) (slice_index_or x.pairs k whole_pair)
        (ordered.pairs k (slice_index_or x.pairs k whole_pair) (at k less))
        (λ whole. open_whole x.regs (26 + 2 * k) limits.register_count (omega arith) ordered.registers
        (limits.hulls k less (at k less ∙ ap (λ e. Some e) whole)))

old_fits : (k n : ℕ) → k + n ≤ 32 → All (FactFits Handler) (old_facts k n)
old_fits k zero h = All-nil (FactFits Handler)
old_fits k (suc n) h = All-cons (FactFits Handler) (OldFact k) (old_facts (suc k) n) (refl, omega arith) (old_fits (suc k) n (omega arith))

old_flags : (n : ℕ) → All (BitFits Handler) (replicate n OldBit)
old_flags zero = All-nil (BitFits Handler)
old_flags (suc n) = All-cons (BitFits Handler) OldBit (replicate n OldBit) refl (old_flags n)

pub vector_fits : (p : Program) (count : ℕ) (cells : List Ends) (line response top : ℕ) (next : List ℕ) → line < lines_of p
    → response < clock_limit → is_top top ≡ true
    → spans_fit (tracked p.head Handler) cells ≡ true → AreOrdered 255 cells → SuccessorsFit count next
    → PointFits p.head (lines_of p) count (vector_point cells line response top next)
vector_fits p count cells line response top next below less last fit ordered names = record {
  kind = record { top = last; temp = record { order = omega arith; high = omega arith } };
  rules = handler_fits p.head.version (vector_point cells line response top next) refl refl;
  pc = omega arith;
  box = record {
    line_order = omega arith;
    line = below;
    count_order = omega arith;
    count = omega arith;
    clock = less;
    slope = omega arith;
  };
  core = record {
    register_count = refl;
    registers = old_fits 0 32 (omega arith);
    pair_count = refl;
    pairs = three_fit AnyPair AnyPair AnyPair tt tt tt;
    flag_count = refl;
    flags = old_flags 7;
    text = refl;
  };
  memory = record {
    slots = omega arith;
    stack = All-nil (FactFits Handler);
    cell_count = length-map cells byte_fact ∙ spans_count (tracked p.head Handler) cells fit;
    cells = mapped CellFactFits byte_fact cells (λ i e at. cell_fits e (ordered i e at));
  };
  next = record { few = names.few; there = names.there; rise = names.rise };
}
