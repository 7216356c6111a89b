-- The starts of a search are within a certificate's limits, and the entry is one of them.
use Rattle.std.proofs.Common.{◌≡◌, ◌≢◌, ◌∙◌, sym, ap, refl, arith, ℕ, zero, suc, ◌+◌, ◌*◌, ◌<◌, ◌≤◌, Bool, true, false, List, [], ◌∷◌, map}
use Rattle.std.proofs.Common.{filter, All, length, subst, if◌then◌else◌}
use Rattle.std.specs.Prelude.{Some, ◌&&◌, nat_le, slice_get, replicate}
use Rattle.std.proofs.lemmas.Bool.Decides.{nat_tests}
use Rattle.std.proofs.lemmas.List.{length-map}
use Rattle.std.proofs.lemmas.List.Elements.{All-cons, All-head, All-nil, All-tail}
use Rattle.uz_schedule.specs.Ends.{Ends, whole_pair}
use Rattle.uz_schedule.specs.Instances.{entry_instance_at, hull_at, old_from}
use Rattle.uz_schedule.specs.Tracked.{tracked, tracks}
use Rattle.uz_schedule.specs.WellFormed.{BitFits, CellFits, EntryFactsFit, EntryKindFits, HeadFits, RangeFits, spans_fit}
use Rattle.uz_schedule.specs.declared.facts.Bit.TheVariants.{Free, Old as OldBit}
use Rattle.uz_schedule.specs.declared.facts.Compared.TheVariants.{Nothing}
use Rattle.uz_schedule.specs.declared.facts.Val.{Val}
use Rattle.uz_schedule.specs.declared.facts.Val.TheVariants.{Range, Old}
use Rattle.uz_schedule.specs.declared.header.Cell.{Cell}
use Rattle.uz_schedule.specs.declared.header.Head.{Head}
use Rattle.uz_schedule.specs.declared.kinds.Kind.{Kind}
use Rattle.uz_schedule.specs.declared.kinds.Kind.TheVariants.{Main, Handler, Alone}
use Rattle.uz_schedule.specs.declared.kinds.RuleVersion.{RuleVersion}
use Rattle.uz_schedule.specs.declared.kinds.RuleVersion.TheVariants.{Two, Three}
use Rattle.uz_schedule.specs.declared.states.Entry.{Entry}
use Rattle.uz_schedule.specs.declared.states.Instance.{Instance}
use Rattle.uz_search.specs.declared.program.Program.{Program}
use Rattle.uz_search.specs.Following.{Among}
use Rattle.uz_search.proofs.Lists.{of_map}
use Rattle.uz_search.proofs.VisitingLemmas.{some_is}
use Rattle.uz_search.specs.Limits.{ComparedKnown, Each, IsOpen, IsWithinLimits, OldFits}
use Rattle.uz_paths.specs.declared.reading.Reading.{Reading}
use Rattle.uz_paths.specs.declared.words.Beginning.{Beginning}
use Rattle.uz_paths.specs.Reading.{ReadingFits}
use Rattle.uz_paths.specs.Certificate.{IsEntry}
use Rattle.uz_paths.specs.ProgramOf.{entry_with, first_state, first_states}
use Rattle.uz_paths.proofs.ProgramLemmas.{first_of_five, first_of_one}

-- Elements

repeated : {A : Type 0} (P : A → Type 0) (a : A) (n i : ℕ) (x : A) → P a → slice_get (replicate n a) i ≡ Some x → P x
repeated P a zero i x h at = absurd (cc)
repeated P a (suc n) zero x h at = subst P (some_is a x at) h
repeated P a (suc n) (suc i) x h at = repeated P a n i x h at

all_repeated : {A : Type 0} (P : A → Type 0) (a : A) (n : ℕ) → P a → All P (replicate n a)
all_repeated P a zero h = All-nil P
all_repeated P a (suc n) h = All-cons P a (replicate n a) h (all_repeated P a n h)

nothing : {A : Type 0} (P : A → Type 0) → Each P []
nothing P i x at = absurd (cc)

ranges_known : (kind : Kind) (ranges : List Ends) → Each (OldFits kind) (map Range ranges)
ranges_known kind ranges i v at = let e = of_map (λ r. Range r) ranges i v at in subst (OldFits kind) e.2 tt

olds_known : (k n i : ℕ) (v : Val) → k + n ≤ 32 → slice_get (old_from k n) i ≡ Some v → OldFits Handler v
olds_known k zero i v few at = absurd (cc)
olds_known k (suc n) zero v few at = subst (OldFits Handler) (some_is (Old k) v at) (refl, omega arith)
olds_known k (suc n) (suc i) v few at = olds_known (suc k) n i v (omega arith) at

-- Cells

in_self : (e : Ends) → (nat_le e.lo e.lo && nat_le e.hi e.hi) ≡ true
in_self e = λ i. le_self e.lo i && le_self e.hi i
  where
    le_self : (n : ℕ) → nat_le n n ≡ true
    le_self n = grind (arith, nat_tests)

self_fit : (cells : List Cell) → spans_fit cells (map (λ c. c.range) cells) ≡ true
self_fit [] = refl
self_fit (c ∷ cells) = λ i. in_self c.range i && self_fit cells i

cell_ranges : (h : Head) (test : Cell → Bool) (cells : List Cell) → All (CellFits h) cells → All (RangeFits 255)
    (map (λ c. c.range) (filter test cells))
cell_ranges h test [] all = All-nil (RangeFits 255)
cell_ranges h test (c ∷ cells) all = by (test c) (cell_ranges h test cells (All-tail (CellFits h) c cells all))
  where
    by : (b : Bool) → All (RangeFits 255) (map (λ c. c.range) (filter test cells)) → All (RangeFits 255)
        (map (λ c. c.range) (if b then c ∷ filter test cells else filter test cells))
    by true rest = All-cons (RangeFits 255) c.range (map (λ c. c.range) (filter test cells)) (All-head (CellFits h) c cells all).range rest
    by false rest = rest

-- Starts

whole_open : (e : Ends) → Some e ≡ Some whole_pair → IsOpen e
whole_open e is = let same = some_is e whole_pair is in (ap (λ z. z.lo) same, (let hi = ap (λ z. z.hi) same in omega arith))

-- a start knows nothing of comparisons
none_known : (version : RuleVersion) (kind : Kind) → ComparedKnown version kind Nothing
none_known Two kind = refl
none_known Three Main = tt
none_known Three Handler = refl
none_known Three Alone = refl

entry_limits : (p : Program) (start : Beginning) (registers : List Ends) → start.pc < 32768 → length registers ≡ 32 → IsWithinLimits p
    (entry_instance_at (entry_with registers p.head start 0) 1)
entry_limits p start registers pc count = record {
  pc = pc;
  register_count = length-map registers (λ r. Range r) ∙ count;
  registers = ranges_known start.kind registers;
  pair_count = refl;
  hulls = hulls;
  flag_count = refl;
  flags = λ i b at. repeated (BitFits start.kind) Free 7 i b tt at;
  compared = none_known p.head.version start.kind;
  slots = omega arith;
  stack = nothing (OldFits start.kind);
  cells = self_fit (tracked p.head start.kind);
}
  where
    hulls : (k : ℕ) → k < 3 → slice_get (hull_at (map Range registers) 26 ∷ hull_at (map Range registers) 28 ∷ hull_at (map Range registers)
        30 ∷ []) k ≡ Some whole_pair → IsOpen (hull_at (map Range registers) (26 + 2 * k))
    hulls zero less at = whole_open (hull_at (map Range registers) 26) at
    hulls (suc zero) less at = whole_open (hull_at (map Range registers) 28) at
    hulls (suc (suc zero)) less at = whole_open (hull_at (map Range registers) 30) at
    hulls (suc (suc (suc k))) less at = absurd (omega arith)

first_limits : (p : Program) (top : ℕ) (cells : List Ends) (c : ℕ) → spans_fit (tracked p.head Handler) cells ≡ true → IsWithinLimits p
    (first_state p.head.irq top cells c)
first_limits p top cells c fit = record {
  pc = omega arith;
  register_count = refl;
  registers = λ i v at. olds_known 0 32 i v (omega arith) at;
  pair_count = refl;
  hulls = hulls;
  flag_count = refl;
  flags = λ i b at. repeated (BitFits Handler) OldBit 7 i b refl at;
  compared = none_known p.head.version Handler;
  slots = omega arith;
  stack = nothing (OldFits Handler);
  cells = fit;
}
  where
    hulls : (k : ℕ) → k < 3 → slice_get (whole_pair ∷ whole_pair ∷ whole_pair ∷ []) k ≡ Some whole_pair
        → IsOpen (hull_at (old_from 0 32) (26 + 2 * k))
    hulls zero less at = (refl, omega arith)
    hulls (suc zero) less at = (refl, omega arith)
    hulls (suc (suc zero)) less at = (refl, omega arith)
    hulls (suc (suc (suc k))) less at = absurd (omega arith)

all_limits : (p : Program) (start : Beginning) (registers : List Ends) (top : ℕ) (firsts : List Ends) (kind : Kind) → start.pc < 32768 → length registers ≡ 32
    → spans_fit (tracked p.head Handler) firsts ≡ true
    → p.starts ≡ entry_instance_at (entry_with registers p.head start 0) 1 ∷ first_states kind p.head.irq top firsts → (x : Instance)
    → Among p.starts x → IsWithinLimits p x
all_limits p start registers top firsts Main pc count fit e x (i, there) =
    first_of_five (IsWithinLimits p) _ _ _ _ _ x i (entry_limits p start registers pc count) (first_limits p top firsts 0 fit)
    (first_limits p top firsts 1 fit) (first_limits p top firsts 2 fit) (first_limits p top firsts 3 fit)
    (ap (λ xs. slice_get xs i) (sym e) ∙ there)
all_limits p start registers top firsts Handler pc count fit e x (i, there) = first_of_one (IsWithinLimits p) _ x i
    (entry_limits p start registers pc count) (ap (λ xs. slice_get xs i) (sym e) ∙ there)
all_limits p start registers top firsts Alone pc count fit e x (i, there) = first_of_one (IsWithinLimits p) _ x i
    (entry_limits p start registers pc count) (ap (λ xs. slice_get xs i) (sym e) ∙ there)

-- the entry

kind_fits : (k : Kind) (e : Entry) → k ≢ Handler → e.line ≡ 0 → e.clock ≡ 0 → EntryKindFits k e
kind_fits Main e enters line clock = (line, clock)
kind_fits Handler e enters line clock = absurd (enters refl)
kind_fits Alone e enters line clock = tt

facts_fit : (head : Head) (start : Beginning) (registers : List Ends) → HeadFits head → length registers ≡ 32 → All (RangeFits 255)
    registers → EntryFactsFit head (entry_with registers head start 0)
facts_fit head start registers fits count ranges = record {
  registers = count;
  ranges = ranges;
  flag_count = refl;
  flags = all_repeated (BitFits start.kind) Free 7 tt;
  slots = omega arith;
  stack = All-nil (RangeFits 255);
  cells = record {
    ranges = cell_ranges head (λ c. tracks start.kind c.owner) head.cells.items fits.cells;
    within = self_fit (tracked head start.kind);
  };
}

pub is_entry : (r : Reading) (p : Program) (entry : Entry) (top : ℕ) → ReadingFits r → p.head ≡ r.head → entry ≡ entry_with r.registers r.head r.start
    0
    → p.starts ≡ entry_instance_at (entry_with r.registers r.head r.start 0) 1 ∷ first_states r.start.kind p.head.irq top
    r.firsts.items
    → IsEntry p entry
is_entry r p entry top fits head e starts = subst (IsEntry p) (sym (e ∙ ap (λ h. entry_with r.registers h r.start 0) (sym head))) (record {
  start = (0, ap (λ xs. slice_get xs 0) starts');
  kind = kind_fits r.start.kind (entry_with r.registers p.head r.start 0) fits.enters refl refl;
  pc = fits.pc;
  line = refl;
  clock = refl;
  facts = facts_fit p.head r.start r.registers (subst HeadFits (sym head) fits.head) fits.register_count fits.registers;
  limits = all_limits p r.start r.registers top r.firsts.items r.start.kind fits.pc fits.register_count
      (subst (λ h. spans_fit (tracked h Handler) r.firsts.items ≡ true) (sym head) fits.firsts.within) starts';
})
  where
    starts' : p.starts ≡ entry_instance_at (entry_with r.registers p.head r.start 0) 1 ∷ first_states r.start.kind p.head.irq top
        r.firsts.items
    starts' = starts ∙ ap (λ h. entry_instance_at (entry_with r.registers h r.start 0) 1 ∷ first_states r.start.kind p.head.irq top
        r.firsts.items) (sym head)
