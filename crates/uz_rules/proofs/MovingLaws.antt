-- What is put anew at the places of facts that aren't steady makes the whole instance.
use Rattle.uz_rules.proofs.Common.{and_parts, ◌≡◌, ℕ, zero, suc, ◌+◌, ◌<◌, ◌≤◌, Bool, true, false, List, [], ◌∷◌, ◌++◌, All, length, map}
use Rattle.uz_rules.proofs.Common.{drop, refl, sym, ◌∙◌, ap, subst, arith, slice_index_or, slice_set, if◌then◌else◌, map-append}
use Rattle.uz_rules.proofs.Common.{length-append, length-map, Ends, hull, Fact, Any, Line, Loop, PairFact, AnyPair, LoopPair, Val, Instance}
use Rattle.uz_rules.proofs.Common.{Point, val_of, span_of_val, cell_span, val_at, pair_of, pairs_of, instance_of, varying_from, IsVarying}
use Rattle.uz_rules.proofs.Common.{IsOfPoint, with_registers, with_stack, with_cells, All-cons, All-nil}
use Rattle.std.proofs.Math.Seq.{set-append_seam, get_or-append_seam, drop-cons, append_snoc}
use Rattle.std.proofs.Math.ListN.{get_or-map}
use Rattle.uz_schedule.specs.declared.facts.PairFact.TheVariants.{Between as BetweenPair, Line as LinePair}
use Rattle.uz_rules.specs.declared.varying.Varying.{Varying}
use Rattle.uz_rules.specs.Moving.{is_steady, is_steady_pair, fact_at, pair_fact_at, put_facts, put_pair, moved, with_pairs}

-- Places

pub varying_one : (facts : List Fact) (n : ℕ) (d : Fact) → n < length facts
    → varying_from n (slice_index_or facts n d ∷ []) ++ varying_from (n + 1) (drop (n + 1) facts) ≡ varying_from n (drop n facts)
unfolding varying_from
varying_one facts n d low =
    let next : suc n ≡ n + 1 = omega arith in
    ap (λ k. varying_from n (slice_index_or facts n d ∷ []) ++ varying_from k (drop k facts)) (sym next)
    ∙ (by_case (is_steady (slice_index_or facts n d)) ∙ sym (ap (varying_from n) (drop-cons facts n d low)))
  where
    rest : List ℕ
    rest = varying_from (suc n) (drop (suc n) facts)

    by_case : (t : Bool) → (if t then [] else n ∷ []) ++ rest ≡ (if t then rest else n ∷ rest)
    by_case true = refl
    by_case false = refl

pub varying_end : (k n : ℕ) (facts : List Fact) → length facts ≤ n → varying_from k (drop n facts) ≡ []
unfolding varying_from
varying_end k zero [] h = refl
varying_end k (suc n) [] h = refl
varying_end k zero (f ∷ facts) h = absurd (omega (arith, h))
varying_end k (suc n) (f ∷ facts) h = varying_end k n facts (omega (arith, h))

pub varying_below : (k n : ℕ) (facts : List Fact) → k + length facts ≡ n → All (λ i. i < n) (varying_from k facts)
unfolding varying_from
varying_below k n [] e = All-nil (λ i. i < n)
varying_below k n (f ∷ facts) e = by_case (is_steady f) (omega (arith, e)) (varying_below (suc k) n facts (omega (arith, e)))
  where
    by_case : (t : Bool) → k < n → All (λ i. i < n) (varying_from (suc k) facts)
        → All (λ i. i < n) (if t then varying_from (suc k) facts else k ∷ varying_from (suc k) facts)
    by_case true low h = h
    by_case false low h = All-cons (λ i. i < n) k (varying_from (suc k) facts) low h

pub registers_below : (p : Point) (varying : Varying) → IsVarying p varying → All (λ i. i < 32) varying.registers.items
registers_below p varying g =
    let size = g.register_count in
    subst (All (λ i. i < 32)) (sym g.registers) (varying_below 0 32 p.regs (omega (arith, size)))

pub stack_below : (p : Point) (varying : Varying) → IsVarying p varying → All (λ i. i < length p.stack.items) varying.stack.items
stack_below p varying g = subst (All (λ i. i < length p.stack.items)) (sym g.stack) (varying_below 0 (length p.stack.items) p.stack.items
    (omega arith))

pub cells_below : (p : Point) (varying : Varying) → IsVarying p varying → All (λ i. i < length p.cells.items) varying.cells.items
cells_below p varying g = subst (All (λ i. i < length p.cells.items)) (sym g.cells) (varying_below 0 (length p.cells.items) p.cells.items
    (omega arith))

pub slots_as_many : (p : Point) (inst : Instance) → IsOfPoint p inst → length inst.stack.items ≡ length p.stack.items
slots_as_many p inst of =
    ap (λ (x : Instance). length x.stack.items) of.is ∙ length-map p.stack.items (val_of of.line of.count)

pub cells_as_many : (p : Point) (inst : Instance) → IsOfPoint p inst → length inst.cells.items ≡ length p.cells.items
cells_as_many p inst of =
    ap (λ (x : Instance). length x.cells.items) of.is ∙ length-map p.cells.items (cell_span of.line of.count)

-- Lists

put_all : {A : Type 0} (says said : Fact → A) → ((f : Fact) → is_steady f ≡ true → said f ≡ says f) → (front facts whole : List Fact)
    (k : ℕ) (xs : List A) → front ++ facts ≡ whole → length front ≡ k → map says front ++ map said facts ≡ xs
    → put_facts says whole (varying_from k facts) xs ≡ map says whole
unfolding varying_from put_facts
put_all says said same front [] whole k xs is at e =
    sym e ∙ (sym (map-append says front []) ∙ ap (map says) is)
put_all {A} says said same front (f ∷ facts) whole k xs is at e =
    by_case (is_steady f) refl (λ ys here. put_all says said same (front ++ f ∷ []) facts whole (suc k) ys (append_snoc front f facts ∙ is)
    (length-append front (f ∷ []) ∙ longer) (moved_on ∙ here))
  where
    longer : length front + 1 ≡ suc k
    longer = omega (arith, at)

    moved_on : map says (front ++ f ∷ []) ++ map said facts ≡ map says front ++ says f ∷ map said facts
    moved_on = ap (λ ys. ys ++ map said facts) (map-append says front (f ∷ [])) ∙ append_snoc (map says front) (says f) (map said facts)

    by_case : (t : Bool) → is_steady f ≡ t
        → ((ys : List A) → map says front ++ says f ∷ map said facts ≡ ys → put_facts says whole (varying_from (suc k) facts) ys
        ≡ map says whole)
        → put_facts says whole (if t then varying_from (suc k) facts else k ∷ varying_from (suc k) facts) xs ≡ map says whole
    by_case true steady more = more xs (ap (λ y. map says front ++ y ∷ map said facts) (sym (same f steady)) ∙ e)
    by_case false grows more =
        let seam = map says front ++ said f ∷ map said facts in
        let is_fact : fact_at whole k ≡ f = ap (λ (w : List Fact). fact_at w k) (sym is)
        ∙ (ap (λ n. fact_at (front ++ f ∷ facts) n) (sym at) ∙ get_or-append_seam front f facts Any) in
        let place : length (map says front) ≡ k = length-map front says ∙ at in
        let put : slice_set xs k (says (fact_at whole k)) ≡ map says front ++ says f ∷ map said facts =
        ap (λ ys. slice_set ys k (says (fact_at whole k))) (sym e)
        ∙ (ap (λ n. slice_set seam n (says (fact_at whole k))) (sym place)
        ∙ (ap (λ g. slice_set seam (length (map says front)) (says g)) is_fact
        ∙ set-append_seam (map says front) (said f) (map said facts) (says f))) in
        more (slice_set xs k (says (fact_at whole k))) (sym put)

-- Pairs

steady_says : (l c line count : ℕ) (f : Fact) → is_steady f ≡ true → val_of line count f ≡ val_of l c f
steady_says l c line count (Line a b) e = absurd cc
steady_says l c line count (Loop a b) e = absurd cc
steady_says l c line count f e = refl

byte_at : (l c : ℕ) (regs : List Fact) (r : ℕ) → val_at (map (val_of l c) regs) r ≡ val_of l c (fact_at regs r)
byte_at l c regs r = get_or-map (val_of l c) regs r Any

byte_same : (l c line count : ℕ) (regs : List Fact) (r : ℕ) → is_steady (fact_at regs r) ≡ true
    → val_at (map (val_of line count) regs) r ≡ val_at (map (val_of l c) regs) r
byte_same l c line count regs r e =
    byte_at line count regs r ∙ (steady_says l c line count (fact_at regs r) e ∙ sym (byte_at l c regs r))

pair_same : (l c line count : ℕ) (regs : List Fact) (r : ℕ) (f : PairFact) → is_steady_pair regs r f ≡ true
    → pair_of line count (map (val_of line count) regs) r f ≡ pair_of l c (map (val_of l c) regs) r f
pair_same l c line count regs r AnyPair e =
    let both = and_parts (is_steady (fact_at regs r)) (is_steady (fact_at regs (r + 1))) e in
    let low = byte_same l c line count regs r both.0 in
    let high = byte_same l c line count regs (r + 1) both.1 in
    λ i. hull (span_of_val (low i)) (span_of_val (high i))
pair_same l c line count regs r (BetweenPair s) e = refl
pair_same l c line count regs r (LinePair a b) e = absurd cc
pair_same l c line count regs r (LoopPair a b) e = absurd cc

first_put : (t : Bool) (a b c n : Ends) → (t ≡ true → a ≡ n) → put_pair t 0 n (a ∷ b ∷ c ∷ []) ≡ n ∷ b ∷ c ∷ []
first_put true a b c n h = ap (λ x. x ∷ b ∷ c ∷ []) (h refl)
first_put false a b c n h = refl

second_put : (t : Bool) (a b c n : Ends) → (t ≡ true → b ≡ n) → put_pair t 1 n (a ∷ b ∷ c ∷ []) ≡ a ∷ n ∷ c ∷ []
second_put true a b c n h = ap (λ x. a ∷ x ∷ c ∷ []) (h refl)
second_put false a b c n h = refl

third_put : (t : Bool) (a b c n : Ends) → (t ≡ true → c ≡ n) → put_pair t 2 n (a ∷ b ∷ c ∷ []) ≡ a ∷ b ∷ n ∷ []
third_put true a b c n h = ap (λ x. a ∷ b ∷ x ∷ []) (h refl)
third_put false a b c n h = refl

-- The whole instance

module _ (p : Point) (varying : Varying) (g : IsVarying p varying) (l c line count : ℕ) where
  regs_put : put_facts (val_of l c) p.regs varying.registers.items (map (val_of line count) p.regs) ≡ map (val_of l c) p.regs
  regs_put =
      ap (λ places. put_facts (val_of l c) p.regs places (map (val_of line count) p.regs)) g.registers
      ∙ put_all (val_of l c) (val_of line count) (steady_says l c line count) [] p.regs p.regs 0 (map (val_of line count) p.regs) refl refl refl

  slots_put : put_facts (val_of l c) p.stack.items varying.stack.items (map (val_of line count) p.stack.items) ≡ map (val_of l c) p.stack.items
  slots_put =
      ap (λ places. put_facts (val_of l c) p.stack.items places (map (val_of line count) p.stack.items)) g.stack
      ∙ put_all (val_of l c) (val_of line count) (steady_says l c line count) [] p.stack.items p.stack.items 0
      (map (val_of line count) p.stack.items) refl refl refl

  cells_put : put_facts (cell_span l c) p.cells.items varying.cells.items (map (cell_span line count) p.cells.items)
      ≡ map (cell_span l c) p.cells.items
  cells_put =
      ap (λ places. put_facts (cell_span l c) p.cells.items places (map (cell_span line count) p.cells.items)) g.cells
      ∙ put_all (cell_span l c) (cell_span line count) (λ f e. ap span_of_val (steady_says l c line count f e)) [] p.cells.items
      p.cells.items 0 (map (cell_span line count) p.cells.items) refl refl refl

  abbrev pair_new : ℕ → ℕ → Ends
  pair_new k r = pair_of l c (map (val_of l c) p.regs) r (pair_fact_at p.pairs k)

  abbrev pair_old : ℕ → ℕ → Ends
  pair_old k r = pair_of line count (map (val_of line count) p.regs) r (pair_fact_at p.pairs k)

  pairs_put : put_pair varying.z 2 (pair_new 2 30) (put_pair varying.y 1 (pair_new 1 28)
      (put_pair varying.x 0 (pair_new 0 26) (pairs_of line count (map (val_of line count) p.regs) p.pairs)))
      ≡ pairs_of l c (map (val_of l c) p.regs) p.pairs
  pairs_put =
      ap (λ ps. put_pair varying.z 2 (pair_new 2 30) (put_pair varying.y 1 (pair_new 1 28) ps))
      (first_put varying.x (pair_old 0 26) (pair_old 1 28) (pair_old 2 30) (pair_new 0 26)
      (λ e. pair_same l c line count p.regs 26 (pair_fact_at p.pairs 0) (sym g.x ∙ e)))
      ∙ (ap (λ ps. put_pair varying.z 2 (pair_new 2 30) ps)
      (second_put varying.y (pair_new 0 26) (pair_old 1 28) (pair_old 2 30) (pair_new 1 28)
      (λ e. pair_same l c line count p.regs 28 (pair_fact_at p.pairs 1) (sym g.y ∙ e)))
      ∙ third_put varying.z (pair_new 0 26) (pair_new 1 28) (pair_old 2 30) (pair_new 2 30)
      (λ e. pair_same l c line count p.regs 30 (pair_fact_at p.pairs 2) (sym g.z ∙ e)))

  abbrev put_pairs_by : List Val → List Ends
  put_pairs_by regs = put_pair varying.z 2 (pair_of l c regs 30 (pair_fact_at p.pairs 2)) (put_pair varying.y 1
      (pair_of l c regs 28 (pair_fact_at p.pairs 1)) (put_pair varying.x 0 (pair_of l c regs 26 (pair_fact_at p.pairs 0))
      (pairs_of line count (map (val_of line count) p.regs) p.pairs)))

  moved_of : (k v clock level : ℕ) → moved p varying l c clock level (instance_of p line count k v) ≡ instance_of p l c clock level
  moved_of k v clock level =
      let pairs = ap put_pairs_by regs_put ∙ pairs_put in
      λ i. record (instance_of p l c clock level) {
        regs = regs_put i;
        stack = record { items = slots_put i };
        cells = record { items = cells_put i };
        pairs = pairs i;
      }

pub moved_is : (p : Point) (varying : Varying) (l c clock level : ℕ) (inst : Instance) → IsVarying p varying → IsOfPoint p inst
    → moved p varying l c clock level inst ≡ instance_of p l c clock level
moved_is p varying l c clock level inst g of =
    ap (moved p varying l c clock level) of.is ∙ moved_of p varying g l c of.line of.count of.clock of.level clock level

-- what is put one after another is all
pub all_put : (p : Point) (varying : Varying) (l c clock level : ℕ) (inst one two three four : Instance) (registers slots cells : List ℕ)
    → registers ≡ varying.registers.items → slots ≡ varying.stack.items → cells ≡ varying.cells.items
    → one ≡ with_registers p l c registers (record inst { line = l; clock = clock; level = level }) → two ≡ with_stack p l c slots one
    → three ≡ with_cells p l c cells two → four ≡ with_pairs p l c varying three → four ≡ moved p varying l c clock level inst
all_put p varying l c clock level inst one two three four registers slots cells rs ss cs is_one is_two is_three is_four =
    let begun = record inst { line = l; clock = clock; level = level } in
    let first : one ≡ with_registers p l c varying.registers.items begun = is_one ∙ ap (λ places. with_registers p l c places begun) rs in
    let second : two ≡ with_stack p l c varying.stack.items (with_registers p l c varying.registers.items begun) =
    is_two ∙ (λ i. with_stack p l c (ss i) (first i)) in
    is_four ∙ ap (with_pairs p l c varying) (is_three ∙ (λ i. with_cells p l c (cs i) (second i)))

-- how much of each is put anew
pub ruleset put_anew = (registers_below, stack_below, cells_below, slots_as_many, cells_as_many)
