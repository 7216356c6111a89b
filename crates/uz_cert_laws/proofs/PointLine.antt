-- The line of a point.
use Rattle.uz_cert_laws.proofs.Common.{nat_tests, All-weaker, ◌≡◌, ℕ, zero, suc, ◌+◌, ◌-◌, ◌*◌, ◌/◌, ◌<◌, ◌≤◌, ◌^◌, Bool, true, false}
use Rattle.uz_cert_laws.proofs.Common.{◌&&◌, eqb, List, [], ◌∷◌, decimal, codes, get_or, lit<, lit≤, refl, sym, ◌∙◌, ap, subst, arith, Ok}
use Rattle.uz_cert_laws.proofs.Common.{decimal_digit, clock_limit, scanline, RangeFits, FactFits, PairFits, BitFits, magnitude}
use Rattle.uz_cert_laws.proofs.Common.{is_zero_or_one, is_carry_and_zero_default, Kind, Main, Handler, Alone, Head, Words, choice_of}
use Rattle.uz_cert_laws.proofs.Common.{is_handler, bytes_forms, reads, none_in_main, Facts, ParsedLine, Version, First, Second, Third}
use Rattle.uz_cert_laws.proofs.Common.{kind_word, Option, None, signed_word, named_items, named_of, with_named, usual_facts, Shape, ℤ}
use Rattle.uz_cert_laws.proofs.Common.{pos, negsuc, ComparedFits, SplitFits, Compared, AnyPair, line, PlacesAre, word_at, Parts, says}
use Rattle.uz_cert_laws.proofs.Common.{spells, letters_of_pairs, letters_of_flags, spelled}
use Rattle.uz_schedule.specs.WellFormed.{PointFits, PointKindFits, IsAtBegin, IsTimerLeftOut, instances_of, IsWithoutRules, RulesFit}
use Rattle.uz_cert_lines.specs.Lines.{is_timed, is_compared, point_shape, IsPointIn, point_kind, pending_limit, count_limit, point_after}
use Rattle.uz_cert_lines.specs.Lines.{point_form}
use Rattle.uz_cert_laws.proofs.Numbers.{is_within as within_so, under_both, both_under, least_small}
use Rattle.uz_cert_laws.proofs.FormLaws.{Fit, SaysFacts, IsReadable, form_again, form_only}
use Rattle.uz_cert_laws.proofs.Fitting.{each_of_all, all_of_each, fact_in, fact_out, cells_in, cells_out, under_none, none_under}
use Rattle.uz_cert_laws.proofs.Fitting.{none_small, box_under, under_box}
use Rattle.uz_schedule.specs.{declared.kinds.RuleVersion.TheVariants.Two, declared.kinds.RuleVersion.TheVariants.Three, Limits.is_top}
use Rattle.uz_schedule.specs.{declared.states.Point.Point, declared.kinds.RuleVersion.RuleVersion}
use Rattle.uz_schedule.specs.{declared.facts.Compared.TheVariants.Nothing}
use Rattle.uz_cert_writer.specs.Spelling.{truth_word, point_items, point_words}
use Rattle.uz_cert_laws.proofs.{Tests.some_not, Tests.both_of, Tests.fine, Tests.true_not, Named.Say, Spelled.registers}
use Rattle.uz_cert_laws.proofs.{ReadItems.ShapeFits, Sections.each_length, EntryLine.shape_fits, SpelledItems.FactsFit, Facts.FactIn}
use Rattle.uz_cert_lines.specs.{Named.values_of, Named.point_of, declared.lines.PointPlace.PointPlace}
use Rattle.uz_cert_lines.specs.declared.lines.ParsedLine.TheVariants as parsed

-- again

begin_of : (kind : Kind) (p : Point) → PointKindFits kind p → kind ≡ Main → IsAtBegin p
begin_of Main p h e = h.0
begin_of Handler p h e = absurd cc
begin_of Alone p h e = absurd cc

top_below : (top : ℕ) → is_top top ≡ true → top < scanline
top_below top h = grind (arith, nat_tests)

-- what is asked of the timer: where its items may not stand, it has the defaults

left_out_fits : (p : Point) → IsTimerLeftOut p → (is_top p.top ≡ true) × RangeFits 255 p.temp
left_out_fits p h = (ap is_top h.top, subst (RangeFits 255) (sym h.temp) (record { order = lit≤ tt; high = lit≤ tt }))

timer_fits : (kind : Kind) (p : Point) → PointKindFits kind p → (is_top p.top ≡ true) × RangeFits 255 p.temp
timer_fits Main p h = left_out_fits p h.1
timer_fits Handler p h = (h.top, h.temp)
timer_fits Alone p h = left_out_fits p h.1

point_untimed : (version : Version) (kind : Kind) (p : Point) → PointKindFits kind p → IsPointIn version p → is_timed version kind ≡ false
    → IsTimerLeftOut p
point_untimed First kind p h o u = o
point_untimed Second Main p h o u = h.1
point_untimed Second Handler p h o u = absurd cc
point_untimed Second Alone p h o u = h.1
point_untimed Third Main p h o u = h.1
point_untimed Third Handler p h o u = absurd cc
point_untimed Third Alone p h o u = h.1

-- what is asked of what the flags tell and of the register of a cover: where their items may not stand, there is none of it

abbrev ComparedSaid : Bool → Compared → Type 0
ComparedSaid stands x = ComparedFits x × (stands ≡ false → x ≡ Nothing)

abbrev SplitSaid : Bool → Option ℕ → Type 0
SplitSaid stands x = SplitFits x × (stands ≡ false → x ≡ None)

without_rules : (stands : Bool) (p : Point) → IsWithoutRules p → ComparedSaid stands p.compared × SplitSaid stands p.split
without_rules stands p h = ((subst ComparedFits (sym h.0) tt, λ u. h.0), (subst SplitFits (sym h.1) tt, λ u. h.1))

rules_in : (version : RuleVersion) (kind : Kind) (p : Point) → RulesFit version kind p
    → ComparedSaid (is_compared version kind) p.compared × SplitSaid (is_compared version kind) p.split
rules_in Two kind p h = without_rules false p h
rules_in Three Main p h = ((h.0, λ u. absurd (true_not true refl u)), (h.1, λ u. absurd (true_not true refl u)))
rules_in Three Handler p h = without_rules false p h
rules_in Three Alone p h = without_rules false p h

rules_out : (version : RuleVersion) (kind : Kind) (p : Point) → ComparedSaid (is_compared version kind) p.compared
    → SplitSaid (is_compared version kind) p.split → RulesFit version kind p
rules_out Two kind p c s = (c.1 refl, s.1 refl)
rules_out Three Main p c s = (c.0, s.0)
rules_out Three Handler p c s = (c.1 refl, s.1 refl)
rules_out Three Alone p c s = (c.1 refl, s.1 refl)

-- what a point says by its items
abbrev facts_of : Point → Facts
facts_of p = record (with_named usual_facts (values_of p) 0) {
  regs = p.regs;
  pairs = p.pairs;
  flags = p.flags;
  stack = p.stack;
  cells = p.cells;
  next = p.next;
}

point_sayable : (version : Version) (h : Head) (lines points : ℕ) (p : Point) → PointFits h lines points p → IsPointIn version p
    → FactsFit (point_shape version h p.kind points) h.cells.items (facts_of p)
point_sayable version h lines points p f o =
    let shape = point_shape version h p.kind points in
    let rules = rules_in h.version p.kind p f.rules in
    let timer = timer_fits p.kind p f.kind in
    record {
      regs_fit = each_of_all (FactIn (bytes_forms shape)) registers p.regs f.core.register_count
          (All-weaker (FactFits p.kind) (FactIn (bytes_forms shape)) (λ x i. fact_in shape x refl i) p.regs f.core.registers);
      pairs_fit = each_of_all PairFits letters_of_pairs p.pairs f.core.pair_count f.core.pairs;
      flags_fit = each_of_all (BitFits p.kind) letters_of_flags p.flags f.core.flag_count f.core.flags;
      slots_fit = f.memory.slots;
      stack_fit = All-weaker (FactFits p.kind) (FactIn (bytes_forms shape)) (λ x i. fact_in shape x refl i) p.stack.items f.memory.stack;
      cells_fit = cells_in shape h.cells.items p.cells.items refl f.memory.cell_count f.memory.cells;
      listed_fit = (
        ((timer.0, top_below p.top timer.0), λ u. (point_untimed version p.kind p f.kind o u).top),
        (
          (timer.1, λ u. (point_untimed version p.kind p f.kind o u).temp),
          (rules.0, (rules.1, tt)),
        ),
      );
      next_fit = (f.next.rise, f.next.there, f.next.few, λ e. absurd (true_not false e refl));
      plain_fit = λ e. absurd (true_not false e refl);
      meant = λ one. said_so (is_zero_or_one (get_or p.pairs 2 AnyPair)) (is_carry_and_zero_default p.kind p.flags) one f.core.text;
    }
  where
    said_so : (a b : Bool) → a ≡ true → (a && b) ≡ false → b ≡ false
    said_so true b e f = f
    said_so false b e f = absurd cc

-- where a point stands, with the number of its word for pending
abbrev placed : Kind → ℕ → ℕ → ℕ → ℕ → ℕ → ℕ → ℤ → ℕ → PointPlace
placed kind pc l0 l1 c0 c1 clock slope n = record {
  kind = kind;
  pc = pc;
  l0 = l0;
  l1 = l1;
  c0 = c0;
  c1 = c1;
  clock = clock;
  slope = slope;
  pending = eqb n 1;
}

point_back : (p : Point) (n : ℕ) → eqb n 1 ≡ p.pending
    → point_of (placed p.kind p.pc p.l0 p.l1 p.c0 p.c1 p.clock p.slope n) (facts_of p) ≡ p
unfolding point_of
point_back p n e = ap (λ (waits : Bool). record p { pending = waits }) e

-- the number of the word for pending
abbrev truth_number : Bool → ℕ
truth_number true = 1
truth_number false = 0

truth_spelled : (b : Bool) → truth_word b ≡ decimal (truth_number b)
truth_spelled true = sym (decimal_digit 1 (lit< tt))
truth_spelled false = sym (decimal_digit 0 (lit< tt))

truth_back : (b : Bool) → eqb (truth_number b) 1 ≡ b
truth_back true = refl
truth_back false = refl

truth_under : (kind : Kind) (p : Point) → PointKindFits kind p → truth_number p.pending < pending_limit kind
truth_under Main p h = subst (λ b. truth_number b < 1) (sym h.0.pending) (lit< tt)
truth_under Handler p h = by_case p.pending
  where
    by_case : (b : Bool) → truth_number b < 2
    by_case true = lit< tt
    by_case false = lit< tt
truth_under Alone p h = subst (λ b. truth_number b < 1) (sym h.0) (lit< tt)

pending_two : (kind : Kind) → pending_limit kind ≤ 2
pending_two Main = lit≤ tt
pending_two Handler = lit≤ tt
pending_two Alone = lit≤ tt

point_shape_fits : (version : Version) (h : Head) (lines points : ℕ) (kind : Kind) → PlacesAre h lines points
    → ShapeFits (point_shape version h kind points) h.cells.items
point_shape_fits version h lines points kind a =
    shape_fits h lines points (point_shape version h kind points) a refl (λ _. refl)

point_says : (version : Version) (h : Head) (points : ℕ) (at : PointPlace)
    → SaysFacts (λ f. parsed.Point (point_of at f))
unfolding point_of
point_says version h points at f least after = refl

after_sound : (version : Version) (h : Head) (lines points left : ℕ) (kind : Kind) → PlacesAre h lines points
    → IsReadable (point_after version h lines points left kind)
unfolding point_after
after_sound version h lines points left kind a =
    let few : lines ≤ 525 = a.lines_few in
    let lines_small = none_small kind lines (omega arith) in
    let counts_small = none_small kind 256 (lit≤ tt) in
    let clocks_small = none_small kind clock_limit (lit≤ tt) in
    let waits_small = pending_two kind in
    both_of (lit≤ tt) (λ pc i. both_of (omega (arith, lines_small)) (λ l0 j. both_of (omega (arith, lines_small)) (λ l1 k.
    both_of (omega (arith, counts_small)) (λ c0 o.
    both_of (omega (arith, least_small (none_in_main kind 256) (c0 + left / (l1 - l0 + 1)) counts_small)) (λ c1 q.
    both_of (omega (arith, clocks_small)) (λ clock r. both_of (omega (arith, clocks_small)) (λ s. both_of (omega (arith, waits_small)) (λ n t.
    both_of (point_shape_fits version h lines points kind a)
    (point_says version h points (placed kind pc l0 l1 c0 c1 clock s n))))))))))

pub point_sound : (version : Version) (h : Head) (lines points left : ℕ) → PlacesAre h lines points → IsReadable (point_form version h lines points left)
point_sound version h lines points left a = λ n. after_sound version h lines points left (point_kind n) a

abbrev point_kinds : List (List ℕ)
point_kinds = codes "main" ∷ codes "handler" ∷ codes "alone" ∷ []

point_so : (version : Version) (h : Head) (lines points left : ℕ) (kind : Kind) (q : Parts (point_after version h lines points left kind))
    → PlacesAre h lines points → Fit (point_after version h lines points left kind) q
    → reads (point_form version h lines points left)
    (line (codes "point" ∷ kind_word kind ∷ spells (point_after version h lines points left kind) q))
    ≡ Ok (says (point_after version h lines points left kind) q)
unfolding choice_of
point_so version h lines points left Main q a f =
    form_again (point_form version h lines points left) (0, q) (point_sound version h lines points left a) (refl, f)
point_so version h lines points left Handler q a f =
    form_again (point_form version h lines points left) (1, q) (point_sound version h lines points left a) (refl, f)
point_so version h lines points left Alone q a f =
    form_again (point_form version h lines points left) (2, q) (point_sound version h lines points left a) (refl, f)

pub point_again : (version : Version) (h : Head) (lines points left : ℕ) (p : Point) → PlacesAre h lines points → left ≤ 2 ^ 30
    → PointFits h lines points p → IsPointIn version p → instances_of p ≤ left
    → reads (point_form version h lines points left) (line (point_words h.cells.items p)) ≡ Ok (parsed.Point p)
unfolding point_after
point_again version h lines points left p a small f o fits =
    let few : lines ≤ 525 = a.lines_few in
    let kind = p.kind in
    let begin = begin_of kind p f.kind in
    let line_order : p.l0 ≤ p.l1 = f.box.line_order in
    let last : p.l1 < lines = f.box.line in
    let count_order : p.c0 ≤ p.c1 = f.box.count_order in
    let count : p.c1 ≤ 255 = f.box.count in
    let lines_small = none_small kind lines (omega arith) in
    let counts_small = none_small kind 256 (lit≤ tt) in
    let clocks_small = none_small kind clock_limit (lit≤ tt) in
    let limit = count_limit kind left p.l0 p.l1 p.c0 in
    let limit_small = least_small (none_in_main kind 256) (p.c0 + left / (p.l1 - p.l0 + 1)) counts_small in
    let n = truth_number p.pending in
    ap (λ w. reads (point_form version h lines points left)
    (line (codes "point" ∷ kind_word kind ∷ decimal p.pc ∷ decimal p.l0 ∷ decimal p.l1 ∷ decimal p.c0 ∷ decimal p.c1 ∷ decimal p.clock
    ∷ signed_word p.slope ∷ w ∷ point_items h.cells.items p))) (truth_spelled p.pending)
    ∙ point_so version h lines points left kind
    (p.pc, (p.l0, (p.l1, (p.c0, (p.c1, (p.clock, (p.slope, (n, facts_of p)))))))) a
    (both_of (within_so 0 32768 p.pc (lit≤ tt) (omega arith) f.pc)
    (both_of (within_so 0 (none_in_main kind lines) p.l0 lines_small (omega arith)
    (under_none kind lines p.l0 (λ m. (begin m).first_line) (omega arith)))
    (both_of (within_so p.l0 (none_in_main kind lines) p.l1 lines_small line_order (under_none kind lines p.l1 (λ m. (begin m).last_line) last))
    (both_of (within_so 0 (none_in_main kind 256) p.c0 counts_small (omega arith)
    (under_none kind 256 p.c0 (λ m. (begin m).first_count) (omega arith)))
    (both_of (within_so p.c0 limit p.c1 limit_small count_order (under_both (none_in_main kind 256) (p.c0 + left / (p.l1 - p.l0 + 1)) p.c1
    (under_none kind 256 p.c1 (λ m. (begin m).last_count) (omega arith)) (box_under left p.l0 p.l1 p.c0 p.c1 count_order fits)))
    (both_of (within_so 0 (none_in_main kind clock_limit) p.clock clocks_small (omega arith)
    (under_none kind clock_limit p.clock (λ m. (begin m).clock) f.box.clock))
    (both_of (under_none kind clock_limit (magnitude p.slope) (λ m. ap magnitude (begin m).slope) f.box.slope)
    (both_of (within_so 0 (pending_limit kind) n (omega (arith, pending_two kind)) (omega arith) (truth_under kind p f.kind))
    (point_sayable version h lines points p f o)))))))))
    ∙ ap (λ (x : Point). fine (parsed.Point x)) (point_back p n (truth_back p.pending))

-- only

kind_read : (n : ℕ) → choice_of point_kinds (word_at point_kinds n) ≡ Ok n → word_at point_kinds n ≡ kind_word (point_kind n)
unfolding choice_of
kind_read zero e = refl
kind_read (suc zero) e = refl
kind_read (suc (suc zero)) e = refl
kind_read (suc (suc (suc n))) e = absurd cc

no_slope : (z : ℤ) → magnitude z ≡ 0 → z ≡ pos 0
no_slope (pos n) e = ap (λ m. pos m) e
no_slope (negsuc n) e = absurd (some_not n e)

-- a truth by its number
truth_is : (n : ℕ) → n < 2 → decimal n ≡ truth_word (eqb n 1)
truth_is zero h = decimal_digit 0 (lit< tt)
truth_is (suc zero) h = decimal_digit 1 (lit< tt)
truth_is (suc (suc n)) h = absurd (omega arith)

none_waits : (n : ℕ) → n < 1 → eqb n 1 ≡ false
none_waits n h = grind (arith, nat_tests)

-- a place, as a line says it: its box, and what is 0 in main
record PlaceSaid (lines : ℕ) (at : PointPlace) : Type 0 where
  pub pc : at.pc < 32768
  pub line_order : at.l0 ≤ at.l1
  pub line : at.l1 < lines
  pub count_order : at.c0 ≤ at.c1
  pub count : at.c1 ≤ 255
  pub clock_in : at.clock < clock_limit
  pub slope_in : magnitude at.slope < clock_limit
  pub l0_main : at.kind ≡ Main → at.l0 ≡ 0
  pub l1_main : at.kind ≡ Main → at.l1 ≡ 0
  pub c0_main : at.kind ≡ Main → at.c0 ≡ 0
  pub c1_main : at.kind ≡ Main → at.c1 ≡ 0
  pub clock_main : at.kind ≡ Main → at.clock ≡ 0
  pub slope_main : at.kind ≡ Main → magnitude at.slope ≡ 0
  pub waits : pending_limit at.kind ≡ 1 → at.pending ≡ false

other_untimed : (version : Version) (kind : Kind) → is_handler kind ≡ false → is_timed version kind ≡ false
other_untimed First kind e = refl
other_untimed Second kind e = e
other_untimed Third kind e = e

left_out : (shape : Shape) (at : PointPlace) (f : Facts) → shape.timed ≡ false → Say named_items shape (named_of f)
    → IsTimerLeftOut (point_of at f)
unfolding point_of
left_out shape at f u h = record { top = h.0.1 u; temp = h.1.0.1 u }

point_is_in : (version : Version) (h : Head) (points : ℕ) (at : PointPlace) (f : Facts)
    → Say named_items (point_shape version h at.kind points) (named_of f) → IsPointIn version (point_of at f)
point_is_in First h points at f t = left_out (point_shape First h at.kind points) at f refl t
point_is_in Second h points at f t = tt
point_is_in Third h points at f t = tt

point_kind_fits : (version : Version) (h : Head) (lines points : ℕ) (at : PointPlace) (f : Facts) (kind : Kind) → at.kind ≡ kind
    → PlaceSaid lines at → Say named_items (point_shape version h kind points) (named_of f) → PointKindFits kind (point_of at f)
unfolding point_of
point_kind_fits version h lines points at f Main e p t = (
  grind (arith, p, e, no_slope at.slope (p.slope_main e), p.waits (ap pending_limit e)),
  left_out (point_shape version h Main points) at f (other_untimed version Main refl) t,
)
point_kind_fits version h lines points at f Handler e p t = record { top = t.0.0.0; temp = t.1.0.0 }
point_kind_fits version h lines points at f Alone e p t = (
  p.waits (ap pending_limit e),
  left_out (point_shape version h Alone points) at f (other_untimed version Alone refl) t,
)

has_text : (a b : Bool) → (a ≡ true → b ≡ false) → (a && b) ≡ false
has_text true b h = h refl
has_text false b h = refl

point_fits : (version : Version) (h : Head) (lines points : ℕ) (at : PointPlace) (f : Facts)
    → FactsFit (point_shape version h at.kind points) h.cells.items f
    → PlaceSaid lines at → PointFits h lines points (point_of at f)
unfolding point_of
point_fits version h lines points at f r p =
    let kind = at.kind in
    let shape = point_shape version h kind points in
    let cells = cells_out shape h.cells.items f.cells.items refl r.cells_fit in
    record {
      kind = point_kind_fits version h lines points at f at.kind refl p r.listed_fit;
      rules = rules_out h.version at.kind (point_of at f) r.listed_fit.1.1.0 r.listed_fit.1.1.1.0;
      pc = p.pc;
      box = grind (arith, p);
      core = record {
        register_count = each_length (λ k x. FactIn (bytes_forms shape) x) registers f.regs r.regs_fit;
        registers = All-weaker (FactIn (bytes_forms shape)) (FactFits kind) (fact_out shape) f.regs
            (all_of_each (FactIn (bytes_forms shape)) registers f.regs r.regs_fit);
        pair_count = each_length (λ k x. PairFits x) letters_of_pairs f.pairs r.pairs_fit;
        pairs = all_of_each PairFits letters_of_pairs f.pairs r.pairs_fit;
        flag_count = each_length (λ k x. BitFits kind x) letters_of_flags f.flags r.flags_fit;
        flags = all_of_each (BitFits kind) letters_of_flags f.flags r.flags_fit;
        text = has_text (is_zero_or_one (get_or f.pairs 2 AnyPair)) (is_carry_and_zero_default kind f.flags) r.meant;
      };
      memory = record {
        slots = r.slots_fit;
        stack = All-weaker (FactIn (bytes_forms shape)) (FactFits kind) (fact_out shape) f.stack.items r.stack_fit;
        cell_count = cells.0;
        cells = cells.1;
      };
      next = record { few = r.next_fit.2; there = r.next_fit.1; rise = r.next_fit.0 };
    }

-- what the parts say
record PointMade (version : Version) (h : Head) (lines points left : ℕ) (kind : Kind) (q : Parts (point_after version h lines points left kind)) : Type
    0 where
  p : Point
  told : says (point_after version h lines points left kind) q ≡ parsed.Point p
  words : codes "point" ∷ kind_word kind ∷ spells (point_after version h lines points left kind) q ≡ point_words h.cells.items p
  fits : PointFits h lines points p
  own : IsPointIn version p
  instances : instances_of p ≤ left

point_words_are : (h : Head) (at : PointPlace) (f : Facts)
    → codes "point" ∷ kind_word at.kind ∷ decimal at.pc ∷ decimal at.l0 ∷ decimal at.l1 ∷ decimal at.c0 ∷ decimal at.c1 ∷ decimal at.clock
    ∷ signed_word at.slope ∷ truth_word at.pending ∷ spelled at.kind h.cells.items f ≡ point_words h.cells.items (point_of at f)
unfolding point_of
point_words_are h at f = refl

instances_are : (at : PointPlace) (left : ℕ) (f : Facts) → (at.l1 - at.l0 + 1) * (at.c1 - at.c0 + 1) ≤ left
    → instances_of (point_of at f) ≤ left
unfolding point_of
instances_are at left f h = h

point_made : (version : Version) (h : Head) (lines points left : ℕ) (kind : Kind) (q : Parts (point_after version h lines points left kind))
    → 1 ≤ lines → Fit (point_after version h lines points left kind) q → PointMade version h lines points left kind q
unfolding point_after
point_made version h lines points left kind q some g =
    let l0 = q.1.0 in
    let l1 = q.1.1.0 in
    let c0 = q.1.1.1.0 in
    let c1 = q.1.1.1.1.0 in
    let clock = q.1.1.1.1.1.0 in
    let steps = q.1.1.1.1.1.1.0 in
    let n = q.1.1.1.1.1.1.1.0 in
    let f = q.1.1.1.1.1.1.1.1 in
    let facts = g.1.1.1.1.1.1.1.1 in
    let waits : n < pending_limit kind = g.1.1.1.1.1.1.1.0.below in
    let at = placed kind q.0 l0 l1 c0 c1 clock steps n in
    let both = both_under (none_in_main kind 256) (c0 + left / (l1 - l0 + 1)) c1 g.1.1.1.1.0.below in
    let l0u = none_under kind lines l0 some g.1.0.below in
    let l1u = none_under kind lines l1 some g.1.1.0.below in
    let c0u = none_under kind 256 c0 (lit≤ tt) g.1.1.1.0.below in
    let c1u = none_under kind 256 c1 (lit≤ tt) both.0 in
    let cu = none_under kind clock_limit clock (lit≤ tt) g.1.1.1.1.1.0.below in
    let su = none_under kind clock_limit (magnitude steps) (lit≤ tt) g.1.1.1.1.1.1.0 in
    let place : PlaceSaid lines at = grind (arith, nat_tests, g.0.below, g.1.1.0.low, g.1.1.1.1.0.low, l0u, l1u, c0u, c1u, cu, su, waits) in
    record {
      p = point_of at f;
      told = refl;
      words = ap (λ w. codes "point" ∷ kind_word kind ∷ decimal q.0 ∷ decimal l0 ∷ decimal l1 ∷ decimal c0 ∷ decimal c1 ∷ decimal clock
          ∷ signed_word steps ∷ w ∷ spelled kind h.cells.items f) (truth_is n (omega (arith, waits, pending_two kind)))
          ∙ point_words_are h at f;
      fits = point_fits version h lines points at f facts place;
      own = point_is_in version h points at f facts.listed_fit;
      instances = instances_are at left f (under_box left l0 l1 c0 c1 g.1.1.1.1.0.low both.1);
    }

pub point_only : (version : Version) (h : Head) (lines points left : ℕ) (words : Words) (says : ParsedLine) → PlacesAre h lines points → 1 ≤ lines → left ≤ 2 ^ 30
    → reads (point_form version h lines points left) words ≡ Ok says
    → (p : Point) × (says ≡ parsed.Point p) × (words ≡ line (point_words h.cells.items p)) × PointFits h lines points p
    × IsPointIn version p × (instances_of p ≤ left)
point_only version h lines points left words says a some small e =
    let r = form_only (point_form version h lines points left) words says (point_sound version h lines points left a) e in
    let n = r.0.0 in
    let after = point_after version h lines points left (point_kind n) in
    let m = point_made version h lines points left (point_kind n) r.0.1 some r.3.1 in (
      m.p,
      r.1 ∙ m.told,
      r.2 ∙ ap (λ w. line (codes "point" ∷ w ∷ spells after r.0.1)) (kind_read n r.3.0) ∙ ap line m.words,
      m.fits,
      m.own,
      m.instances,
    )
