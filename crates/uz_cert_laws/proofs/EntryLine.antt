-- The line of an entry.
use Rattle.uz_cert_laws.proofs.Common.{Shape, nat_tests, All-weaker, ◌≡◌, ℕ, zero, suc, ◌<◌, ◌≤◌, Bool, true, false, ◌&&◌}
use Rattle.uz_cert_laws.proofs.Common.{List, [], ◌∷◌, ◌++◌, map, length, decimal, codes, lit≤, refl, sym, ◌∙◌, ap, subst, append-nil}
use Rattle.uz_cert_laws.proofs.Common.{arith, Ok, All-nil, Ends, clock_limit, RangeFits, CellFits, BitFits}
use Rattle.uz_cert_laws.proofs.Common.{Kind, Main, Handler, Alone, Cell, Head, Fact, Words, choice_of, range_fact, is_handler}
use Rattle.uz_cert_laws.proofs.Common.{bytes_forms, LineForm, number, items, reads, within, one_of, none_in_main, span_of_fact, FactForms}
use Rattle.uz_cert_laws.proofs.Common.{Facts, ParsedLine, kind_word, register_items, pair_items, flag_items, slot_items, cell_items}
use Rattle.uz_cert_laws.proofs.Common.{listed_items, successor_items, named_items, named_of, usual_facts, All, AnyPair, line, PlacesAre}
use Rattle.uz_cert_laws.proofs.Common.{word_at, Parts, says, spells, letters_of_pairs, letters_of_flags, spelled}
use Rattle.uz_schedule.specs.WellFormed.{SpansFit, EntryKindFits, EntryFactsFit, EntryFits}
use Rattle.uz_cert_laws.proofs.FormLaws.{Fit, SaysFacts, IsReadable, form_again, form_only}
use Rattle.uz_cert_laws.proofs.Fitting.{each_of_all, all_of_each, all_map, map_back, range_in, SaysRange, says_range, span_back}
use Rattle.uz_cert_laws.proofs.Fitting.{entry_cell, entry_form_is, spans_in, spans_out, under_none, none_under, none_small}
use Rattle.std.proofs.lemmas.List.{length-map}
use Rattle.uz_cert_lines.specs.Lines.{shape_of, entry_of, entry_kind, entry_form}
use Rattle.uz_cert_writer.specs.Spelling.{range_facts, entry_items, entry_words}
use Rattle.uz_cert_laws.proofs.{Numbers.is_within as within_so, Numbers.one_of_so, Spans.bytes_of, ReadItems.ShapeFits}
use Rattle.uz_cert_laws.proofs.{ItemForms.cell_form, SpelledItems.FactsFit, Facts.FactIn, Sections.each_length, Sections.each_other}
use Rattle.uz_cert_laws.proofs.{Tests.both_of, Tests.fine, Tests.true_not, Spelled.registers, Spelled.numbered_cells, Named.say_usuals}
use Rattle.uz_cert_laws.proofs.{Named.usuals, Named.left_out}
use Rattle.uz_schedule.specs.{declared.states.Entry.Entry, Tracked.tracked, Tracked.depth_of}
use Rattle.uz_cert_lines.specs.declared.lines.ParsedLine.TheVariants as parsed

-- an entry after the word for its kind

abbrev entry_after : Head → ℕ → ℕ → Kind → LineForm
entry_after h lines points kind =
    number (one_of points) (λ id. number (within 0 32768) (λ pc.
    number (within 0 (none_in_main kind lines)) (λ line. number (within 0 (none_in_main kind clock_limit)) (λ clock.
    items (shape_of h kind true points) h.cells.items (λ f. parsed.Entry (entry_of kind id pc line clock f))))))

pub ranges_of : (h : Head) (cells : List Cell) → All (CellFits h) cells → All (λ c. RangeFits 255 c.range) cells
ranges_of h cells a = All-weaker (CellFits h) (λ c. RangeFits 255 c.range) (λ c f. f.range) cells a

pub shape_fits : (h : Head) (lines points : ℕ) (shape : Shape) → PlacesAre h lines points → shape.points ≡ points
    → (shape.kind ≡ Handler → shape.plain ≡ false) → ShapeFits shape h.cells.items
shape_fits h lines points shape a e w = record {
  places = record { few = a.few; bytes = bytes_of h h.cells.items a.each; points = omega (arith, a.points_few, e) };
  whole = w;
  ranges = ranges_of h h.cells.items a.each;
}

at_begin : (kind : Kind) (e : Entry) → EntryKindFits kind e → kind ≡ Main → (e.line ≡ 0) × (e.clock ≡ 0)
at_begin Main e h f = h
at_begin Handler e h f = absurd h
at_begin Alone e h f = absurd cc

-- what an entry says by its items
abbrev facts_of : Entry → Facts
facts_of e = record usual_facts {
  regs = range_facts e.regs;
  pairs = AnyPair ∷ AnyPair ∷ AnyPair ∷ [];
  flags = e.flags;
  stack = record { items = range_facts e.stack.items };
  cells = record { items = range_facts e.cells.items };
}

entry_sayable : (h : Head) (lines points : ℕ) (e : Entry) → EntryFactsFit h e
    → FactsFit (shape_of h e.kind true points) h.cells.items (facts_of e)
entry_sayable h lines points e f =
    let shape = shape_of h e.kind true points in
    record {
      regs_fit = each_of_all (FactIn (bytes_forms shape)) registers (range_facts e.regs) (length-map e.regs range_fact ∙ f.registers)
          (facts e.regs f.ranges);
      pairs_fit = (tt, (tt, (tt, tt)));
      flags_fit = each_of_all (BitFits e.kind) letters_of_flags e.flags f.flag_count f.flags;
      slots_fit = omega (arith, f.slots, length-map e.stack.items range_fact);
      stack_fit = facts e.stack.items f.stack;
      cells_fit = each_other (λ p x. FactIn (entry_cell p.1) x) (λ p x. FactIn (cell_form shape p.1) x)
          (numbered_cells e.kind 0 h.cells.items) (range_facts e.cells.items)
          (λ p x i. subst (λ (g : FactForms). FactIn g x) (sym (entry_form_is shape p.1 refl)) i)
          (spans_in e.kind 0 h.cells.items e.cells.items f.cells.ranges f.cells.within);
      listed_fit = say_usuals named_items shape refl;
      next_fit = (refl, All-nil (λ id. id < points), lit≤ tt, λ _. refl);
      plain_fit = λ _. refl;
      meant = λ one. absurd (true_not false one refl);
    }
  where
    facts : (es : List Ends) → All (RangeFits 255) es → All (FactIn (bytes_forms (shape_of h e.kind true points))) (map range_fact es)
    facts es a =
        all_map (RangeFits 255) (FactIn (bytes_forms (shape_of h e.kind true points))) range_fact es
        (λ x r. range_in (bytes_forms (shape_of h e.kind true points)) x refl r (omega arith) (omega (arith, r.high))) a

entry_items_are : (cells : List Cell) (e : Entry)
    → entry_items cells e ≡ spelled e.kind cells (facts_of e)
entry_items_are cells e =
    ap (λ ws. register_items e.kind 0 (range_facts e.regs) ++ (flag_items e.kind letters_of_flags e.flags
    ++ (slot_items (range_facts e.stack.items) ++ ws)))
    (sym (append-nil (cell_items e.kind 0 cells (range_facts e.cells.items))))

entry_back : (h : Head) (e : Entry) → EntryFactsFit h e → entry_of e.kind e.id e.pc e.line e.clock (facts_of e) ≡ e
unfolding entry_of
entry_back h e f = λ i. record e {
  regs = back e.regs f.ranges i;
  stack = record { items = back e.stack.items f.stack i };
  cells = record { items = back e.cells.items f.cells.ranges i };
}
  where
    back : (es : List Ends) → All (RangeFits 255) es → map span_of_fact (map range_fact es) ≡ es
    back es a = map_back (RangeFits 255) range_fact span_of_fact es (λ x r. span_back x) a

entry_says : (kind : Kind) (id pc line clock : ℕ) → SaysFacts (λ f. parsed.Entry (entry_of kind id pc line clock f))
unfolding entry_of
entry_says kind id pc line clock f least after = refl

after_sound : (h : Head) (lines points : ℕ) (kind : Kind) → PlacesAre h lines points → (kind ≡ Handler → true ≡ false)
    → IsReadable (entry_after h lines points kind)
after_sound h lines points kind a n =
    let few : lines ≤ 525 = a.lines_few in
    let many : points ≤ 524288 = a.points_few in
    let lines_small = none_small kind lines (omega arith) in
    let clocks_small = none_small kind clock_limit (lit≤ tt) in
    both_of (omega arith) (λ id i. both_of (lit≤ tt) (λ pc j. both_of (omega (arith, lines_small)) (λ line k.
    both_of (omega (arith, clocks_small)) (λ clock o. (shape_fits h lines points (shape_of h kind true points) a refl n, entry_says kind id pc line clock)))))

abbrev entry_kinds : List (List ℕ)
entry_kinds = codes "main" ∷ codes "alone" ∷ []

not_handler : (n : ℕ) → entry_kind n ≡ Handler → true ≡ false
not_handler n e = grind (arith, nat_tests)

pub entry_sound : (h : Head) (lines points : ℕ) → PlacesAre h lines points → IsReadable (entry_form h lines points)
entry_sound h lines points a = λ n. after_sound h lines points (entry_kind n) a (not_handler n)

entry_so : (h : Head) (lines points : ℕ) (kind : Kind) (e : Entry) (q : Parts (entry_after h lines points kind)) → PlacesAre h lines points
    → EntryKindFits kind e → Fit (entry_after h lines points kind) q
    → reads (entry_form h lines points) (line (codes "entry" ∷ kind_word kind ∷ spells (entry_after h lines points kind) q))
    ≡ Ok (says (entry_after h lines points kind) q)
unfolding choice_of
entry_so h lines points Main e q a k f = form_again (entry_form h lines points) (0, q) (entry_sound h lines points a) (refl, f)
entry_so h lines points Handler e q a k f = absurd k
entry_so h lines points Alone e q a k f = form_again (entry_form h lines points) (1, q) (entry_sound h lines points a) (refl, f)

pub entry_again : (h : Head) (lines points : ℕ) (e : Entry) → PlacesAre h lines points → EntryFits h lines points e
    → reads (entry_form h lines points) (line (entry_words h.cells.items e)) ≡ Ok (parsed.Entry e)
entry_again h lines points e a f =
    let few : lines ≤ 525 = a.lines_few in
    let many : points ≤ 524288 = a.points_few in
    let kind = e.kind in
    let lines_small = none_small kind lines (omega arith) in
    let clocks_small = none_small kind clock_limit (lit≤ tt) in
    ap (λ ws. reads (entry_form h lines points)
    (line (codes "entry" ∷ kind_word kind ∷ decimal e.id ∷ decimal e.pc ∷ decimal e.line ∷ decimal e.clock ∷ ws)))
    (entry_items_are h.cells.items e)
    ∙ entry_so h lines points kind e (e.id, (e.pc, (e.line, (e.clock, facts_of e)))) a f.kind
    (both_of (one_of_so points e.id (omega arith) f.id) (both_of (within_so 0 32768 e.pc (lit≤ tt) (omega arith) f.pc)
    (both_of (within_so 0 (none_in_main kind lines) e.line lines_small (omega arith)
    (under_none kind lines e.line (λ m. (at_begin kind e f.kind m).0) f.line))
    (both_of (within_so 0 (none_in_main kind clock_limit) e.clock clocks_small (omega arith)
    (under_none kind clock_limit e.clock (λ m. (at_begin kind e f.kind m).1) f.clock)) (entry_sayable h lines points e f.facts)))))
    ∙ ap (λ (x : Entry). fine (parsed.Entry x)) (entry_back h e f.facts)

-- only

kind_read : (n : ℕ) → choice_of entry_kinds (word_at entry_kinds n) ≡ Ok n → word_at entry_kinds n ≡ kind_word (entry_kind n)
unfolding choice_of
kind_read zero e = refl
kind_read (suc zero) e = refl
kind_read (suc (suc n)) e = absurd cc

kind_fits : (kind : Kind) (e : Entry) → (kind ≡ Handler → true ≡ false) → (kind ≡ Main → e.line ≡ 0) → (kind ≡ Main → e.clock ≡ 0)
    → EntryKindFits kind e
kind_fits Main e n l c = (l refl, c refl)
kind_fits Handler e n l c = true_not true refl (n refl)
kind_fits Alone e n l c = tt

record FactsSaid (h : Head) (kind : Kind) (points : ℕ) (f : Facts) : Type 0 where
  pub regs_back : map range_fact (map span_of_fact f.regs) ≡ f.regs
  pub regs_fit : All (RangeFits 255) (map span_of_fact f.regs)
  pub regs_count : length (map span_of_fact f.regs) ≡ 32
  pub flag_count : length f.flags ≡ 7
  pub flags_fit : All (BitFits kind) f.flags
  pub stack_back : map range_fact (map span_of_fact f.stack.items) ≡ f.stack.items
  pub stack_fit : All (RangeFits 255) (map span_of_fact f.stack.items)
  pub slots : length (map span_of_fact f.stack.items) ≤ depth_of h kind
  pub cells_back : map range_fact (map span_of_fact f.cells.items) ≡ f.cells.items
  pub cells_fit : SpansFit (tracked h kind) (map span_of_fact f.cells.items)
  pub pairs : f.pairs ≡ AnyPair ∷ AnyPair ∷ AnyPair ∷ []
  pub next : f.next.items ≡ []
  pub listed : named_of f ≡ usuals named_items

facts_said : (h : Head) (kind : Kind) (points : ℕ) (f : Facts) → FactsFit (shape_of h kind true points) h.cells.items f → FactsSaid h kind
    points f
facts_said h kind points f r =
    let shape = shape_of h kind true points in
    let regs = all_of_each (FactIn (bytes_forms shape)) registers f.regs r.regs_fit in
    let cells = spans_out kind 0 h.cells.items f.cells.items
    (each_other (λ p x. FactIn (cell_form shape p.1) x) (λ p x. FactIn (entry_cell p.1) x) (numbered_cells kind 0 h.cells.items)
    f.cells.items
    (λ p x i. subst (λ (g : FactForms). FactIn g x) (entry_form_is shape p.1 refl) i) r.cells_fit) in
    record {
      regs_back = back f.regs regs;
      regs_fit = fit f.regs regs;
      regs_count = length-map f.regs span_of_fact ∙ each_length (λ k x. FactIn (bytes_forms shape) x) registers f.regs r.regs_fit;
      flag_count = each_length (λ k x. BitFits kind x) letters_of_flags f.flags r.flags_fit;
      flags_fit = all_of_each (BitFits kind) letters_of_flags f.flags r.flags_fit;
      stack_back = back f.stack.items r.stack_fit;
      stack_fit = fit f.stack.items r.stack_fit;
      slots = omega (arith, r.slots_fit, length-map f.stack.items span_of_fact);
      cells_back = cells.2;
      cells_fit = record { ranges = cells.0; within = cells.1 };
      pairs = r.plain_fit refl;
      next = r.next_fit.3 refl;
      listed = left_out named_items shape (named_of f) refl r.listed_fit;
    }
  where
    no_old : (b : Bool) → (b && false) ≡ false
    no_old true = refl
    no_old false = refl

    says : (x : Fact) → FactIn (bytes_forms (shape_of h kind true points)) x → SaysRange (bytes_forms (shape_of h kind true points)) x
    says x i = says_range (bytes_forms (shape_of h kind true points)) x refl refl (no_old (is_handler kind)) i

    back : (xs : List Fact) → All (FactIn (bytes_forms (shape_of h kind true points))) xs → map range_fact (map span_of_fact xs) ≡ xs
    back xs a = map_back (FactIn (bytes_forms (shape_of h kind true points))) span_of_fact range_fact xs (λ x i. (says x i).back) a

    fit : (xs : List Fact) → All (FactIn (bytes_forms (shape_of h kind true points))) xs → All (RangeFits 255) (map span_of_fact xs)
    fit xs a = all_map (FactIn (bytes_forms (shape_of h kind true points))) (RangeFits 255) span_of_fact xs (λ x i. (says x i).fits) a

spelled_entry : (h : Head) (kind : Kind) (points id pc line clock : ℕ) (f : Facts) → FactsSaid h kind points f
    → spelled kind h.cells.items f ≡ entry_items h.cells.items (entry_of kind id pc line clock f)
unfolding entry_of
spelled_entry h kind points id pc line clock f s =
    (λ i. register_items kind 0 (sym s.regs_back i) ++ (pair_items letters_of_pairs (s.pairs i) ++ (flag_items kind letters_of_flags f.flags
    ++ (slot_items (sym s.stack_back i) ++ (cell_items kind 0 h.cells.items (sym s.cells_back i)
    ++ (listed_items named_items (s.listed i) ++ successor_items (s.next i)))))))
    ∙ sym (entry_items_are h.cells.items (entry_of kind id pc line clock f))

entry_fits : (h : Head) (lines points : ℕ) (kind : Kind) (id pc line clock : ℕ) (f : Facts) → FactsSaid h kind points f
    → (kind ≡ Handler → true ≡ false)
    → id < points → pc < 32768 → (line < lines) × (kind ≡ Main → line ≡ 0) → (clock < clock_limit) × (kind ≡ Main → clock ≡ 0)
    → EntryFits h lines points (entry_of kind id pc line clock f)
unfolding entry_of
entry_fits h lines points kind id pc line clock f s n i p l c =
    record {
      kind = kind_fits kind (entry_of kind id pc line clock f) n l.1 c.1;
      id = i;
      pc = p;
      line = l.0;
      clock = c.0;
      facts = grind (arith, s);
    }

pub entry_only : (h : Head) (lines points : ℕ) (words : Words) (says : ParsedLine) → PlacesAre h lines points → 1 ≤ lines
    → reads (entry_form h lines points) words ≡ Ok says
    → (e : Entry) × (says ≡ parsed.Entry e) × (words ≡ line (entry_words h.cells.items e)) × EntryFits h lines points e
unfolding entry_of
entry_only h lines points words says a some e =
    let r = form_only (entry_form h lines points) words says (entry_sound h lines points a) e in
    made r.0.0 r.0.1.0 r.0.1.1.0 r.0.1.1.1.0 r.0.1.1.1.1.0 r.0.1.1.1.1.1 r.1 r.2 r.3.0 r.3.1.0.below r.3.1.1.0.below r.3.1.1.1.0.below
    r.3.1.1.1.1.0.below r.3.1.1.1.1.1
  where
    made : (n id pc at clock : ℕ) (f : Facts) → says ≡ parsed.Entry (entry_of (entry_kind n) id pc at clock f)
        → words ≡ line (codes "entry" ∷ word_at entry_kinds n ∷ decimal id ∷ decimal pc ∷ decimal at ∷ decimal clock
        ∷ spelled (entry_kind n) h.cells.items f)
        → choice_of entry_kinds (word_at entry_kinds n) ≡ Ok n → id < points → pc < 32768 → at < none_in_main (entry_kind n) lines
        → clock < none_in_main (entry_kind n) clock_limit → FactsFit (shape_of h (entry_kind n) true points) h.cells.items f
        → (e : Entry) × (says ≡ parsed.Entry e) × (words ≡ line (entry_words h.cells.items e)) × EntryFits h lines points e
    made n id pc at clock f told words_are choice i p l c fit =
        let kind = entry_kind n in
        let s = facts_said h kind points f fit in (
          entry_of kind id pc at clock f,
          told,
          words_are ∙ ap (λ w. line (codes "entry" ∷ w ∷ decimal id ∷ decimal pc ∷ decimal at ∷ decimal clock
              ∷ spelled kind h.cells.items f)) (kind_read n choice)
              ∙ ap (λ ws. line (codes "entry" ∷ kind_word kind ∷ decimal id ∷ decimal pc ∷ decimal at ∷ decimal clock ∷ ws))
              (spelled_entry h kind points id pc at clock f s),
          entry_fits h lines points kind id pc at clock f s (not_handler n) i p (none_under kind lines at some l)
              (none_under kind clock_limit clock (lit≤ tt) c),
        )
