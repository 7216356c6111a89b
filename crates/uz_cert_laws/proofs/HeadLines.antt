-- The lines of sizes, response, stack and cells.
use Rattle.uz_cert_laws.proofs.Common.{nat_tests, ◌≡◌, ◌⊎◌, ℕ, zero, suc, ◌+◌, ◌-◌, ◌<◌, ◌≤◌, List, [], ◌∷◌, decimal, codes, lit<, lit≤}
use Rattle.uz_cert_laws.proofs.Common.{refl, sym, ◌∙◌, ap, arith, Ok, CellFits, Head, Cell, Words, choice_of, ends, reads, least_of}
use Rattle.uz_cert_laws.proofs.Common.{ParsedLine, line, word_at}
use Rattle.uz_schedule.specs.declared.kinds.Owner.TheVariants.{Main as MainCell, Handler as HandlerCell}
use Rattle.uz_cert_lines.specs.Lines.{SizesFit, size_form, irq_form, response_of, stack_form, owner_of, off_stack, cell_form}
use Rattle.uz_cert_laws.specs.LineWords.{sizes_words, response_words, stack_line_words, with_stack}
use Rattle.uz_cert_laws.proofs.Numbers.{is_within, under_both, both_under, least_small, IsWithin}
use Rattle.uz_schedule.specs.{declared.kinds.Response.Response, declared.kinds.Response.TheVariants.Four}
use Rattle.uz_schedule.specs.{declared.kinds.Response.TheVariants.Five, WellFormed.StackFits, Schedule.response_clocks}
use Rattle.uz_schedule.specs.{declared.kinds.Owner.Owner}
use Rattle.uz_cert_writer.specs.Spelling.{owner_word, cell_words}
use Rattle.uz_cert_laws.proofs.{FormLaws.IsReadable, FormLaws.form_again, FormLaws.form_only, Tests.both_of, Tests.fine}
use Rattle.uz_cert_lines.specs.{declared.lines.Sizes.Sizes, declared.lines.StackLine.StackLine}
use Rattle.uz_cert_lines.specs.declared.lines.ParsedLine.TheVariants as parsed

-- size

pub size_sound : IsReadable size_form
size_sound = (lit≤ tt, λ k i. (lit≤ tt, λ l j. let few = j.below in (omega (arith, few), λ r o. (lit≤ tt, λ p q. (lit≤ tt, λ c t. tt)))))

pub size_again : (s : Sizes) → SizesFit s → reads size_form (line (sizes_words s)) ≡ Ok (parsed.Size s)
size_again s h =
    form_again size_form (s.kinds, (s.lines, (s.rests, (s.points, (s.cells, tt))))) size_sound
    (both_of (is_within 1 526 s.kinds (lit≤ tt) h.kinds_some (omega (arith, h.kinds_few)))
    (both_of (is_within 1 526 s.lines (lit≤ tt) h.lines_some (omega (arith, h.lines_few)))
    (both_of (is_within 0 (s.lines + 1) s.rests (omega (arith, h.lines_few)) (omega arith) (omega (arith, h.rests_few)))
    (both_of (is_within 1 524289 s.points (lit≤ tt) h.points_some (omega (arith, h.points_few)))
    (is_within 0 17 s.cells (lit≤ tt) (omega arith) (omega (arith, h.cells_few)), tt)))))

pub size_only : (words : Words) (says : ParsedLine) → reads size_form words ≡ Ok says
    → (s : Sizes) × (says ≡ parsed.Size s) × (words ≡ line (sizes_words s)) × SizesFit s
size_only words says e =
    let r = form_only size_form words says size_sound e in
    let p = r.0 in
    let f = r.3 in (
      record { kinds = p.0; lines = p.1.0; rests = p.1.1.0; points = p.1.1.1.0; cells = p.1.1.1.1.0 },
      r.1,
      r.2,
      grind (arith, f.0.low, f.0.below, f.1.0.low, f.1.0.below, f.1.1.0.below, f.1.1.1.0.low, f.1.1.1.0.below, f.1.1.1.1.0.below),
    )

-- irq

pub irq_sound : IsReadable irq_form
irq_sound = (lit≤ tt, λ n i. tt)

pub irq_again : (r : Response) → reads irq_form (line (response_words r)) ≡ Ok (parsed.Irq r)
irq_again Four = form_again irq_form (4, tt) irq_sound (is_within 4 6 4 (lit≤ tt) (lit≤ tt) (lit< tt), tt)
irq_again Five = form_again irq_form (5, tt) irq_sound (is_within 4 6 5 (lit≤ tt) (lit≤ tt) (lit< tt), tt)

response_is : (n : ℕ) → 4 ≤ n → n < 6 → response_clocks (response_of n) ≡ n
response_is n a b = grind (arith, nat_tests)

pub irq_only : (words : Words) (says : ParsedLine) → reads irq_form words ≡ Ok says
    → (r : Response) × (says ≡ parsed.Irq r) × (words ≡ line (response_words r))
irq_only words says e =
    let r = form_only irq_form words says irq_sound e in (
      response_of r.0.0,
      r.1,
      r.2 ∙ ap (λ n. line (codes "irq" ∷ decimal n ∷ [])) (sym (response_is r.0.0 r.3.0.low r.3.0.below)),
    )

-- stack

pub stack_sound : IsReadable stack_form
stack_sound =
    both_of (lit≤ tt) (λ lo i. both_of (lit≤ tt) (λ hi j. both_of (omega (arith, least_small 33 (hi - lo) (lit≤ tt)))
    (λ m k. (omega (arith, least_small 33 (hi - lo - m) (lit≤ tt)), λ n o. tt))))

pub stack_again : (h : Head) (s : StackLine) → StackFits (with_stack h s) → reads stack_form (line (stack_line_words s))
    ≡ Ok (parsed.Stack s)
stack_again h s f =
    let low : 256 ≤ s.lo = f.low in
    let order : s.lo ≤ s.hi = f.order in
    let high : s.hi ≤ 4351 = f.high in
    let main : s.main ≤ 32 = f.main in
    let handler : s.handler ≤ 32 = f.handler in
    let room : s.main + 2 + s.handler ≤ s.hi - s.lo + 1 = f.room in
    form_again stack_form (s.lo, (s.hi, (s.main, (s.handler, tt)))) stack_sound
    (both_of (is_within 256 4351 s.lo (lit≤ tt) low (omega arith))
    (both_of (is_within (s.lo + 1) 4352 s.hi (lit≤ tt) (omega arith) (omega arith))
    (both_of (is_within 0 (least_of 33 (s.hi - s.lo)) s.main (least_small 33 (s.hi - s.lo) (lit≤ tt)) (omega arith)
    (under_both 33 (s.hi - s.lo) s.main (omega arith) (omega arith)))
    (both_of (is_within 0 (least_of 33 (s.hi - s.lo - s.main)) s.handler (least_small 33 (s.hi - s.lo - s.main) (lit≤ tt)) (omega arith)
    (under_both 33 (s.hi - s.lo - s.main) s.handler (omega arith) (omega arith))) tt))))

pub stack_only : (words : Words) (says : ParsedLine) → reads stack_form words ≡ Ok says
    → (s : StackLine) × (says ≡ parsed.Stack s) × (words ≡ line (stack_line_words s)) × ((h : Head) → StackFits (with_stack h s))
stack_only words says e =
    let r = form_only stack_form words says stack_sound e in
    let p = r.0 in
    let f = r.3 in
    let lo = p.0 in
    let hi = p.1.0 in
    let main = both_under 33 (hi - lo) p.1.1.0 f.1.1.0.below in
    let handler = both_under 33 (hi - lo - p.1.1.0) p.1.1.1.0 f.1.1.1.0.below in
    let order : lo + 1 ≤ hi = f.1.0.low in
    let high : hi < 4352 = f.1.0.below in (
      record { lo = lo; hi = hi; main = p.1.1.0; handler = p.1.1.1.0 },
      r.1,
      r.2,
      λ h. grind (arith, f.0.low, order, high, main.0, handler.0, main.1, handler.1),
    )

-- cell

abbrev owners : List (List ℕ)
owners = codes "main" ∷ codes "handler" ∷ []

abbrev owner_place : Owner → ℕ
owner_place MainCell = 0
owner_place HandlerCell = 1

owner_again : (o : Owner) → choice_of owners (word_at owners (owner_place o)) ≡ Ok (owner_place o)
unfolding choice_of
owner_again MainCell = refl
owner_again HandlerCell = refl

owner_spelled : (o : Owner) → owner_word o ≡ word_at owners (owner_place o)
owner_spelled MainCell = refl
owner_spelled HandlerCell = refl

owner_back : (o : Owner) → owner_of (owner_place o) ≡ o
owner_back MainCell = refl
owner_back HandlerCell = refl

owner_read : (n : ℕ) → choice_of owners (word_at owners n) ≡ Ok n → word_at owners n ≡ owner_word (owner_of n)
unfolding choice_of
owner_read zero e = refl
owner_read (suc zero) e = refl
owner_read (suc (suc n)) e = absurd cc

off_stack_so : (lo hi least n : ℕ) → 256 ≤ n → n ≤ 4351 → ((n < lo) ⊎ (hi < n)) → least ≤ n → IsWithin (off_stack lo hi least) n
off_stack_so lo hi least n a b d l = grind arith

pub cell_sound : (lo hi least : ℕ) → IsReadable (cell_form lo hi least)
cell_sound lo hi least = (lit≤ tt, λ at i o. (lit≤ tt, λ low j. (lit≤ tt, λ high k. tt)))

pub cell_again : (h : Head) (least : ℕ) (c : Cell) → CellFits h c → least ≤ c.at → reads (cell_form h.lo h.hi least) (line (cell_words c))
    ≡ Ok (parsed.Cell c)
cell_again h least c f l =
    let order : c.range.lo ≤ c.range.hi = f.range.order in
    let high : c.range.hi ≤ 255 = f.range.high in
    ap (λ w. reads (cell_form h.lo h.hi least) (line (codes "cell" ∷ decimal c.at ∷ w ∷ decimal c.range.lo ∷ decimal c.range.hi ∷ [])))
    (owner_spelled c.owner)
    ∙ form_again (cell_form h.lo h.hi least) (c.at, (owner_place c.owner, (c.range.lo, (c.range.hi, tt)))) (cell_sound h.lo h.hi least)
    (both_of (off_stack_so h.lo h.hi least c.at f.low f.high f.off_stack l) (both_of (owner_again c.owner)
    (both_of (is_within 0 256 c.range.lo (lit≤ tt) (omega arith) (omega arith))
    (is_within c.range.lo 256 c.range.hi (lit≤ tt) order (omega arith), tt))))
    ∙ ap (λ (o : Owner). fine (parsed.Cell (record { at = c.at; owner = o; range = ends c.range.lo c.range.hi }))) (owner_back c.owner)

pub cell_only : (h : Head) (least : ℕ) (words : Words) (says : ParsedLine) → reads (cell_form h.lo h.hi least) words ≡ Ok says
    → (c : Cell) × (says ≡ parsed.Cell c) × (words ≡ line (cell_words c)) × CellFits h c × (least ≤ c.at)
cell_only h least words says e =
    let r = form_only (cell_form h.lo h.hi least) words says (cell_sound h.lo h.hi least) e in
    let p = r.0 in
    let f = r.3 in (
      record { at = p.0; owner = owner_of p.1.0; range = ends p.1.1.0 p.1.1.1.0 },
      r.1,
      r.2 ∙ ap (λ w. line (codes "cell" ∷ decimal p.0 ∷ w ∷ decimal p.1.1.0 ∷ decimal p.1.1.1.0 ∷ [])) (owner_read p.1.0 f.1.0),
      grind (arith, f.0.low, f.0.below, f.0.outside, f.1.1.1.0.low, f.1.1.1.0.below),
      f.0.least,
    )
