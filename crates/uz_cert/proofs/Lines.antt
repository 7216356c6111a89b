-- A line that fits where it is due has plain words: it is cut into them again, and has no line end.
use Rattle.uz_cert.proofs.Common.{◌≡◌, ℕ, Bool, true, false, List, [], ◌∷◌, ◌++◌, map, decimal, refl, sym, ◌∙◌, ap, Some, Ok, Lacks, Cell}
use Rattle.uz_cert.proofs.Common.{Head, Entry, Point, Words, reads, ParsedLine, Version, First, Second, Third, line_of, line}
use Rattle.uz_cert.proofs.Common.{expected_line, form_of, Kept, SaidFits, words_in, expected_as, said_words, ExpectedLine, Draft}
use Rattle.uz_hex.proofs.Plain.{EachPlain, plain, each_plain_append}
use Rattle.uz_schedule.specs.declared.lines.EventKind.{EventKind}
use Rattle.uz_cert_lines.specs.Named.{values_of}
use Rattle.uz_cert_writer.specs.Spelling.{signed_word, owner_word, kind_word, truth_word, length_words, event_kind_words, entry_items}
use Rattle.uz_cert_writer.specs.Spelling.{range_facts, point_items}
use Rattle.uz_cert_laws.proofs.Plains.{words_only, plain_again, line_lacks, plain_number, plain_numbers, plain_signed, plain_spans}
use Rattle.uz_cert_laws.proofs.Plains.{plain_registers, plain_pairs, plain_flags, plain_slots, plain_cells, plain_listed}
use Rattle.uz_cert_laws.proofs.Plains.{plain_successors}
use Rattle.uz_schedule.specs.{Schedule.response_clocks, declared.kinds.Kind.Kind, declared.kinds.Owner.Owner}
use Rattle.uz_schedule.specs.declared.kinds.Kind.TheVariants as kind
use Rattle.uz_schedule.specs.declared.kinds.Owner.TheVariants as owner
use Rattle.uz_schedule.specs.declared.lines.EventKind.TheVariants as event
use Rattle.uz_cert_lines.specs.declared.lines.ParsedLine.TheVariants as parsed

-- what is known of one line where it is due
pub record LineSpelling : Type 0 where
  pub again : (d : Draft) (s : ParsedLine) → Kept d → expected_line d ≡ Some (expected_as s) → SaidFits d s
      → reads (form_of d (expected_as s)) (line (said_words d.version d.head s)) ≡ Ok s
  pub only : (d : Draft) (expected : ExpectedLine) (words : Words) (s : ParsedLine) → Kept d → expected_line d ≡ Some expected → reads (form_of d expected) words ≡ Ok s
      → (words ≡ line (said_words d.version d.head s)) × (expected ≡ expected_as s) × SaidFits d s

-- the words that say a line have no blank

plain_owner : (o : Owner) → plain (owner_word o) ≡ true
plain_owner owner.Main = refl
plain_owner owner.Handler = refl

plain_kind : (k : Kind) → plain (kind_word k) ≡ true
plain_kind kind.Main = refl
plain_kind kind.Handler = refl
plain_kind kind.Alone = refl

plain_truth : (b : Bool) → plain (truth_word b) ≡ true
plain_truth true = refl
plain_truth false = refl

plain_length : (v : Version) (clocks : ℕ) → EachPlain (length_words v clocks)
plain_length First clocks = tt
plain_length Second clocks = plain_numbers (clocks ∷ [])
plain_length Third clocks = plain_numbers (clocks ∷ [])

plain_event : (k : EventKind) → EachPlain (event_kind_words k)
plain_event (event.Sync level) = (refl, plain_numbers (level ∷ []))
plain_event event.Pixel = (refl, tt)
plain_event event.Sound = (refl, tt)
plain_event event.Leave = (refl, tt)

-- words after others
then : (ns : List ℕ) (ws : List (List ℕ)) → EachPlain ws → EachPlain (map decimal ns ++ ws)
then ns ws h = each_plain_append (map decimal ns) ws (plain_numbers ns) h

entry_plain : (cells : List Cell) (e : Entry) → EachPlain (entry_items cells e)
entry_plain cells e =
    each_plain_append _ _ (plain_registers e.kind (range_facts e.regs)) (each_plain_append _ _ (plain_flags e.kind e.flags)
    (each_plain_append _ _ (plain_slots (range_facts e.stack.items)) (plain_cells e.kind cells (range_facts e.cells.items))))

point_plain : (cells : List Cell) (p : Point) → EachPlain (point_items cells p)
point_plain cells p =
    each_plain_append _ _ (plain_registers p.kind p.regs) (each_plain_append _ _ (plain_pairs p.pairs)
    (each_plain_append _ _ (plain_flags p.kind p.flags) (each_plain_append _ _ (plain_slots p.stack.items)
    (each_plain_append _ _ (plain_cells p.kind cells p.cells.items) (each_plain_append _ _ (plain_listed (values_of p))
    (plain_successors p.next.items))))))

plain_words : (v : Version) (h : Head) (s : ParsedLine) → EachPlain (said_words v h s)
plain_words v h (parsed.Size s) = (refl, plain_numbers (s.kinds ∷ s.lines ∷ s.rests ∷ s.points ∷ s.cells ∷ []))
plain_words v h (parsed.Irq r) = (refl, plain_numbers (response_clocks r ∷ []))
plain_words v h (parsed.Stack s) = (refl, plain_numbers (s.lo ∷ s.hi ∷ s.main ∷ s.handler ∷ []))
plain_words v h (parsed.Cell c) =
    (refl, (plain_number c.at, (plain_owner c.owner, plain_numbers (c.range.lo ∷ c.range.hi ∷ []))))
plain_words v h (parsed.Kind n) = (refl, then (n.events ∷ []) _ (plain_length v n.clocks))
plain_words v h (parsed.Event x) = then (x.clock ∷ []) _ (plain_event x.kind)
plain_words v h (parsed.Fall n) = (refl, plain_numbers (n ∷ []))
plain_words v h (parsed.Run r) = (refl, plain_numbers (r.count ∷ r.kind ∷ []))
plain_words v h (parsed.Rest r) = (refl, then (r.line ∷ r.clock ∷ r.vector ∷ []) _ (plain_spans r.cells.items))
plain_words v h (parsed.Entry x) =
    (refl, (plain_kind x.kind, then (x.id ∷ x.pc ∷ x.line ∷ x.clock ∷ []) _ (entry_plain h.cells.items x)))
plain_words v h (parsed.Point p) = (
  refl,
  (
    plain_kind p.kind,
    then (p.pc ∷ p.l0 ∷ p.l1 ∷ p.c0 ∷ p.c1 ∷ p.clock ∷ [])
        (signed_word p.slope ∷ truth_word p.pending ∷ point_items h.cells.items p) (plain_signed p.slope, (plain_truth p.pending, point_plain h.cells.items p)),
  ),
)
plain_words v h parsed.End = (refl, tt)

-- a line is cut into the words that it was joined from

cut_again : (w v : List ℕ) (ws : List (List ℕ)) → EachPlain (w ∷ v ∷ ws) → words_in (line_of (w ∷ v ∷ ws)) true ≡ line (w ∷ v ∷ ws)
cut_again w v ws p = ap line (plain_again w v ws p)

pub line_cut : (v : Version) (h : Head) (s : ParsedLine) → words_in (line_of (said_words v h s)) true ≡ line (said_words v h s)
line_cut v h (parsed.Size s) = cut_again _ _ _ (plain_words v h (parsed.Size s))
line_cut v h (parsed.Irq r) = cut_again _ _ _ (plain_words v h (parsed.Irq r))
line_cut v h (parsed.Stack s) = cut_again _ _ _ (plain_words v h (parsed.Stack s))
line_cut v h (parsed.Cell c) = cut_again _ _ _ (plain_words v h (parsed.Cell c))
line_cut v h (parsed.Kind n) = cut_again _ _ _ (plain_words v h (parsed.Kind n))
line_cut v h (parsed.Event x) = cut_event x.kind (plain_words v h (parsed.Event x))
  where
    cut_event : (k : EventKind) → EachPlain (decimal x.clock ∷ event_kind_words k)
        → words_in (line_of (decimal x.clock ∷ event_kind_words k)) true ≡ line (decimal x.clock ∷ event_kind_words k)
    cut_event (event.Sync level) p = cut_again _ _ _ p
    cut_event event.Pixel p = cut_again _ _ _ p
    cut_event event.Sound p = cut_again _ _ _ p
    cut_event event.Leave p = cut_again _ _ _ p
line_cut v h (parsed.Fall n) = cut_again _ _ _ (plain_words v h (parsed.Fall n))
line_cut v h (parsed.Run r) = cut_again _ _ _ (plain_words v h (parsed.Run r))
line_cut v h (parsed.Rest r) = cut_again _ _ _ (plain_words v h (parsed.Rest r))
line_cut v h (parsed.Entry x) = cut_again _ _ _ (plain_words v h (parsed.Entry x))
line_cut v h (parsed.Point p) = cut_again _ _ _ (plain_words v h (parsed.Point p))
line_cut v h parsed.End = refl

-- and only so
pub joined : (text : List ℕ) (ended : Bool) (ws : List (List ℕ)) → words_in text ended ≡ line ws → text ≡ line_of ws
joined text ended ws e = sym (words_only text) ∙ ap (λ x. line_of x.list) e

pub no_line_end : (v : Version) (h : Head) (s : ParsedLine) → Lacks 10 (line_of (said_words v h s))
no_line_end v h s = line_lacks (said_words v h s) (plain_words v h s)
