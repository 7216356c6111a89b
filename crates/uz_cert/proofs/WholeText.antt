-- Whole texts: a certificate's text is read as it, and a text that is read is its certificate's.
use Rattle.uz_cert.proofs.Common.{Gives, CertError, Result, IfOk, EachLacks, ◌≡◌, ℕ, Bool, true, false, cond, List, [], ◌∷◌, length}
use Rattle.uz_cert.proofs.Common.{bytes_eq, zero-add, refl, sym, ◌∙◌, ap, subst, arith, Ok, Err, All-weaker, Lacks, StackFits, CellFits}
use Rattle.uz_cert.proofs.Common.{WellFormed, Head, Cert, runs_of, spelling, Sizes, first_draft, head_line, SizesFit, Version, First}
use Rattle.uz_cert.proofs.Common.{Second, Third, Kept, pieces_of, is_more, or_fault, cert_from, read_from, read_pieces, cert_of_text}
use Rattle.uz_cert.proofs.Common.{IsOfVersion, Draft, RuleVersion, Response}
use Rattle.std.specs.List.{join_with_byte}
use Rattle.uz_hex.proofs.Plain.{split_join}
use Rattle.uz_cert_writer.specs.Spelling.{lines_of_certificate}
use Rattle.uz_cert_lines.specs.declared.lines.StackLine.{StackLine}
use Rattle.uz_cert_laws.proofs.Numbers.{lacks_is}
use Rattle.uz_cert.proofs.SpelledText.{IsReadAs, step, cells_again, kinds_again, fall_again, with_kinds, with_cells}
use Rattle.uz_cert.proofs.{Lines.LineSpelling, LinesSoFar.later_lines, TextLaws.told, TextLaws.head_read, NextLine.FitsIn}
use Rattle.uz_cert.proofs.{NextLine.lines_back, Runs.expand_runs, Runs.all_runs, Runs.runs_apart, KeptLaws.first_kept, KeptLaws.kept_next}
use Rattle.uz_cert.proofs.{KeptLaws.same_cell, ExpectedLineLaws.due_size, ExpectedLineLaws.due_irq, ExpectedLineLaws.due_stack}
use Rattle.std.proofs.{lemmas.Slice.Eq.bytes_eq-Decides, lemmas.List.Splits.join_with_byte-slice_split}
use Rattle.uz_cert_lines.specs.declared.lines.ParsedLine.TheVariants as parsed
use Rattle.uz_cert_lines.specs.declared.why.CertWhy.TheVariants as why

-- the opening

abbrev draft_sizes : Version → Sizes → Draft
draft_sizes v s = record (first_draft v) { read = 2; sizes = s }

abbrev draft_irq : Version → Sizes → Response → Draft
draft_irq v s r = record (first_draft v) { read = 3; sizes = s; head = record (first_draft v).head { irq = r } }

abbrev draft_stack : Version → Sizes → Response → StackLine → RuleVersion → Draft
draft_stack v s r t rules = record (first_draft v) {
  read = 4;
  sizes = s;
  head = record {
    irq = r;
    lo = t.lo;
    hi = t.hi;
    main = t.main;
    handler = t.handler;
    cells = record { items = [] };
    version = rules;
  };
}

-- a certificate's text is read as it

abbrev sizes_of : Cert → Sizes
sizes_of c = record {
  kinds = length c.schedule.kinds;
  lines = length c.schedule.lines;
  rests = length c.rests;
  points = length c.points;
  cells = length c.head.cells.items;
}

abbrev stack_of : Head → StackLine
stack_of h = record { lo = h.lo; hi = h.hi; main = h.main; handler = h.handler }

sizes_fit : (c : Cert) → WellFormed c → SizesFit (sizes_of c)
sizes_fit c w =
    let s = w.schedule in
    grind (arith, s.kinds.some, s.kinds.few, s.lines.some, s.lines.few, w.rests.few, w.points.some, w.points.few, w.head.few)

-- after the opening
middle_again : (l : LineSpelling) (v : Version) (c : Cert) → WellFormed c → IsOfVersion v c
    → Kept (draft_stack v (sizes_of c) c.head.irq (stack_of c.head) c.head.version)
    → IsReadAs (draft_stack v (sizes_of c) c.head.irq (stack_of c.head) c.head.version) c
middle_again l v c w own kept =
    let d = draft_stack v (sizes_of c) c.head.irq (stack_of c.head) c.head.version in
    let fits = All-weaker (CellFits c.head) (CellFits d.head) (λ x f. same_cell c.head d.head x refl refl f) c.head.cells.items w.head.cells in
    cells_again l d c.head.cells.items c kept (omega arith) (zero-add (length c.head.cells.items)) fits w.head.rise (λ read least b k.
    kinds_again l (with_cells d read least c.head.cells.items) c.schedule.kinds c.schedule.lengths c k b refl (refl, refl, refl, refl)
    (zero-add (length c.schedule.kinds)) w.schedule.kinds.each w.schedule.lengths own.lengths (λ n few all.
    let d_kinds : Draft = with_kinds (with_cells d read least c.head.cells.items) n c.schedule.kinds c.schedule.lengths in
    let lines = expand_runs c.schedule.lines in
    let most = w.schedule.kinds.few in
    subst (λ ls. IsReadAs d_kinds
    (cert_from (record d_kinds { fall = c.schedule.fall; lines = ls; rests = c.rests; points = c.points }) c.entry)) lines
    (fall_again l d_kinds c.schedule.fall (runs_of c.schedule.lines) c.rests c.entry c.points all few (refl, refl, refl) refl
    w.schedule.fall_some w.schedule.fall_in_line refl
    (runs_apart (length c.schedule.kinds) 4294967295 c.schedule.lines (omega (arith, most)) w.schedule.lines.there)
    (all_runs (length c.schedule.kinds) c.schedule.lines w.schedule.lines.there) (ap (λ ls. length ls) lines)
    ((zero-add (length c.rests), w.rests.each, w.rests.rise), (refl, refl, refl, refl, w.entry, w.points.each, own.points, w.points.instances)))))

lines_again : (l : LineSpelling) (v : Version) (c : Cert) → WellFormed c → IsOfVersion v c → IsReadAs (first_draft v) c
lines_again l v c w own =
    let sizes = sizes_fit c w in
    let s = w.head.stack in
    let d_size = draft_sizes v (sizes_of c) in
    let d_irq = draft_irq v (sizes_of c) c.head.irq in
    let stack : StackFits (record d_irq.head { lo = c.head.lo; hi = c.head.hi; main = c.head.main; handler = c.head.handler }) =
    grind (arith, s) in
    let is_size = due_size (first_draft v) refl in
    let is_irq = due_irq d_size refl in
    let is_stack = due_stack d_irq refl in
    let kept_size = kept_next (first_draft v) (parsed.Size (sizes_of c)) (first_kept v) is_size (omega arith, sizes) in
    let kept_irq = kept_next d_size (parsed.Irq c.head.irq) kept_size is_irq (omega arith) in
    let kept_stack = kept_next d_irq (parsed.Stack (stack_of c.head)) kept_irq is_stack (omega arith, stack) in
    step l (first_draft v) (parsed.Size (sizes_of c)) c (first_kept v) is_size (omega arith, sizes)
    (step l d_size (parsed.Irq c.head.irq) c kept_size is_irq (omega arith)
    (step l d_irq (parsed.Stack (stack_of c.head)) c kept_irq is_stack (omega arith, stack)
    (subst (λ rules. IsReadAs (draft_stack v (sizes_of c) c.head.irq (stack_of c.head) rules) c) own.rules
    (middle_again l v c w own (subst (λ rules. Kept (draft_stack v (sizes_of c) c.head.irq (stack_of c.head) rules)) (sym own.rules)
    kept_stack)))))

-- whole texts

head_lacks : (v : Version) → Lacks 10 (head_line v)
head_lacks First = lacks_is 10 (head_line First) refl
head_lacks Second = lacks_is 10 (head_line Second) refl
head_lacks Third = lacks_is 10 (head_line Third) refl

-- the lines that are read as a certificate are those of its text
pub spelling_read : (l : LineSpelling) (v : Version) (c : Cert) → WellFormed c → IsOfVersion v c
    → cert_of_text v (spelling v c) ≡ told c
spelling_read l v c w own =
    let r = lines_again l v c w own in
    let back = lines_back l v r.lines c r.read in
    ap (read_pieces v) (split_join 10 (head_line v) (later_lines v c) (head_lacks v) (subst (EachLacks 10) back.1 back.0))
    ∙ (head_read v (later_lines v c) refl ∙ subst (λ xs. read_from (first_draft v) xs ≡ told c) back.1 r.read)

head_of : (v : Version) (line : List ℕ) (rest : List (List ℕ)) (c : Cert) → read_pieces v (line ∷ rest) ≡ told c
    → (line ≡ head_line v) × (read_from (first_draft v) rest ≡ told c)
head_of v line rest c e = by (bytes_eq line (head_line v)) refl (is_more rest) e
  where
    by : (t : Bool) → bytes_eq line (head_line v) ≡ t → (m : Bool)
        → or_fault 1 (cond t (cond m (Ok (first_draft v)) (Err why.NoEnd)) (Err why.Head)) (λ d. read_from d rest) ≡ told c
        → (line ≡ head_line v) × (read_from (first_draft v) rest ≡ told c)
    by true is true h = ((bytes_eq-Decides line (head_line v)).0 is, h)
    by true is false h = absurd cc
    by false is m h = absurd cc

pieces_spelled : (l : LineSpelling) (v : Version) (pieces : List (List ℕ)) (c : Cert) → read_pieces v pieces ≡ told c
    → pieces ≡ lines_of_certificate v c
pieces_spelled l v [] c e = absurd cc
pieces_spelled l v (line ∷ rest) c e =
    let h = head_of v line rest c e in
    ap (λ x. x ∷ rest) h.0 ∙ ap (λ xs. head_line v ∷ xs) (lines_back l v rest c h.1).1

pub text_spelled : (l : LineSpelling) (v : Version) (text : List ℕ) (c : Cert) → cert_of_text v text ≡ told c → text ≡ spelling v c
text_spelled l v text c e = sym (join_with_byte-slice_split 10 text) ∙ ap (join_with_byte 10) (pieces_spelled l v (pieces_of text) c e)

-- what is read of a text fits its version
pub text_fits : (l : LineSpelling) (version : Version) (text : List ℕ) (c : Cert) → cert_of_text version text ≡ told c → FitsIn version c
text_fits l version text c e = by (pieces_of text) e
  where
    by : (pieces : List (List ℕ)) → read_pieces version pieces ≡ told c → FitsIn version c
    by [] h = absurd cc
    by (line ∷ rest) h = (lines_back l version rest c (head_of version line rest c h).1).2

pub gives_version : (l : LineSpelling) (version : Version) (text : List ℕ) (result : Result Cert CertError) → Gives result (cert_of_text version text)
    → IfOk result (IsOfVersion version)
gives_version l version text (Ok c) g = (text_fits l version text c g).1
gives_version l version text (Err e) g = tt
