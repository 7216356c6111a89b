-- What reading gives is what the relation over all lines says, both ways.
use Rattle.uz_cert.proofs.Common.{◌≡◌, ℕ, Bool, true, false, cond, List, [], ◌∷◌, refl, sym, ◌∙◌, ap, Ok, Cell, ◌>>=◌, Words, reads}
use Rattle.uz_cert.proofs.Common.{ParsedLine, true_not, ◌≢◌, ◌⊎◌, inl, inr, suc, ◌+◌, ◌≤◌, ◌++◌, length, bytes_eq, subst, arith, Option}
use Rattle.uz_cert.proofs.Common.{Some, None, Result, Err, IfOk, IfErr, Entry, Cert, head_line, Version, First, Second, Third, CertWhy}
use Rattle.uz_cert.proofs.Common.{first_draft, lacks, expected_line, form_of, draft_after, Fault, Gives, IsMemory, pieces_of, is_more}
use Rattle.uz_cert.proofs.Common.{words_in, line_says, or_fault, cert_from, cert_with, cert_before, read_by, read_from, read_pieces}
use Rattle.uz_cert.proofs.Common.{cert_of_text, IsCertificateText, IsFirstFault, ExpectedLine, Draft, CertError}
use Rattle.uz_cert_lines.specs.Forms.{LineForm, with_span, spans_of, fixed, number, choice, slope, spans, items, finish}
use Rattle.uz_cert.specs.Texts.{Adds, Reaches, SpellsCertificate, HeadFails, LineFails, FailsAtHead, FailsLater}
use Rattle.uz_cert_lines.specs.{FirstFault.ItemsSay, FirstFault.Allows, FirstFault.HasFirstFault, Grammar.rest_of, Grammar.next_as}
use Rattle.uz_cert_lines.specs.{Grammar.end_of, Values.span_of, declared.items.Shape.Shape, declared.items.Facts.Facts, Items.first_facts}
use Rattle.uz_cert_laws.proofs.Tests.{bind_ok, fine_is, word_is, same_word, fine}
use Rattle.uz_schedule.specs.{Ends.Ends, Tracked.tracks, declared.kinds.Kind.TheVariants.Handler}
use Rattle.uz_cert.proofs.{Pieces.some_piece, ExpectedLineLaws.is_whole}
use Rattle.uz_cert_lines.specs.declared.why.CertWhy.TheVariants as why

end_ended : (ended : Bool) (list : List (List ℕ)) (n : ℕ) → end_of ended list ≡ Ok n → ended ≡ true
end_ended true list n e = refl
end_ended false [] n e = absurd cc
end_ended false (w ∷ ws) n e = absurd cc

items_ended : (shape : Shape) (cells : List Cell) (ended : Bool) (f : Facts) (words : List (List ℕ)) (said : Facts)
    → ItemsSay shape cells ended f words said → ended ≡ true
items_ended shape cells ended f [] said a = a.0
items_ended shape cells ended f (w ∷ ws) said a = items_ended shape cells ended a.0 ws said a.2

spans_ended : (cells : List Cell) (words : Words) (p : List Ends × Words) → spans_of cells words ≡ Ok p → p.1.ended ≡ words.ended
spans_ended [] words p e = sym (ap (λ q. q.1.ended) (fine_is ([], words) p e))
spans_ended (m ∷ ms) words p e = by (tracks Handler m.owner) e (λ rest q g. spans_ended ms rest q g)
  where
    by : (t : Bool) → cond t (next_as (span_of m.range) words >>= (λ x. with_span x (spans_of ms (rest_of words)))) (spans_of ms words) ≡ Ok
        p
        → ((rest : Words) (q : List Ends × Words) → spans_of ms rest ≡ Ok q → q.1.ended ≡ rest.ended) → p.1.ended ≡ words.ended
    by false g later = later words p g
    by true g later =
        let a = bind_ok (next_as (span_of m.range) words) (λ x. with_span x (spans_of ms (rest_of words))) p g in
        let b = bind_ok (spans_of ms (rest_of words)) (λ q. Ok (a.0 ∷ q.0, q.1)) p a.2 in
        sym (ap (λ q. q.1.ended) (fine_is (a.0 ∷ b.0.0, b.0.1) p b.2)) ∙ later (rest_of words) b.0 b.1

-- a line that a form allows ends in LF
line_ended : (form : LineForm) (words : Words) (said : ParsedLine) → Allows form words said → words.ended ≡ true
line_ended (fixed wanted form) words said a = line_ended form (rest_of words) said a.2
line_ended (number b form) words said a = line_ended (form a.0) (rest_of words) said a.2
line_ended (choice wanted form) words said a = line_ended (form a.0) (rest_of words) said a.2
line_ended (slope limit form) words said a = line_ended (form a.0) (rest_of words) said a.2
line_ended (spans cells form) words said a = sym (spans_ended cells words a.0 a.1) ∙ line_ended (form a.0.0) a.0.1 said a.2
line_ended (items shape cells say) words said a =
    items_ended shape cells words.ended (first_facts shape.kind cells) words.list a.0 a.1
line_ended (finish s) words said a = end_ended words.ended words.list 0 a.0

-- what is known of one line
pub record LineLaw : Type 0 where
  pub read : (form : LineForm) (words : Words) (s : ParsedLine) → reads form words ≡ Ok s → Allows form words s
  pub allowed : (form : LineForm) (words : Words) (s : ParsedLine) → Allows form words s → reads form words ≡ Ok s
  pub refused : (form : LineForm) (words : Words) (w : CertWhy) → reads form words ≡ Err w → HasFirstFault form words w
  pub faulty : (form : LineForm) (words : Words) (w : CertWhy) → HasFirstFault form words w → reads form words ≡ Err w

abbrev pub told : Cert → Result Cert Fault
told c = Ok c

abbrev fault : ℕ → CertWhy → Result Cert Fault
fault n w = Err (n, w)

pub same_cert : (a b : Cert) → told a ≡ told b → a ≡ b
same_cert a b e = cc

abbrev fault_of : ℕ → CertWhy → Fault
fault_of n w = (n, w)

same_fault : (m n : ℕ) (v w : CertWhy) → fault m v ≡ fault n w → (m ≡ n) × (v ≡ w)
same_fault m n v w e =
    let pair : fault_of m v ≡ fault_of n w = cc in
    (ap (λ p. p.0) pair, ap (λ p. p.1) pair)

-- one line

-- what it says, by how its words are read
pub line_said : (d : Draft) (expected : ExpectedLine) (line : List ℕ) (ended : Bool) (r : Result ParsedLine CertWhy)
    → reads (form_of d expected) (words_in line ended) ≡ r → line_says d expected line ended ≡ r >>= (λ s. fine (draft_after d s))
unfolding line_says
line_said d expected line ended r e = ap (λ m. m >>= (λ s. fine (draft_after d s))) e

pub says_ok : (d m : Draft) (expected : ExpectedLine) (line : List ℕ) (ended : Bool) → line_says d expected line ended ≡ Ok m
    → (s : ParsedLine) × (reads (form_of d expected) (words_in line ended) ≡ Ok s) × (m ≡ draft_after d s)
unfolding line_says
says_ok d m expected line ended e =
    let b = bind_ok (reads (form_of d expected) (words_in line ended)) (λ s. fine (draft_after d s)) m e in
    (b.0, b.1, sym (fine_is (draft_after d b.0) m b.2))

-- a step, or its fault
pub fault_ok : (n : ℕ) (r : Result Draft CertWhy) (more : Draft → Result Cert Fault) (c : Cert) → or_fault n r more ≡ told c
    → (m : Draft) × (r ≡ Ok m) × (more m ≡ told c)
fault_ok n (Ok m) more c e = (m, refl, e)
fault_ok n (Err w) more c e = absurd cc

pub read_next : (d : Draft) (s : ParsedLine) → (draft_after d s).read ≡ d.read + 1
unfolding draft_after
read_next d s = refl

-- from a relation to what is read

add_read : (l : LineLaw) (d m : Draft) (line : List ℕ) (rest : List (List ℕ)) → Adds d line m → is_more rest ≡ true
    → read_from d (line ∷ rest) ≡ read_from m rest
add_read l d m line rest a more =
    ap (λ o. read_by o d line rest (λ x. read_from x rest)) a.is_expected
    ∙ (ap (λ r. or_fault (d.read + 1) r (λ x. read_from x rest))
    (ap (line_says d a.expected line) more ∙ line_said d a.expected line true (Ok a.said) (l.allowed (form_of d a.expected) (words_in line true) a.said
    a.allowed))
    ∙ ap (λ x. read_from x rest) (sym a.leads))

pub more_after : (lines : List (List ℕ)) (piece : List ℕ) (rest : List (List ℕ)) → is_more (lines ++ piece ∷ rest) ≡ true
more_after [] piece rest = refl
more_after (line ∷ lines) piece rest = refl

reach_read : (l : LineLaw) (d e : Draft) (lines : List (List ℕ)) (piece : List ℕ) (rest : List (List ℕ)) → Reaches d lines e
    → read_from d (lines ++ piece ∷ rest) ≡ read_from e (piece ∷ rest)
reach_read l d e [] piece rest r = ap (λ x. read_from x (piece ∷ rest)) (sym r)
reach_read l d e (line ∷ lines) piece rest r =
    add_read l d r.0 line (lines ++ piece ∷ rest) r.1 (more_after lines piece rest) ∙ reach_read l r.0 e lines piece rest r.2

reach_number : (d e : Draft) (lines : List (List ℕ)) → Reaches d lines e → e.read ≡ d.read + length lines
reach_number d e [] r = ap (λ x. x.read) r ∙ no_more d.read
  where
    no_more : (n : ℕ) → n ≡ n + 0
    no_more n = omega arith
reach_number d e (line ∷ lines) r =
    let a = r.1 in
    one_more d.read r.0.read e.read (length lines) (ap (λ x. x.read) a.leads ∙ read_next d a.said) (reach_number r.0 e lines r.2)
  where
    one_more : (n m k rest : ℕ) → m ≡ n + 1 → k ≡ m + rest → k ≡ n + suc rest
    one_more n m k rest h g = omega (arith, h, g)

pub whole_read : (d : Draft) (e : Entry) → expected_line d ≡ None → d.entry ≡ Some e → read_from d ([] ∷ []) ≡ told (cert_from d e)
unfolding cert_before
whole_read d e expected is = ap (λ o. read_by o d [] [] (λ more. read_from more [])) expected ∙ ap (cert_with d) is

late_fault : (d : Draft) (line : List ℕ) (rest : List (List ℕ)) → (line ≢ []) ⊎ (rest ≢ []) → cert_before d line rest ≡ fault (d.read + 1)
    why.NoEnd
unfolding cert_before
late_fault d [] [] h = absurd (elim h [ inl a ↦ a refl | inr b ↦ b refl ])
late_fault d [] (piece ∷ rest) h = refl
late_fault d (b ∷ bs) rest h = refl

line_fault : (l : LineLaw) (d : Draft) (line : List ℕ) (rest : List (List ℕ)) (w : CertWhy) (o : Option ExpectedLine) → expected_line d ≡ o → LineFails o d
    line rest w
    → read_from d (line ∷ rest) ≡ fault (d.read + 1) w
line_fault l d line rest w None is h =
    ap (λ o. read_by o d line rest (λ more. read_from more rest)) is ∙ (late_fault d line rest h.0 ∙ ap (fault (d.read + 1)) (sym h.1))
line_fault l d line rest w (Some expected) is h =
    ap (λ o. read_by o d line rest (λ more. read_from more rest)) is
    ∙ ap (λ r. or_fault (d.read + 1) r (λ more. read_from more rest))
    (line_said d expected line (is_more rest) (Err w) (l.faulty (form_of d expected) (words_in line (is_more rest)) w h))

-- the head

pub test_head : (version : Version) (line : List ℕ) → (bytes_eq line (head_line version) ≡ true → line ≡ head_line version)
    × (bytes_eq line (head_line version) ≡ false → line ≢ head_line version)
test_head v line = (
  word_is line (head_line v),
  λ e h. true_not (bytes_eq line (head_line v)) (ap (λ x. bytes_eq x (head_line v)) h ∙ same_word (head_line v)) e,
)

pub head_read : (version : Version) (rest : List (List ℕ)) → is_more rest ≡ true
    → read_pieces version (head_line version ∷ rest) ≡ read_from (first_draft version) rest
head_read First rest more = ap (λ t. or_fault 1 (cond t (Ok (first_draft First)) (Err why.NoEnd)) (λ d. read_from d rest)) more
head_read Second rest more = ap (λ t. or_fault 1 (cond t (Ok (first_draft Second)) (Err why.NoEnd)) (λ d. read_from d rest)) more
head_read Third rest more = ap (λ t. or_fault 1 (cond t (Ok (first_draft Third)) (Err why.NoEnd)) (λ d. read_from d rest)) more

pub certificate_text : (l : LineLaw) (v : Version) (text : List ℕ) (c : Cert) → IsCertificateText v text c → cert_of_text v text ≡ told c
certificate_text l v text c s =
    ap (read_pieces v) s.parts
    ∙ (head_read v (s.lines ++ [] ∷ []) (more_after s.lines [] [])
    ∙ (reach_read l (first_draft v) s.draft s.lines [] [] s.reaches
    ∙ (whole_read s.draft s.entry s.whole s.has_entry ∙ ap told (sym s.is))))

not_head : (v : Version) (line : List ℕ) (rest : List (List ℕ)) (t : Bool) → bytes_eq line (head_line v) ≡ t → line ≢ head_line v
    → or_fault 1 (cond t (cond (is_more rest) (Ok (first_draft v)) (Err why.NoEnd)) (Err why.Head)) (λ d. read_from d rest)
    ≡ fault 1 why.Head
not_head v line rest true is h = absurd (h ((test_head v line).0 is))
not_head v line rest false is h = refl

head_fault : (v : Version) (line : List ℕ) (rest : List (List ℕ)) (w : CertWhy) → HeadFails v line rest w → read_pieces v (line ∷ rest)
    ≡ fault 1 w
head_fault v line rest w (inl h) = not_head v line rest (bytes_eq line (head_line v)) refl h.0 ∙ ap (fault 1) (sym h.1)
head_fault v line rest w (inr h) =
    ap (λ x. read_pieces v (x ∷ rest)) h.0 ∙ (ap (λ r. read_pieces v (head_line v ∷ r)) h.1 ∙ (alone v ∙ ap (fault 1) (sym h.2)))
  where
    alone : (version : Version) → read_pieces version (head_line version ∷ []) ≡ fault 1 why.NoEnd
    alone First = refl
    alone Second = refl
    alone Third = refl

pub fault_text : (l : LineLaw) (v : Version) (text : List ℕ) (n : ℕ) (w : CertWhy) → IsFirstFault v text n w → cert_of_text v text
    ≡ fault n w
fault_text l v text n w (inl h) =
    ap (read_pieces v) h.parts ∙ (head_fault v h.line h.rest w h.fails ∙ ap (λ k. fault k w) (sym h.number))
fault_text l v text n w (inr h) =
    let count = reach_number (first_draft v) h.draft h.before h.reaches in
    let number = h.number in
    let same : h.draft.read + 1 ≡ n = omega (arith, count, number) in
    ap (read_pieces v) h.parts
    ∙ (head_read v (h.before ++ h.line ∷ h.rest) (more_after h.before h.line h.rest)
    ∙ (reach_read l (first_draft v) h.draft h.before h.line h.rest h.reaches
    ∙ (line_fault l h.draft h.line h.rest w (expected_line h.draft) refl h.fails ∙ ap (λ k. fault k w) same)))

-- from a text to the relation

-- nothing follows the last LF, and no line is due any more
abbrev IsEnd : Draft → List ℕ → List (List ℕ) → Type 0
IsEnd d line rest = (line ≡ []) × (rest ≡ []) × (expected_line d ≡ None) × (e : Entry) × (d.entry ≡ Some e)

-- the lines up to one are as is due, and that one is the end or has a fault
record Stops (d : Draft) (pieces : List (List ℕ)) : Type 0 where
  before : List (List ℕ)
  line : List ℕ
  rest : List (List ℕ)
  parts : pieces ≡ before ++ line ∷ rest
  draft : Draft
  reaches : Reaches d before draft
  how : IsEnd draft line rest ⊎ ((w : CertWhy) × LineFails (expected_line draft) draft line rest w)

has_entry : (o : Option Entry) → lacks o ≡ false → (e : Entry) × (o ≡ Some e)
has_entry None h = absurd cc
has_entry (Some e) h = (e, refl)

none_due : (d : Draft) (line : List ℕ) (rest : List (List ℕ)) → 1 ≤ d.read → expected_line d ≡ None
    → IsEnd d line rest ⊎ ((w : CertWhy) × LineFails None d line rest w)
none_due d [] [] some is = let x = has_entry d.entry (is_whole d some is).entry in inl (refl, refl, is, x.0, x.1)
none_due d [] (piece ∷ rest) some is = inr (why.NoEnd, (inr (λ h. cc h), refl))
none_due d (b ∷ bs) rest some is = inr (why.NoEnd, (inl (λ h. cc h), refl))

stops : (l : LineLaw) (d : Draft) (pieces : List (List ℕ)) → 1 ≤ d.read → is_more pieces ≡ true → Stops d pieces
stops l d [] some more = absurd cc
stops l d (line ∷ rest) some more = by (expected_line d) refl (λ m r k. stops l m rest r k)
  where
    here : IsEnd d line rest ⊎ ((w : CertWhy) × LineFails (expected_line d) d line rest w) → Stops d (line ∷ rest)
    here how = record { before = []; line = line; rest = rest; parts = refl; draft = d; reaches = refl; how = how }

    fails : (o : Option ExpectedLine) → expected_line d ≡ o → (w : CertWhy) → LineFails o d line rest w → Stops d (line ∷ rest)
    fails o is w f = here (inr (w, subst (λ x. LineFails x d line rest w) (sym is) f))

    by_words : (expected : ExpectedLine) → expected_line d ≡ Some expected
        → ((m : Draft) → 1 ≤ m.read → is_more rest ≡ true → Stops m rest) → (r : Result ParsedLine CertWhy)
        → reads (form_of d expected) (words_in line (is_more rest)) ≡ r → Stops d (line ∷ rest)
    by_words expected is later (Err w) e =
        fails (Some expected) is w (l.refused (form_of d expected) (words_in line (is_more rest)) w e)
    by_words expected is later (Ok s) e =
        let allowed = l.read (form_of d expected) (words_in line (is_more rest)) s e in
        let more = line_ended (form_of d expected) (words_in line (is_more rest)) s allowed in
        let adds : Adds d line (draft_after d s) = record {
          expected = expected;
          is_expected = is;
          said = s;
          allowed = subst (λ t. Allows (form_of d expected) (words_in line t) s) more allowed;
          leads = refl;
        } in
        let x = later (draft_after d s) (omega (arith, read_next d s)) more in
        record {
          before = line ∷ x.before;
          line = x.line;
          rest = x.rest;
          parts = ap (λ ps. line ∷ ps) x.parts;
          draft = x.draft;
          reaches = (draft_after d s, adds, x.reaches);
          how = x.how;
        }

    by : (o : Option ExpectedLine) → expected_line d ≡ o → ((m : Draft) → 1 ≤ m.read → is_more rest ≡ true → Stops m rest)
        → Stops d (line ∷ rest)
    by None is later = elim (none_due d line rest some is) [ inl x ↦ here (inl x) | inr f ↦ fails None is f.0 f.1 ]
    by (Some expected) is later = by_words expected is later (reads (form_of d expected) (words_in line (is_more rest))) refl

abbrev Decided : Version → List (List ℕ) → Type 0
Decided v pieces =
    ((c : Cert) × SpellsCertificate v pieces c) ⊎ ((n : ℕ) × (w : CertWhy) × (FailsAtHead v pieces n w ⊎ FailsLater v pieces n w))

decide : (l : LineLaw) (v : Version) (pieces : List (List ℕ)) → is_more pieces ≡ true → Decided v pieces
decide l v [] more = absurd cc
decide l v (line ∷ rest) more = by_head (bytes_eq line (head_line v)) refl rest
  where
    of_rest : (rest : List (List ℕ)) → Stops (first_draft v) rest → Decided v (head_line v ∷ rest)
    of_rest rest x = elim x.how [
      | inl e ↦ inl (
        cert_from x.draft e.3,
        record {
          lines = x.before;
          parts = ap (λ ps. head_line v ∷ ps) (x.parts ∙ ap (λ y. x.before ++ y ∷ x.rest) e.0 ∙ ap (λ ys. x.before ++ [] ∷ ys) e.1);
          draft = x.draft;
          reaches = x.reaches;
          whole = e.2;
          entry = e.3;
          has_entry = e.4;
          is = refl;
        },
      )
      | inr f ↦ inr (
        length x.before + 2,
        f.0,
        inr (record {
          before = x.before;
          line = x.line;
          rest = x.rest;
          parts = ap (λ ps. head_line v ∷ ps) x.parts;
          draft = x.draft;
          reaches = x.reaches;
          number = refl;
          fails = f.1;
        }),
      )
    ]

    at_head : (others : List (List ℕ)) (w : CertWhy) → HeadFails v line others w → Decided v (line ∷ others)
    at_head others w f = inr (1, w, inl (record { line = line; rest = others; parts = refl; number = refl; fails = f }))

    by_head : (t : Bool) → bytes_eq line (head_line v) ≡ t → (others : List (List ℕ)) → Decided v (line ∷ others)
    by_head false is others = at_head others why.Head (inl ((test_head v line).1 is, refl))
    by_head true is [] = at_head [] why.NoEnd (inr ((test_head v line).0 is, refl, refl))
    by_head true is (piece ∷ others) =
        subst (λ x. Decided v (x ∷ piece ∷ others)) (sym ((test_head v line).0 is))
        (of_rest (piece ∷ others) (stops l (first_draft v) (piece ∷ others) (omega arith) refl))

-- each text is one certificate's or has one first fault, and never both

pub decided : (l : LineLaw) (v : Version) (text : List ℕ)
    → ((c : Cert) × IsCertificateText v text c) ⊎ ((n : ℕ) × (w : CertWhy) × IsFirstFault v text n w)
decided l v text = decide l v (pieces_of text) (some_piece text)

differ : (c : Cert) (n : ℕ) (w : CertWhy) → told c ≡ fault n w → ⊥
differ c n w h = cc

pub one_certificate : (l : LineLaw) (v : Version) (text : List ℕ) (a b : Cert) → IsCertificateText v text a → IsCertificateText v text b
    → a ≡ b
one_certificate l v text a b p q = same_cert a b (sym (certificate_text l v text a p) ∙ certificate_text l v text b q)

pub one_fault : (l : LineLaw) (version : Version) (text : List ℕ) (m n : ℕ) (v w : CertWhy) → IsFirstFault version text m v
    → IsFirstFault version text n w → (m ≡ n) × (v ≡ w)
one_fault l version text m n v w p q = same_fault m n v w (sym (fault_text l version text m v p) ∙ fault_text l version text n w q)

pub not_both : (l : LineLaw) (v : Version) (text : List ℕ) (c : Cert) (n : ℕ) (w : CertWhy) → IsCertificateText v text c
    → IsFirstFault v text n w → ⊥
not_both l v text c n w p q = differ c n w (sym (certificate_text l v text c p) ∙ fault_text l v text n w q)

pub text_certificate : (l : LineLaw) (v : Version) (text : List ℕ) (c : Cert) → cert_of_text v text ≡ told c → IsCertificateText v text c
text_certificate l v text c e = elim (decided l v text) [
  | inl d ↦ subst (IsCertificateText v text) (same_cert d.0 c (sym (certificate_text l v text d.0 d.1) ∙ e)) d.1
  | inr f ↦ absurd (differ c f.0 f.1 (sym e ∙ fault_text l v text f.0 f.1 f.2))
]

pub text_fault : (l : LineLaw) (v : Version) (text : List ℕ) (n : ℕ) (w : CertWhy) → cert_of_text v text ≡ fault n w
    → IsFirstFault v text n w
text_fault l v text n w e = elim (decided l v text) [
  | inl d ↦ absurd (differ d.0 n w (sym (certificate_text l v text d.0 d.1) ∙ e))
  | inr f ↦
      let same = same_fault f.0 n f.1 w (sym (fault_text l v text f.0 f.1 f.2) ∙ e) in
      subst (λ k. IsFirstFault v text k w) same.0 (subst (IsFirstFault v text f.0) same.1 f.2)
]

-- what is answered, by the relation

pub found_text : (l : LineLaw) (v : Version) (text : List ℕ) (result : Result Cert CertError) → Gives result (cert_of_text v text)
    → IfOk result (λ c. IsCertificateText v text c)
found_text l v text (Ok c) g = text_certificate l v text c g
found_text l v text (Err e) g = tt

pub only_text : (l : LineLaw) (v : Version) (text : List ℕ) (result : Result Cert CertError) → Gives result (cert_of_text v text)
    → (c : Cert) → IsCertificateText v text c → Gives result (Ok c)
only_text l v text result g c s = subst (Gives result) (certificate_text l v text c s) g

pub first_fault : (l : LineLaw) (v : Version) (text : List ℕ) (result : Result Cert CertError) → Gives result (cert_of_text v text)
    → IfErr result (λ e. IsMemory e ⊎ IsFirstFault v text e.line e.why)
first_fault l v text (Ok c) g = tt
first_fault l v text (Err e) g = elim g [ inl m ↦ inl m | inr f ↦ inr (text_fault l v text e.line e.why f) ]

pub faulty_text : (l : LineLaw) (v : Version) (text : List ℕ) (result : Result Cert CertError) → Gives result (cert_of_text v text)
    → (n : ℕ) (w : CertWhy) → IsFirstFault v text n w → Gives result (Err (n, w))
faulty_text l v text result g n w s = subst (Gives result) (fault_text l v text n w s) g
