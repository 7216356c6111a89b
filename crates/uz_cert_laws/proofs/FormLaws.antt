-- What is spelled in a form is read back, and only what is spelled is read: by one step for each constructor.
use Rattle.uz_cert_laws.proofs.Common.{◌≡◌, ℕ, ◌≤◌, ◌<◌, ◌^◌, Bool, true, false, List, [], ◌∷◌, ◌++◌, map, decimal, refl, sym, ◌∙◌, ap, ⊤}
use Rattle.uz_cert_laws.proofs.Common.{Result, Ok, Ends, RangeFits, magnitude, spans_fit, ◌>>=◌, Words, rest_of, next_as, fixed_of}
use Rattle.uz_cert_laws.proofs.Common.{number_of, choice_of, slope_of, CertWhy, LineForm, number, items, finish, reads, spans_of}
use Rattle.uz_cert_laws.proofs.Common.{read_items, Facts, ParsedLine, ends_word, signed_word, ℤ, All, line, word_at, Parts, says, spells}
use Rattle.uz_cert_lines.specs.Forms.{fixed, choice, slope, spans}
use Rattle.uz_cert_laws.proofs.Numbers.{IsWithin, number_so, number_only, slope_so, slope_only, words_in, line_same, fixed_word, fixed_is}
use Rattle.uz_cert_laws.proofs.Numbers.{choice_word, with_front}
use Rattle.uz_cert_laws.proofs.{ReadItems.ShapeFits, ReadItems.items_only, SpelledItems.FactsFit, SpelledItems.items_again, Tests.fine_is}
use Rattle.uz_cert_laws.proofs.{Tests.fault_not, Tests.bind_ok, Tests.then, Spans.Bytes, Spans.own, Spans.spans_read, Spans.spans_gone}
use Rattle.uz_cert_lines.specs.declared.why.CertWhy.TheVariants as why

-- each part is within its limits
abbrev pub Fit : (form : LineForm) → Parts form → Type 0
Fit (fixed wanted form) p = Fit form p
Fit (number a form) p = IsWithin a p.0 × Fit (form p.0) p.1
Fit (choice wanted form) p = (choice_of wanted (word_at wanted p.0) ≡ Ok p.0) × Fit (form p.0) p.1
Fit (slope limit form) p = (magnitude p.0 < limit) × Fit (form p.0) p.1
Fit (spans cells form) p = (All (RangeFits 255) p.0 × (spans_fit (own cells) p.0 ≡ true)) × Fit (form p.0) p.1
Fit (items shape cells say) f = FactsFit shape cells f
Fit (finish said) p = ⊤

-- what is said of facts hangs on what they are, and not on how far they were read
abbrev pub SaysFacts : (Facts → ParsedLine) → Type 0
SaysFacts say = (f : Facts) (least after : ℕ) → say (record f { least = least; after = after }) ≡ say f

-- the numbers that are asked for are few enough to be read
abbrev pub IsReadable : LineForm → Type 0
IsReadable (fixed wanted form) = IsReadable form
IsReadable (number a form) = (a.limit ≤ 2 ^ 32) × ((n : ℕ) → IsWithin a n → IsReadable (form n))
IsReadable (choice wanted form) = (n : ℕ) → IsReadable (form n)
IsReadable (slope limit form) = (limit ≤ 2 ^ 32) × ((z : ℤ) → IsReadable (form z))
IsReadable (spans cells form) = Bytes cells × ((es : List Ends) → IsReadable (form es))
IsReadable (items shape cells say) = ShapeFits shape cells × SaysFacts say
IsReadable (finish said) = ⊤

abbrev Pieces : Type 0
Pieces = List Ends × Words

pub form_again : (form : LineForm) (p : Parts form) → IsReadable form → Fit form p → reads form (line (spells form p)) ≡ Ok (says form p)
form_again (fixed wanted form) p s f =
    then (fixed_of wanted wanted) (λ n. reads form (line (spells form p))) 0 (Ok (says form p)) (fixed_word wanted) (form_again form p s f)
form_again (number a form) p s f =
    then (number_of a (decimal p.0)) (λ n. reads (form n) (line (spells (form p.0) p.1))) p.0 (Ok (says (form p.0) p.1))
    (number_so a p.0 s.0 f.0) (form_again (form p.0) p.1 (s.1 p.0 f.0) f.1)
form_again (choice wanted form) p s f =
    then (choice_of wanted (word_at wanted p.0)) (λ n. reads (form n) (line (spells (form p.0) p.1))) p.0 (Ok (says (form p.0) p.1)) f.0
    (form_again (form p.0) p.1 (s p.0) f.1)
form_again (slope limit form) p s f =
    then (slope_of limit (signed_word p.0)) (λ z. reads (form z) (line (spells (form p.0) p.1))) p.0 (Ok (says (form p.0) p.1))
    (slope_so limit p.0 s.0 f.0) (form_again (form p.0) p.1 (s.1 p.0) f.1)
form_again (spans cells form) p s f =
    ap (λ (m : Result Pieces CertWhy). m >>= (λ q. reads (form q.0) q.1))
    (spans_read cells p.0 (spells (form p.0) p.1) s.0 f.0.0 f.0.1)
    ∙ form_again (form p.0) p.1 (s.1 p.0) f.1
form_again (items shape cells say) g s f =
    let r = items_again shape cells s.0 g f in
    ap (λ (m : Result Facts CertWhy). m >>= (λ x. Ok (say x))) r.2 ∙ ap (λ (x : ParsedLine). Ok x) (s.1 g r.0 r.1)
form_again (finish said) p s f = refl

-- a word that is due, what it is read as, and the words after it
record ExpectedLine {A : Type 0} (judge : List ℕ → Result A CertWhy) (later : A → Words → Result ParsedLine CertWhy) (list : List (List ℕ))
    (ended : Bool) (said : ParsedLine) : Type 0 where
  is : A
  word : List ℕ
  left : List (List ℕ)
  parts : list ≡ word ∷ left
  judged : judge word ≡ Ok is
  rest : later is (words_in left ended) ≡ Ok said

due : {A : Type 0} (judge : List ℕ → Result A CertWhy) (later : A → Words → Result ParsedLine CertWhy) (list : List (List ℕ)) (ended : Bool)
    (said : ParsedLine) → next_as judge (words_in list ended) >>= (λ n. later n (rest_of (words_in list ended))) ≡ Ok said
    → ExpectedLine judge later list ended said
due judge later [] true said e = absurd (fault_not why.Word said e)
due judge later [] false said e = absurd (fault_not why.NoEnd said e)
due judge later (w ∷ ws) ended said e =
    let m = bind_ok (judge w) (λ n. later n (words_in ws ended)) said e in
    record { is = m.0; word = w; left = ws; parts = refl; judged = m.1; rest = m.2 }

-- the parts that were read, what they say, and that the words are their spelling
abbrev Read : LineForm → List (List ℕ) → Bool → ParsedLine → Type 0
Read form list ended said =
    (p : Parts form) × (said ≡ says form p) × (list ≡ spells form p) × (ended ≡ true) × Fit form p

only : (form : LineForm) (list : List (List ℕ)) (ended : Bool) (said : ParsedLine) → IsReadable form → reads form (words_in list ended) ≡ Ok said
    → Read form list ended said
only (fixed wanted form) list ended said s e =
    let d = due (fixed_of wanted) (λ n words. reads form words) list ended said e in
    let r = only form d.left ended said s d.rest in
    let words = with_front list d.left (spells form r.0) d.word wanted d.parts (fixed_is wanted d.word d.is d.judged) r.2 in
    (r.0, r.1, words, r.3, r.4)
only (number a form) list ended said s e =
    let d = due (number_of a) (λ n words. reads (form n) words) list ended said e in
    let n = number_only a d.word d.is s.0 d.judged in
    let r = only (form d.is) d.left ended said (s.1 d.is n.1) d.rest in
    let words = with_front list d.left (spells (form d.is) r.0) d.word (decimal d.is) d.parts n.0 r.2 in
    ((d.is, r.0), r.1, words, r.3, (n.1, r.4))
only (choice wanted form) list ended said s e =
    let d = due (choice_of wanted) (λ n words. reads (form n) words) list ended said e in
    let w = choice_word wanted d.word d.is d.judged in
    let r = only (form d.is) d.left ended said (s d.is) d.rest in
    let words = with_front list d.left (spells (form d.is) r.0) d.word (word_at wanted d.is) d.parts w r.2 in
    ((d.is, r.0), r.1, words, r.3, (ap (choice_of wanted) (sym w) ∙ d.judged, r.4))
only (slope limit form) list ended said s e =
    let d = due (slope_of limit) (λ z words. reads (form z) words) list ended said e in
    let z = slope_only limit d.word d.is s.0 d.judged in
    let r = only (form d.is) d.left ended said (s.1 d.is) d.rest in
    let words = with_front list d.left (spells (form d.is) r.0) d.word (signed_word d.is) d.parts z.0 r.2 in
    ((d.is, r.0), r.1, words, r.3, (z.1, r.4))
only (spans cells form) list ended said s e =
    let m = bind_ok (spans_of cells (words_in list ended)) (λ (p : Pieces). reads (form p.0) p.1) said e in
    let g = spans_gone cells list ended m.0 s.0 m.1 in
    let r = only (form m.0.0) m.0.1.list m.0.1.ended said (s.1 m.0.0) m.2 in
    let words = g.words ∙ ap (λ ws. map (ends_word 255) m.0.0 ++ ws) r.2 in
    ((m.0.0, r.0), r.1, words, sym g.end ∙ r.3, ((g.ranges, g.inside), r.4))
only (items shape cells say) list ended said s e =
    let m = bind_ok (read_items shape cells (words_in list ended)) (λ f. Ok (say f)) said e in
    let g = items_only shape cells (words_in list ended) m.0 s.0 m.1 in
    let h = g.regular in
    let fit : FactsFit shape cells m.0 = record {
      regs_fit = h.fit.0.0;
      pairs_fit = h.fit.1.0.0;
      flags_fit = h.fit.1.1.0.0;
      slots_fit = h.fit.1.1.1.0.0;
      stack_fit = h.fit.1.1.1.0.1;
      cells_fit = h.fit.1.1.1.1.0.0;
      listed_fit = h.fit.1.1.1.1.1.0.0;
      next_fit = let s = h.fit.1.1.1.1.1.1 in (s.2, s.1, s.0, h.plain_next);
      plain_fit = h.plain_pairs;
      meant = g.meant;
    } in
    (m.0, sym (fine_is (say m.0) said m.2), g.words, g.end, fit)
only (finish told) [] true said s e = (tt, sym (fine_is told said e), refl, refl, tt)
only (finish told) [] false said s e = absurd (fault_not why.NoEnd said e)
only (finish told) (w ∷ ws) true said s e = absurd (fault_not why.Word said e)
only (finish told) (w ∷ ws) false said s e = absurd (fault_not why.Word said e)

pub form_only : (form : LineForm) (words : Words) (said : ParsedLine) → IsReadable form → reads form words ≡ Ok said
    → (p : Parts form) × (said ≡ says form p) × (words ≡ line (spells form p)) × Fit form p
form_only form words said s e =
    let r = only form words.list words.ended said s e in
    (r.0, r.1, line_same words.list (spells form r.0) words.ended r.2 r.3, r.4)
