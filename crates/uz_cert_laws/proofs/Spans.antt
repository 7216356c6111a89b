-- Ranges for the cells of the handler, one word for each.
use Rattle.uz_cert_laws.proofs.Common.{arith, All-weaker, ◌≡◌, ℕ, ◌≤◌, Bool, true, false, cond, List, [], ◌∷◌, ◌++◌, map, filter, refl}
use Rattle.uz_cert_laws.proofs.Common.{◌∙◌, ap, subst, Result, Ok, All-nil, All-cons, All-head, All-tail, Ends, is_within, tracks}
use Rattle.uz_cert_laws.proofs.Common.{RangeFits, CellFits, spans_fit, Handler, Cell, Head, ◌>>=◌, Words, rest_of, next_as, span_of}
use Rattle.uz_cert_laws.proofs.Common.{spans_of, CertWhy, ends_word, All, line}
use Rattle.uz_cert_laws.proofs.Tests.{fine, fault_not, and_true, both_true, bind_ok, then}
use Rattle.uz_cert_lines.specs.Forms.{with_span}
use Rattle.uz_cert_laws.proofs.{Numbers.words_in, Facts.span_only, Facts.span_so}
use Rattle.uz_cert_lines.specs.declared.why.CertWhy.TheVariants as why

abbrev pub Bytes : List Cell → Type 0
Bytes cells = All (λ c. c.range.hi ≤ 255) cells

abbrev pub own : List Cell → List Cell
own cells = filter (λ c. tracks Handler c.owner) cells

abbrev pub Pieces : Type 0
Pieces = List Ends × Words

pub spans_read : (cells : List Cell) (es : List Ends) (later : List (List ℕ)) → Bytes cells → All (RangeFits 255) es
    → spans_fit (own cells) es ≡ true → spans_of cells (line (map (ends_word 255) es ++ later)) ≡ Ok (es, line later)
spans_read [] [] later b h e = refl
spans_read [] (x ∷ es) later b h e = absurd cc
spans_read (c ∷ cs) es later b h e =
    by_own (tracks Handler c.owner) e (λ xs g f. spans_read cs xs later (All-tail (λ c. c.range.hi ≤ 255) c cs b) g f)
  where
    Later : Type 0
    Later = (xs : List Ends) → All (RangeFits 255) xs → spans_fit (own cs) xs ≡ true
        → spans_of cs (line (map (ends_word 255) xs ++ later)) ≡ Ok (xs, line later)

    by_own : (t : Bool) → spans_fit (cond t (c ∷ own cs) (own cs)) es ≡ true → Later
        → cond t (next_as (span_of c.range) (line (map (ends_word 255) es ++ later)) >>=
        (λ x. with_span x (spans_of cs (rest_of (line (map (ends_word 255) es ++ later))))))
        (spans_of cs (line (map (ends_word 255) es ++ later))) ≡ Ok (es, line later)
    by_own false e next = next es h e
    by_own true e next = by_spans es h e
      where
        by_spans : (xs : List Ends) → All (RangeFits 255) xs → spans_fit (c ∷ own cs) xs ≡ true
            → next_as (span_of c.range) (line (map (ends_word 255) xs ++ later)) >>=
            (λ x. with_span x (spans_of cs (rest_of (line (map (ends_word 255) xs ++ later))))) ≡ Ok (xs, line later)
        by_spans [] h e = absurd cc
        by_spans (x ∷ xs) h e =
            let two = and_true (is_within x c.range) (spans_fit (own cs) xs) e in
            then (span_of c.range (ends_word 255 x)) (λ x. with_span x (spans_of cs (line (map (ends_word 255) xs ++ later)))) x
            (Ok (x ∷ xs, line later))
            (span_so c.range x (All-head (λ c. c.range.hi ≤ 255) c cs b) (All-head (RangeFits 255) x xs h) two.0)
            (ap (λ (m : Result Pieces CertWhy). m >>= (λ p. fine {A = Pieces} (x ∷ p.0, p.1)))
            (next xs (All-tail (RangeFits 255) x xs h) two.1))

pub record SpansGone (cells : List Cell) (list : List (List ℕ)) (ended : Bool) (p : Pieces) : Type 0 where
  pub words : list ≡ map (ends_word 255) p.0 ++ p.1.list
  pub end : p.1.ended ≡ ended
  pub ranges : All (RangeFits 255) p.0
  pub inside : spans_fit (own cells) p.0 ≡ true

pieces_same : (a b : Pieces) → fine {A = Pieces} a ≡ fine b → a ≡ b
pieces_same a b e = cc

pub spans_gone : (cells : List Cell) (list : List (List ℕ)) (ended : Bool) (p : Pieces) → Bytes cells → spans_of cells (words_in list ended)
    ≡ Ok p
    → SpansGone cells list ended p
spans_gone [] list ended p b e =
    subst (λ (q : Pieces). SpansGone [] list ended q) (pieces_same ([], words_in list ended) p e)
    (record { words = refl; end = refl; ranges = All-nil (RangeFits 255); inside = refl })
spans_gone (c ∷ cs) list ended p b e =
    by_own (tracks Handler c.owner) refl e (λ l q g. spans_gone cs l ended q (All-tail (λ c. c.range.hi ≤ 255) c cs b) g)
  where
    passed_on : tracks Handler c.owner ≡ false → SpansGone cs list ended p → SpansGone (c ∷ cs) list ended p
    passed_on t g = grind (arith, t, g)

    by_list : tracks Handler c.owner ≡ true → (l : List (List ℕ))
        → next_as (span_of c.range) (words_in l ended) >>= (λ x. with_span x (spans_of cs (rest_of (words_in l ended)))) ≡ Ok p
        → ((l : List (List ℕ)) (q : Pieces) → spans_of cs (words_in l ended) ≡ Ok q → SpansGone cs l ended q)
        → SpansGone (c ∷ cs) l ended p
    by_list t [] e later =
        let m = bind_ok (next_as (span_of c.range) (words_in [] ended)) (λ x. with_span x (spans_of cs (rest_of (words_in [] ended)))) p
        e in
        absurd (no_word ended m.0 m.1)
      where
        no_word : (ended : Bool) (x : Ends) → next_as (span_of c.range) (words_in [] ended) ≡ Ok x → ⊥
        no_word true x e = fault_not why.Word x e
        no_word false x e = fault_not why.NoEnd x e
    by_list t (w ∷ ws) e later =
        let m = bind_ok (span_of c.range w) (λ x. with_span x (spans_of cs (words_in ws ended))) p e in
        let q = bind_ok (spans_of cs (words_in ws ended)) (λ q. Ok (m.0 ∷ q.0, q.1)) p m.2 in
        let one = span_only c.range w m.0 (All-head (λ c. c.range.hi ≤ 255) c cs b) m.1 in
        let rest = later ws q.0 q.1 in
        subst (λ (r : Pieces). SpansGone (c ∷ cs) (w ∷ ws) ended r) (pieces_same (m.0 ∷ q.0.0, q.0.1) p q.2)
        (record {
          words = ap (λ x. x ∷ ws) one.0 ∙ ap (λ xs. ends_word 255 m.0 ∷ xs) rest.words;
          end = rest.end;
          ranges = All-cons (RangeFits 255) m.0 q.0.0 one.1 rest.ranges;
          inside = ap (λ u. spans_fit (cond u (c ∷ own cs) (own cs)) (m.0 ∷ q.0.0)) t
              ∙ both_true (is_within m.0 c.range) (spans_fit (own cs) q.0.0) one.2 rest.inside;
        })

    by_own : (t : Bool) → tracks Handler c.owner ≡ t
        → cond t (next_as (span_of c.range) (words_in list ended) >>= (λ x. with_span x (spans_of cs (rest_of (words_in list ended)))))
        (spans_of cs (words_in list ended)) ≡ Ok p
        → ((l : List (List ℕ)) (q : Pieces) → spans_of cs (words_in l ended) ≡ Ok q → SpansGone cs l ended q)
        → SpansGone (c ∷ cs) list ended p
    by_own true t e later = by_list t list e later
    by_own false t e later = passed_on t (later list p e)

pub bytes_of : (h : Head) (cells : List Cell) → All (CellFits h) cells → All (λ c. c.range.hi ≤ 255) cells
bytes_of h cells a = All-weaker (CellFits h) (λ c. c.range.hi ≤ 255) (λ c f. f.range.high) cells a
