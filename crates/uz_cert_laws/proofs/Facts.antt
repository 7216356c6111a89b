-- The words of ranges, facts, pairs and flags: read as they are spelled, and only so.
use Rattle.uz_cert_laws.proofs.Common.{Main, Handler, Alone, is_handler, BitFits, ◌+◌, pair_forms, PairFits, Kind, ◌≡◌, ℕ, ◌<◌, ◌≤◌, ◌≢◌}
use Rattle.uz_cert_laws.proofs.Common.{◌^◌, Bool, true, false, cond, ◌&&◌, eqb, List, [], ◌∷◌, ◌++◌, decimal, codes, bytes_eq, lit<, lit≤}
use Rattle.uz_cert_laws.proofs.Common.{refl, sym, ◌∙◌, ap, subst, arith, append_assoc, Option, Some, None, Result, Ok, Err, cut_at}
use Rattle.uz_cert_laws.proofs.Common.{cut_read, cut_again, ◌>>=◌, one_number, two_numbers, range, raw_of, FactForms, Raw, CertWhy}
use Rattle.uz_cert_laws.proofs.Common.{slope_word, ◌⊎◌, inl, inr, leb, nat_tests, Ends, is_within, RangeFits, Fact, Any, Between, Line}
use Rattle.uz_cert_laws.proofs.Common.{Loop, Old, OldFlags, PairFact, Bit, Zero, One, Free, ends, fact_of, pair_of, ends_of, bit_of}
use Rattle.uz_cert_laws.proofs.Common.{span_of, range_word, ends_word, fact_word, pair_word, flag_word, AnyPair, BetweenPair, LinePair}
use Rattle.uz_cert_laws.proofs.Common.{LoopPair, OldBit, temp_forms}
use Rattle.uz_cert_laws.proofs.Tests.{refuted, given, tested, and_true, fine, fine_is, passed, so, else_so, bind_ok, then, number_is}
use Rattle.uz_cert_laws.proofs.Tests.{word_is, fault_not, le_is, number_not}
use Rattle.uz_cert_lines.specs.Values.{whole, slope, sloped_parts, sloped_cut, sloped, old, range_parts, range_cut, is_ordered}
use Rattle.uz_cert_lines.specs.Values.{span_forms}
use Rattle.uz_cert_laws.proofs.Numbers.{one_only, one_so, two_only, two_so, first_digit, decimal_lacks_below, cut_none}
use Rattle.uz_schedule.specs.WellFormed.{SlopeFits, PartFits}
use Rattle.uz_cert_lines.specs.declared.values.Raw.TheVariants as raw
use Rattle.uz_cert_lines.specs.declared.why.CertWhy.TheVariants as why

abbrev pub raw_word : Raw → List ℕ
raw_word raw.All = codes "*"
raw_word (raw.One n) = decimal n
raw_word (raw.Two lo hi) = decimal lo ++ codes ".." ++ decimal hi
raw_word (raw.Line a b) = slope_word (codes "l") a b
raw_word (raw.Loop a b) = slope_word (codes "c") a b
raw_word (raw.Old r) = 111 ∷ decimal r
raw_word raw.OldFlags = codes "of"

abbrev InForms : FactForms → ℕ → Type 0
InForms f n = (f.low ≤ n) × (n < f.limit)

-- the forms let this in
abbrev RawFits : FactForms → Raw → Type 0
RawFits f raw.All = (f.low ≡ 0) × (f.top < f.limit)
RawFits f (raw.One n) = InForms f n
RawFits f (raw.Two lo hi) = InForms f lo × InForms f hi
RawFits f (raw.Line a b) = (f.sloped ≡ true) × (1 ≤ a) × (a < f.limit) × (b < f.limit)
RawFits f (raw.Loop a b) = (f.sloped ≡ true) × (1 ≤ a) × (a < f.limit) × (b < f.limit)
RawFits f (raw.Old r) = (f.old ≡ true) × (r < 32)
RawFits f raw.OldFlags = f.old ≡ true

-- only what is written is read

abbrev Reads : FactForms → List ℕ → Raw → Type 0
Reads f w r = (w ≡ raw_word r) × RawFits f r

whole_only : (f : FactForms) (cs : List ℕ) (r : Raw) → whole f cs ≡ Ok r → Reads f (42 ∷ cs) r
whole_only f (c ∷ cs) r e = absurd cc
whole_only f [] r e = grind (arith, nat_tests)

plus_parts : (a b w : List ℕ) (m n : ℕ) → a ≡ decimal m → b ≡ decimal n → w ≡ a ++ 43 ∷ b → (c : ℕ)
    → c ∷ 42 ∷ w ≡ slope_word (c ∷ []) m n
plus_parts a b w m n e f h c =
    ap (λ t. c ∷ 42 ∷ t) (h ∙ ap (λ t. t ++ 43 ∷ b) e ∙ ap (λ t. decimal m ++ 43 ∷ t) f)
    ∙ ap (λ t. c ∷ 42 ∷ t) (sym (append_assoc (decimal m) (43 ∷ []) (decimal n)))

-- a slope, behind its letter
abbrev ReadsSlope : Bool → FactForms → List ℕ → Raw → Type 0
ReadsSlope is_line f w r =
    (n : ℕ × ℕ) × (slope is_line n ≡ r) × ((c : ℕ) → c ∷ w ≡ slope_word (c ∷ []) n.0 n.1) × (f.sloped ≡ true) × (1 ≤ n.0) × (n.0 < f.limit)
    × (n.1 < f.limit)

sloped_only : (is_line : Bool) (f : FactForms) (w : List ℕ) (r : Raw) → f.limit ≤ 2 ^ 32 → sloped is_line f w ≡ Ok r → ReadsSlope is_line f w r
unfolding sloped_cut
sloped_only is_line f [] r h e = absurd cc
sloped_only is_line f (c ∷ cs) r h e =
    let p = passed ((eqb c 42) && f.sloped) (sloped_cut is_line f cs) why.Word r e in
    let two = and_true (eqb c 42) f.sloped p.0 in
    by_cut (number_is c 42 two.0) two.1 (cut_at 43 cs) refl p.1
  where
    by_cut : c ≡ 42 → f.sloped ≡ true → (o : Option (List ℕ × List ℕ)) → cut_at 43 cs ≡ o → sloped_parts is_line f o ≡ Ok r
        → ReadsSlope is_line f (c ∷ cs) r
    by_cut star on None cut e = absurd cc
    by_cut star on (Some p) cut e =
        let m = bind_ok (two_numbers 1 0 f.limit p.0 p.1) (λ n. Ok (slope is_line n)) r e in
        let two = two_only 1 0 f.limit p.0 p.1 m.0 h m.1 in
        let parts = plus_parts p.0 p.1 cs m.0.0 m.0.1 two.0.0 two.1.0 (cut_read 43 cs p cut) in
        (m.0, fine_is (slope is_line m.0) r m.2, λ b. ap (λ x. b ∷ x ∷ cs) star ∙ parts b, on, two.0.1, two.0.2, two.1.2)

old_only : (f : FactForms) (cs : List ℕ) (r : Raw) → old f cs ≡ Ok r → Reads f (111 ∷ cs) r
old_only f cs r e =
    let p = passed f.old (cond (bytes_eq cs (codes "f")) (Ok raw.OldFlags) (one_number 0 32 cs >>= (λ n. Ok (raw.Old n)))) why.Word r e in
    tested (bytes_eq cs (codes "f")) p.1
    (λ t e. given (Reads f (111 ∷ cs)) raw.OldFlags r e (ap (λ v. 111 ∷ v) (word_is cs (codes "f") t), p.0))
    (λ _ e. let m = bind_ok (one_number 0 32 cs) (λ n. Ok (raw.Old n)) r e in
    let n = one_only 0 32 m.0 cs (lit≤ tt) m.1 in
    given (Reads f (111 ∷ cs)) (raw.Old m.0) r m.2 (ap (λ t. 111 ∷ t) n.0, (p.0, n.2)))

point_parts : (lo hi w : List ℕ) (c m n : ℕ) → lo ≡ decimal m → hi ≡ decimal n → c ≡ 46 → w ≡ lo ++ 46 ∷ (c ∷ hi)
    → w ≡ decimal m ++ codes ".." ++ decimal n
point_parts lo hi w c m n e f g h =
    h ∙ ap (λ t. t ++ 46 ∷ (c ∷ hi)) e ∙ ap (λ t. decimal m ++ 46 ∷ (t ∷ hi)) g ∙ ap (λ t. decimal m ++ 46 ∷ (46 ∷ t)) f
    ∙ sym (append_assoc (decimal m) (codes "..") (decimal n))

range_only : (f : FactForms) (w : List ℕ) (r : Raw) → f.limit ≤ 2 ^ 32 → range f w ≡ Ok r → (w ≡ raw_word r) × RawFits f r
unfolding range
range_only f w r h e = by_cut (cut_at 46 w) refl e
  where
    by_two : (lo back : List ℕ) → cut_at 46 w ≡ Some (lo, back) → range_parts f lo back ≡ Ok r → Reads f w r
    by_two lo [] c e = absurd cc
    by_two lo (b ∷ hi) c e =
        let p = passed (eqb b 46) (two_numbers f.low f.low f.limit lo hi >>= (λ n. Ok (raw.Two n.0 n.1))) why.Word r e in
        let m = bind_ok (two_numbers f.low f.low f.limit lo hi) (λ n. Ok (raw.Two n.0 n.1)) r p.1 in
        let two = two_only f.low f.low f.limit lo hi m.0 h m.1 in
        given (Reads f w) (raw.Two m.0.0 m.0.1) r m.2 (
          point_parts lo hi w b m.0.0 m.0.1 two.0.0 two.1.0 (number_is b 46 p.0) (cut_read 46 w (lo, b ∷ hi) c),
          ((two.0.1, two.0.2), (two.1.1, two.1.2)),
        )

    by_cut : (o : Option (List ℕ × List ℕ)) → cut_at 46 w ≡ o → range_cut f w o ≡ Ok r → Reads f w r
    by_cut None c e =
        let m = bind_ok (one_number f.low f.limit w) (λ n. Ok (raw.One n)) r e in
        let n = one_only f.low f.limit m.0 w h m.1 in
        given (Reads f w) (raw.One m.0) r m.2 (n.0, (n.1, n.2))
    by_cut (Some p) c e = by_two p.0 p.1 c e

raw_only : (f : FactForms) (w : List ℕ) (r : Raw) → f.limit ≤ 2 ^ 32 → raw_of f w ≡ Ok r → (w ≡ raw_word r) × RawFits f r
unfolding raw_of
raw_only f [] r h e = absurd cc
raw_only f (c ∷ cs) r h e =
    tested (eqb c 42) e (λ t e. at 42 t (whole_only f cs r e))
    (λ _ e. tested (eqb c 108) e
    (λ t e. let n = sloped_only true f cs r h e in
    at 108 t (subst (Reads f (108 ∷ cs)) n.1 (n.2 108, (n.3, n.4, n.5, n.6))))
    (λ _ e. tested (eqb c 99) e
    (λ t e. let n = sloped_only false f cs r h e in
    at 99 t (subst (Reads f (99 ∷ cs)) n.1 (n.2 99, (n.3, n.4, n.5, n.6))))
    (λ _ e. tested (eqb c 111) e (λ t e. at 111 t (old_only f cs r e)) (λ _ e. range_only f (c ∷ cs) r h e))))
  where
    at : (b : ℕ) → eqb c b ≡ true → Reads f (b ∷ cs) r → Reads f (c ∷ cs) r
    at b e i = subst (λ x. Reads f (x ∷ cs) r) (sym (number_is c b e)) i

-- what is written is read

-- a word that begins with a digit
abbrev HasDigit : List ℕ → Type 0
HasDigit w = (c : ℕ) × (cs : List ℕ) × (w ≡ c ∷ cs) × (48 ≤ c) × (c ≤ 57)

digit_first : (f : FactForms) (w : List ℕ) (r : Raw) → HasDigit w → range f w ≡ Ok r → raw_of f w ≡ Ok r
unfolding raw_of
digit_first f [] r d e = absurd cc
digit_first f (b ∷ bs) r d e =
    let same : b ≡ d.0 = cc in
    grind (arith, nat_tests, d.3, d.4, same, e)

one_range : (f : FactForms) (n : ℕ) → f.limit ≤ 2 ^ 32 → InForms f n → range f (decimal n) ≡ Ok (raw.One n)
unfolding range
one_range f n h i =
    ap (range_cut f (decimal n)) (cut_none 46 (decimal n) (decimal_lacks_below 46 n (lit< tt) (omega arith)))
    ∙ then (one_number f.low f.limit (decimal n)) (λ n. Ok (raw.One n)) n (Ok (raw.One n)) (one_so f.low f.limit n h i.0 i.1) refl

pub one_raw : (f : FactForms) (n : ℕ) → f.limit ≤ 2 ^ 32 → InForms f n → raw_of f (decimal n) ≡ Ok (raw.One n)
one_raw f n h i = digit_first f (decimal n) (raw.One n) (first_digit n (omega arith)) (one_range f n h i)

first_of : (w v : List ℕ) → HasDigit w → HasDigit (w ++ v)
first_of w v d = (d.0, d.1 ++ v, ap (λ t. t ++ v) d.2, d.3, d.4)

two_range : (f : FactForms) (lo hi : ℕ) → f.limit ≤ 2 ^ 32 → InForms f lo → InForms f hi
    → range f (decimal lo ++ codes ".." ++ decimal hi) ≡ Ok (raw.Two lo hi)
unfolding range
two_range f lo hi h i k =
    ap (range f) (append_assoc (decimal lo) (codes "..") (decimal hi))
    ∙ ap (range_cut f (decimal lo ++ 46 ∷ (46 ∷ decimal hi)))
    (cut_again 46 (decimal lo) (46 ∷ decimal hi) (decimal_lacks_below 46 lo (lit< tt) (omega arith)))
    ∙ then (two_numbers f.low f.low f.limit (decimal lo) (decimal hi)) (λ n. Ok (raw.Two n.0 n.1)) (lo, hi) (Ok (raw.Two lo hi))
    (two_so f.low f.low f.limit lo hi h i.0 i.1 k.0 k.1) refl

sloped_so : (is_line : Bool) (f : FactForms) (a b : ℕ) → f.limit ≤ 2 ^ 32 → RawFits f (raw.Line a b)
    → sloped is_line f (42 ∷ (decimal a ++ codes "+" ++ decimal b)) ≡ Ok (slope is_line (a, b))
unfolding sloped_cut
sloped_so is_line f a b h i =
    so f.sloped (sloped_cut is_line f (decimal a ++ codes "+" ++ decimal b)) (Err why.Word) i.0
    ∙ ap (λ t. sloped_parts is_line f (cut_at 43 t)) (append_assoc (decimal a) (codes "+") (decimal b))
    ∙ ap (sloped_parts is_line f) (cut_again 43 (decimal a) (decimal b) (decimal_lacks_below 43 a (lit< tt) (omega (arith, h, i.2))))
    ∙ then (two_numbers 1 0 f.limit (decimal a) (decimal b)) (λ n. Ok (slope is_line n)) (a, b) (Ok (slope is_line (a, b)))
    (two_so 1 0 f.limit a b h i.1 i.2 (omega arith) i.3) refl

not_f : (w : List ℕ) → HasDigit w → bytes_eq w (codes "f") ≡ false
not_f w d = refuted (bytes_eq w (codes "f")) (λ e. other d.0 d.1 (sym d.2 ∙ word_is w (codes "f") e) d.4)
  where
    other : (c : ℕ) (cs : List ℕ) → c ∷ cs ≡ codes "f" → c ≤ 57 → ⊥
    other c cs e h = let same : c ≡ 102 = cc in omega (arith, same, h)

raw_so : (f : FactForms) (r : Raw) → f.limit ≤ 2 ^ 32 → RawFits f r → raw_of f (raw_word r) ≡ Ok r
unfolding raw_of
raw_so f raw.All h i = grind (arith, nat_tests)
raw_so f (raw.One n) h i = one_raw f n h i
raw_so f (raw.Two lo hi) h i =
    digit_first f (decimal lo ++ codes ".." ++ decimal hi) (raw.Two lo hi)
    (first_of (decimal lo ++ codes "..") (decimal hi) (first_of (decimal lo) (codes "..") (first_digit lo (omega (arith, h, i.0.1)))))
    (two_range f lo hi h i.0 i.1)
raw_so f (raw.Line a b) h i = sloped_so true f a b h i
raw_so f (raw.Loop a b) h i = sloped_so false f a b h i
raw_so f (raw.Old r) h i =
    grind (arith, nat_tests, not_f (decimal r) (first_digit r (omega (arith, i.1))), one_so 0 32 r (lit≤ tt) (omega arith) i.1)
raw_so f raw.OldFlags h i = so f.old (Ok raw.OldFlags) (Err why.Word) i

-- ranges that aren't the whole one: what is read as one, and that each is read

not_whole : (top lo hi : ℕ) → hi ≤ top → (eqb lo 0 && eqb hi top) ≡ false → (0 < lo) ⊎ (hi < top)
not_whole top lo hi h t = grind (arith, nat_tests)

pub part_not_whole : (top : ℕ) (e : Ends) → PartFits top e → (eqb e.lo 0 && eqb e.hi top) ≡ false
part_not_whole top e h = grind (arith, nat_tests, h.part)

pub part_from : (e : Ends) → RangeFits 255 e → (eqb e.lo 0 && eqb e.hi 255) ≡ false → PartFits 255 e
part_from e h t = record { range = h; part = not_whole 255 e.lo e.hi h.high t }

pub whole_ends : (e : Ends) → (eqb e.lo 0 && eqb e.hi 255) ≡ true → ends 0 255 ≡ e
whole_ends e t =
    let two = and_true (eqb e.lo 0) (eqb e.hi 255) t in
    ap (λ n. ends n 255) (sym (number_is e.lo 0 two.0)) ∙ ap (λ n. ends e.lo n) (sym (number_is e.hi 255 two.1))

abbrev PartIn : ℕ → FactForms → Ends → Type 0
PartIn top f e = PartFits top e × (f.low ≤ e.lo) × (e.hi < f.limit)

abbrev ReadsPart : ℕ → FactForms → List ℕ → Ends → Type 0
ReadsPart top f w e = (w ≡ ends_word top e) × PartIn top f e

one_part : (top : ℕ) (f : FactForms) (w : List ℕ) (n : ℕ) → 0 < top → f.limit ≤ top + 1 → w ≡ decimal n → InForms f n
    → ReadsPart top f w (ends n n)
one_part top f w n some h e i = grind (arith, nat_tests)

two_part : (top : ℕ) (f : FactForms) (w : List ℕ) (lo hi : ℕ) → f.limit ≤ top + 1 → w ≡ decimal lo ++ codes ".." ++ decimal hi
    → InForms f lo × InForms f hi → is_ordered top lo hi ≡ true → ReadsPart top f w (ends lo hi)
two_part top f w lo hi h e i o = grind (arith, nat_tests)

-- a word for it that is read as a number or two, from which this is made
abbrev IsFound : {A : Type 0} → FactForms → (Raw → Result A CertWhy) → A → Type 0
IsFound f of x = (r : Raw) × RawFits f r × (of r ≡ Ok x)

part_found : {A : Type 0} (of : Raw → Result A CertWhy) (make : Ends → A) (top : ℕ) (f : FactForms) (e : Ends) → f.limit ≤ 2 ^ 32
    → PartIn top f e → ((n : ℕ) → of (raw.One n) ≡ Ok (make (ends n n)))
    → ((lo hi : ℕ) → is_ordered top lo hi ≡ true → of (raw.Two lo hi) ≡ Ok (make (ends lo hi)))
    → (r : Raw) × RawFits f r × (of r ≡ Ok (make e)) × (range f (raw_word r) ≡ Ok r)
part_found of make top f e h i one two = by_test (eqb e.lo e.hi) refl
  where
    order : e.lo ≤ e.hi
    order = i.0.range.order

    low : InForms f e.lo
    low = (i.1, omega (arith, order, i.2))

    high : InForms f e.hi
    high = (omega (arith, order, i.1), i.2)

    ordered : e.lo ≢ e.hi → is_ordered top e.lo e.hi ≡ true
    ordered x = grind (arith, nat_tests, order, part_not_whole top e i.0)

    by_test : (t : Bool) → eqb e.lo e.hi ≡ t → (r : Raw) × RawFits f r × (of r ≡ Ok (make e)) × (range f (raw_word r) ≡ Ok r)
    by_test true t = (
      raw.One e.lo,
      low,
      one e.lo ∙ ap (λ n. fine (make (ends e.lo n))) (number_is e.lo e.hi t),
      one_range f e.lo h low,
    )
    by_test false t = (raw.Two e.lo e.hi, (low, high), two e.lo e.hi (ordered (number_not e.lo e.hi t)), two_range f e.lo e.hi h low high)

-- facts of bytes

-- the forms let this fact of a byte in
abbrev pub FactIn : FactForms → Fact → Type 0
FactIn f Any = (f.low ≡ 0) × (f.top < f.limit)
FactIn f (Between e) = PartFits 255 e × (f.low ≤ e.lo) × (e.hi < f.limit)
FactIn f (Line a b) = (f.sloped ≡ true) × (1 ≤ a) × (a < f.limit) × (b < f.limit)
FactIn f (Loop a b) = (f.sloped ≡ true) × (1 ≤ a) × (a < f.limit) × (b < f.limit)
FactIn f (Old r) = (f.old ≡ true) × (r < 32)
FactIn f OldFlags = f.old ≡ true

abbrev ReadsAs : FactForms → List ℕ → Fact → Type 0
ReadsAs f w fact = (w ≡ fact_word fact) × FactIn f fact

fact_by : (f : FactForms) (w : List ℕ) (r : Raw) (fact : Fact) → f.limit ≤ 256 → Reads f w r → fact_of r ≡ Ok fact → ReadsAs f w fact
fact_by f w raw.All fact h e g = given (ReadsAs f w) Any fact g e
fact_by f w (raw.One n) fact h e g = given (ReadsAs f w) (Between (ends n n)) fact g (one_part 255 f w n (lit< tt) h e.0 e.1)
fact_by f w (raw.Two lo hi) fact h e g =
    let p = passed (is_ordered 255 lo hi) (Ok (Between (ends lo hi))) why.Order fact g in
    given (ReadsAs f w) (Between (ends lo hi)) fact p.1 (two_part 255 f w lo hi h e.0 e.1 p.0)
fact_by f w (raw.Line a b) fact h e g = given (ReadsAs f w) (Line a b) fact g e
fact_by f w (raw.Loop a b) fact h e g = given (ReadsAs f w) (Loop a b) fact g e
fact_by f w (raw.Old r) fact h e g = given (ReadsAs f w) (Old r) fact g e
fact_by f w raw.OldFlags fact h e g = given (ReadsAs f w) OldFlags fact g e

-- a fact's word is read only as it is spelled
pub fact_only : (f : FactForms) (w : List ℕ) (r : Raw) (fact : Fact) → f.limit ≤ 256 → raw_of f w ≡ Ok r → fact_of r ≡ Ok fact
    → (w ≡ fact_word fact) × FactIn f fact
fact_only f w r fact h e g = fact_by f w r fact h (raw_only f w r (omega arith) e) g

fact_found : (f : FactForms) (fact : Fact) → f.limit ≤ 2 ^ 32 → FactIn f fact → IsFound f fact_of fact
fact_found f Any h i = (raw.All, i, refl)
fact_found f (Between e) h i =
    let p = part_found fact_of (λ x. Between x) 255 f e h i (λ n. refl)
    (λ lo hi o. so (is_ordered 255 lo hi) (Ok (Between (ends lo hi))) (Err why.Order) o) in
    (p.0, p.1, p.2)
fact_found f (Line a b) h i = (raw.Line a b, i, refl)
fact_found f (Loop a b) h i = (raw.Loop a b, i, refl)
fact_found f (Old r) h i = (raw.Old r, i, refl)
fact_found f OldFlags h i = (raw.OldFlags, i, refl)

-- and so it is read again: some word is read as the fact, and that is its own
pub fact_so : (f : FactForms) (fact : Fact) → f.limit ≤ 256 → FactIn f fact → (r : Raw) × (raw_of f (fact_word fact) ≡ Ok r) × (fact_of r ≡ Ok fact)
fact_so f fact h i =
    let n = fact_found f fact (omega arith) i in
    let read = raw_so f n.0 (omega arith) n.1 in
    (n.0, ap (raw_of f) (sym (fact_only f (raw_word n.0) n.0 fact h read n.2).0) ∙ read, n.2)

-- facts of pairs

abbrev ReadsAsPair : List ℕ → PairFact → Type 0
ReadsAsPair w fact = (w ≡ pair_word fact) × PairFits fact

pair_slope : (a b : ℕ) → RawFits pair_forms (raw.Line a b) → SlopeFits 65535 a b
pair_slope a b i = record { some = i.1; factor = omega (arith, i.2); offset = omega (arith, i.3) }

pair_by : (w : List ℕ) (r : Raw) (fact : PairFact) → Reads pair_forms w r → pair_of r ≡ Ok fact → ReadsAsPair w fact
pair_by w raw.All fact e g = given (ReadsAsPair w) AnyPair fact g (e.0, tt)
pair_by w (raw.One n) fact e g =
    let p = one_part 65535 pair_forms w n (lit< tt) (lit≤ tt) e.0 e.1 in
    given (ReadsAsPair w) (BetweenPair (ends n n)) fact g (p.0, p.1.0)
pair_by w (raw.Two lo hi) fact e g =
    let p = passed (is_ordered 65535 lo hi) (Ok (BetweenPair (ends lo hi))) why.Order fact g in
    let q = two_part 65535 pair_forms w lo hi (lit≤ tt) e.0 e.1 p.0 in
    given (ReadsAsPair w) (BetweenPair (ends lo hi)) fact p.1 (q.0, q.1.0)
pair_by w (raw.Line a b) fact e g = given (ReadsAsPair w) (LinePair a b) fact g (e.0, pair_slope a b e.1)
pair_by w (raw.Loop a b) fact e g = given (ReadsAsPair w) (LoopPair a b) fact g (e.0, pair_slope a b e.1)
pair_by w (raw.Old r) fact e g = absurd cc
pair_by w raw.OldFlags fact e g = absurd cc

pub pair_only : (w : List ℕ) (r : Raw) (fact : PairFact) → raw_of pair_forms w ≡ Ok r → pair_of r ≡ Ok fact
    → (w ≡ pair_word fact) × PairFits fact
pair_only w r fact e g = pair_by w r fact (raw_only pair_forms w r (lit≤ tt) e) g

pair_found : (fact : PairFact) → PairFits fact → IsFound pair_forms pair_of fact
pair_found AnyPair i = (raw.All, (refl, lit< tt), refl)
pair_found (BetweenPair e) i =
    let p = part_found pair_of (λ x. BetweenPair x) 65535 pair_forms e (lit≤ tt) (i, omega arith, omega (arith, i.range.high)) (λ n. refl)
    (λ lo hi o. so (is_ordered 65535 lo hi) (Ok (BetweenPair (ends lo hi))) (Err why.Order) o) in
    (p.0, p.1, p.2)
pair_found (LinePair a b) i = (raw.Line a b, (refl, i.some, omega (arith, i.factor), omega (arith, i.offset)), refl)
pair_found (LoopPair a b) i = (raw.Loop a b, (refl, i.some, omega (arith, i.factor), omega (arith, i.offset)), refl)

pub pair_so : (fact : PairFact) → PairFits fact → (r : Raw) × (raw_of pair_forms (pair_word fact) ≡ Ok r) × (pair_of r ≡ Ok fact)
pair_so fact i =
    let n = pair_found fact i in
    let read = raw_so pair_forms n.0 (lit≤ tt) n.1 in
    (n.0, ap (raw_of pair_forms) (sym (pair_only (raw_word n.0) n.0 fact read n.2).0) ∙ read, n.2)

-- ranges of cells, within the cell's own, and the range of TEMP, which isn't the whole one

-- the whole range, or a part of it
abbrev ReadsEnds : FactForms → List ℕ → Raw → Ends → Type 0
ReadsEnds f w r e = ((r ≡ raw.All) × (ends 0 255 ≡ e)) ⊎ ReadsPart 255 f w e

ends_by : (f : FactForms) (w : List ℕ) (r : Raw) (e : Ends) → f.limit ≤ 256 → Reads f w r → ends_of r ≡ Ok e → ReadsEnds f w r e
ends_by f w raw.All e h i g = inl (refl, fine_is (ends 0 255) e g)
ends_by f w (raw.One n) e h i g = inr (given (ReadsPart 255 f w) (ends n n) e g (one_part 255 f w n (lit< tt) h i.0 i.1))
ends_by f w (raw.Two lo hi) e h i g =
    let p = passed (is_ordered 255 lo hi) (Ok (ends lo hi)) why.Order e g in
    inr (given (ReadsPart 255 f w) (ends lo hi) e p.1 (two_part 255 f w lo hi h i.0 i.1 p.0))
ends_by f w (raw.Line a b) e h i g = absurd cc
ends_by f w (raw.Loop a b) e h i g = absurd cc
ends_by f w (raw.Old r) e h i g = absurd cc
ends_by f w raw.OldFlags e h i g = absurd cc

ends_found : (f : FactForms) (e : Ends) → f.limit ≤ 2 ^ 32 → PartIn 255 f e
    → (r : Raw) × RawFits f r × (ends_of r ≡ Ok e) × (range f (raw_word r) ≡ Ok r)
ends_found f e h i =
    part_found ends_of (λ x. x) 255 f e h i (λ n. refl) (λ lo hi o. so (is_ordered 255 lo hi) (Ok (ends lo hi)) (Err why.Order) o)

pub span_only : (range : Ends) (w : List ℕ) (e : Ends) → range.hi ≤ 255 → span_of range w ≡ Ok e
    → (w ≡ ends_word 255 e) × RangeFits 255 e × (is_within e range ≡ true)
unfolding span_of
span_only range w e h g =
    let m = bind_ok (raw_of (span_forms range) w) (λ raw. ends_of raw) e g in
    let two = raw_only (span_forms range) w m.0 (omega arith) m.1 in
    by_part m.0 two (ends_by (span_forms range) w m.0 e (omega arith) two m.2)
  where
    inside : (x : Ends) → range.lo ≤ x.lo → x.hi < range.hi + 1 → is_within x range ≡ true
    inside x l k = grind (arith, nat_tests)

    by_part : (r : Raw) → Reads (span_forms range) w r → ReadsEnds (span_forms range) w r e
        → (w ≡ ends_word 255 e) × RangeFits 255 e × (is_within e range ≡ true)
    by_part r two (inr p) = (p.0, p.1.0.range, inside e p.1.1 p.1.2)
    by_part r two (inl p) =
        let all = subst (Reads (span_forms range) w) p.0 two in
        subst (λ (x : Ends). (w ≡ ends_word 255 x) × RangeFits 255 x × (is_within x range ≡ true)) p.1
        (all.0, record { order = lit≤ tt; high = lit≤ tt }, inside (ends 0 255) (omega (arith, all.1.0)) all.1.1)

pub span_so : (range e : Ends) → range.hi ≤ 255 → RangeFits 255 e → is_within e range ≡ true → span_of range (ends_word 255 e) ≡ Ok e
unfolding span_of
span_so range e h i w =
    let n = found (eqb e.lo 0 && eqb e.hi 255) refl in
    let read = then (raw_of (span_forms range) (raw_word n.0)) (λ raw. ends_of raw) n.0 (Ok e)
    (raw_so (span_forms range) n.0 (omega arith) n.1) n.2 in
    ap (span_of range) (sym (span_only range (raw_word n.0) e h read).0) ∙ read
  where
    low : range.lo ≤ e.lo
    low = le_is range.lo e.lo (and_true (leb range.lo e.lo) (leb e.hi range.hi) w).0

    high : e.hi ≤ range.hi
    high = le_is e.hi range.hi (and_true (leb range.lo e.lo) (leb e.hi range.hi) w).1

    found : (t : Bool) → (eqb e.lo 0 && eqb e.hi 255) ≡ t → IsFound (span_forms range) ends_of e
    found true t =
        let is : ends 0 255 ≡ e = whole_ends e t in
        let first : e.lo ≡ 0 = ap (λ (x : Ends). x.lo) (sym is) in
        let last : e.hi ≡ 255 = ap (λ (x : Ends). x.hi) (sym is) in
        (raw.All, (omega (arith, low, first), omega (arith, high, last)), ap (λ x. fine x) is)
    found false t =
        let p = ends_found (span_forms range) e (omega arith) (part_from e i t, low, omega (arith, high)) in
        (p.0, p.1, p.2)

-- a range is never read as `*`
pub temp_only : (w : List ℕ) (r : Raw) (e : Ends) → range temp_forms w ≡ Ok r → ends_of r ≡ Ok e → (w ≡ range_word e) × PartFits 255 e
unfolding range one_number
temp_only w r e h g =
    let two = range_only temp_forms w r (lit≤ tt) h in
    by_part (ends_by temp_forms w r e (lit≤ tt) two g) two
  where
    star : range temp_forms (codes "*") ≡ Err why.Word
    star = refl

    by_part : ReadsEnds temp_forms w r e → Reads temp_forms w r → (w ≡ range_word e) × PartFits 255 e
    by_part (inr p) two = (p.0 ∙ else_so (eqb e.lo 0 && eqb e.hi 255) (codes "*") (range_word e) (part_not_whole 255 e p.1.0), p.1.0)
    by_part (inl p) two =
        let all = subst (Reads temp_forms w) p.0 two in
        absurd (fault_not why.Word r (sym star ∙ ap (range temp_forms) (sym all.0) ∙ h))

pub temp_so : (e : Ends) → PartFits 255 e → (r : Raw) × (range temp_forms (range_word e) ≡ Ok r) × (ends_of r ≡ Ok e)
temp_so e h =
    let n = ends_found temp_forms e (lit≤ tt) (h, omega arith, omega (arith, h.range.high)) in
    (n.0, ap (range temp_forms) (sym (temp_only (raw_word n.0) n.0 e n.3 n.2).0) ∙ n.3, n.2)

-- flags: o stands for a flag in handlers alone

pub handler_is : (kind : Kind) → is_handler kind ≡ true → kind ≡ Handler
handler_is Main e = absurd cc
handler_is Handler e = refl
handler_is Alone e = absurd cc

pub bit_only : (kind : Kind) (w : List ℕ) (bit : Bit) → bit_of (is_handler kind) w ≡ Ok bit → (w ≡ flag_word bit) × BitFits kind bit
bit_only kind w bit e = grind (arith, nat_tests, word_is w, handler_is kind)

pub bit_so : (kind : Kind) (bit : Bit) → BitFits kind bit → bit_of (is_handler kind) (flag_word bit) ≡ Ok bit
bit_so kind Zero i = refl
bit_so kind One i = refl
bit_so kind Free i = refl
bit_so kind OldBit i = so (is_handler kind) (Ok OldBit) (Err why.Word) (ap is_handler i)
