-- The words of spelled lines: each byte is above the space, so that a line is cut into its words again, and has no line end.
use Rattle.uz_cert_laws.proofs.Common.{nat_tests, ◌≡◌, ℕ, ◌<◌, Bool, true, false, cond, eqb, List, [], ◌∷◌, length, refl, ◌∙◌, ap, arith}
use Rattle.uz_cert_laws.proofs.Common.{All-head, All-tail, Lacks, All, zero, suc, ◌+◌, ◌/◌, ◌&&◌, ltb, ◌++◌, map, codes, decimal, lit≤}
use Rattle.uz_cert_laws.proofs.Common.{sym, subst, plain, Ends, is_default_flag, Kind, Fact, PairFact, Bit, Cell, is_default, is_any_pair}
use Rattle.uz_cert_laws.proofs.Common.{range_word, ends_word, slope_word, fact_word, pair_word, flag_word, item, unless, register_items}
use Rattle.uz_cert_laws.proofs.Common.{register_item, pair_items, flag_items, slot_items, cell_items, successor_items, two_word}
use Rattle.uz_cert_laws.proofs.Common.{three_word, four_word, comparison_word, Some, None, value_word, value_item, value_items, ValueForm}
use Rattle.uz_cert_laws.proofs.Common.{a_number, a_range, a_comparison, a_register, ValueOf, is_usual, NamedItem, named_items}
use Rattle.uz_cert_laws.proofs.Common.{NamedValues, listed_items, numbers_from, options, signed_word, Register, Constant, Compared}
use Rattle.uz_hex.proofs.Plain.{EachLacks, split_join, EachPlain, each_plain_append, each_lacks, join_lacks, plain_append}
use Rattle.uz_cert_lines.specs.Grammar.{words_of, with_byte, cut_words}
use Rattle.uz_cert_writer.specs.Spelling.{line_of}
use Rattle.std.specs.{List.slice_split, List.onto_first, List.join_with_byte, Prelude.ℤ, Prelude.pos, Prelude.negsuc, Fmt.digits}
use Rattle.std.specs.{Fmt.digits_onto, Fmt.digit_glyph}
use Rattle.uz_cert_laws.proofs.{Spelled.numbered_cells, Spelled.cells_are, Spelled.in_range, Spelled.cell_word, Tests.and_true}
use Rattle.uz_cert_laws.proofs.{Tests.both_true, Named.name_plain, Named.is_table, Named.table}
use Rattle.std.proofs.{Common.◌%◌, lemmas.List.Splits.join_with_byte-slice_split}
use Rattle.uz_schedule.specs.declared.facts.Compared.TheVariants as told
use Rattle.uz_schedule.specs.declared.facts.Fact.TheVariants as fact
use Rattle.uz_schedule.specs.declared.facts.PairFact.TheVariants as pair
use Rattle.uz_schedule.specs.declared.facts.Bit.TheVariants as bit

onto : (b : ℕ) (parts : List (List ℕ)) (t : Bool) → cond t ([] ∷ parts) (with_byte b parts) ≡ cond t ([] ∷ parts) (onto_first b parts)
onto b parts true = refl
onto b [] false = refl
onto b (w ∷ ws) false = refl

cut_is : (line : List ℕ) → cut_words line ≡ slice_split (λ b. eqb b 32) line
cut_is [] = refl
cut_is (b ∷ bs) =
    onto b (cut_words bs) (eqb b 32) ∙ ap (λ (ps : List (List ℕ)). cond (eqb b 32) ([] ∷ ps) (onto_first b ps)) (cut_is bs)

all_lack : (ws : List (List ℕ)) → All (λ w. All (λ b. eqb b 32 ≡ false) w) ws → EachLacks 32 ws
all_lack [] h = tt
all_lack (w ∷ ws) h = (
  All-head (λ w. All (λ b. eqb b 32 ≡ false) w) w ws h,
  all_lack ws (All-tail (λ w. All (λ b. eqb b 32 ≡ false) w) w ws h),
)

pub more_again : (w v : List ℕ) (vs : List (List ℕ)) → Lacks 32 w → EachLacks 32 (v ∷ vs) → words_of (line_of (w ∷ v ∷ vs)) ≡ w ∷ v ∷ vs
more_again [] v vs h k = cut_is (line_of ([] ∷ v ∷ vs)) ∙ split_join 32 [] (v ∷ vs) h k
more_again (c ∷ cs) v vs h k = cut_is (line_of ((c ∷ cs) ∷ v ∷ vs)) ∙ split_join 32 (c ∷ cs) (v ∷ vs) h k

lacking_again : (c : ℕ) (cs : List ℕ) (ws : List (List ℕ)) → Lacks 32 (c ∷ cs) → EachLacks 32 ws
    → words_of (line_of ((c ∷ cs) ∷ ws)) ≡ (c ∷ cs) ∷ ws
lacking_again c cs [] h k = cut_is (c ∷ cs) ∙ split_join 32 (c ∷ cs) [] h k
lacking_again c cs (v ∷ vs) h k = more_again (c ∷ cs) v vs h k

pub words_again : (w : List ℕ) (ws : List (List ℕ)) → 0 < length w → All (λ v. All (λ b. eqb b 32 ≡ false) v) (w ∷ ws)
    → words_of (line_of (w ∷ ws)) ≡ w ∷ ws
words_again [] ws some h = absurd (omega arith)
words_again (c ∷ cs) ws some h = let lacks = all_lack ((c ∷ cs) ∷ ws) h in lacking_again c cs ws lacks.0 lacks.1

pub words_only : (line : List ℕ) → line_of (words_of line) ≡ line
words_only [] = refl
words_only (b ∷ bs) = ap (join_with_byte 32) (cut_is (b ∷ bs)) ∙ join_with_byte-slice_split 32 (b ∷ bs)

-- lines are cut into their words again

pub plain_again : (w v : List ℕ) (ws : List (List ℕ)) → EachPlain (w ∷ v ∷ ws) → words_of (line_of (w ∷ v ∷ ws)) ≡ w ∷ v ∷ ws
plain_again w v ws h =
    let l = each_lacks 32 (w ∷ v ∷ ws) (lit≤ tt) h in
    more_again w v ws l.0 l.1

-- a line of such words has no line end
pub line_lacks : (ws : List (List ℕ)) → EachPlain ws → Lacks 10 (line_of ws)
line_lacks ws h = join_lacks 10 32 ws (λ e. omega (arith, e)) (each_lacks 10 ws (lit≤ tt) h)

-- numbers

plain_more : (b : ℕ) (w : List ℕ) → ltb 32 b ≡ true → plain w ≡ true → plain (b ∷ w) ≡ true
plain_more b w h k = both_true (ltb 32 b) (plain w) h k

either : (t : Bool) (x y : List ℕ) → plain x ≡ true → plain y ≡ true → plain (cond t x y) ≡ true
either true x y h k = h
either false x y h k = k

plain_glyph : (d : ℕ) → ltb 32 (digit_glyph false d) ≡ true
plain_glyph d = grind (arith, nat_tests)

plain_digits : (k n : ℕ) (acc : List ℕ) → plain acc ≡ true → plain (digits_onto k 10 false n acc) ≡ true
plain_digits zero n acc h = h
plain_digits (suc k) n acc h =
    let glyph = digit_glyph false (n % 10) in
    let more = plain_more glyph acc (plain_glyph (n % 10)) h in
    either (eqb (n / 10) 0) (glyph ∷ acc) (digits_onto k 10 false (n / 10) (glyph ∷ acc)) more (plain_digits k (n / 10) (glyph ∷ acc) more)

pub plain_number : (n : ℕ) → plain (decimal n) ≡ true
unfolding digits
plain_number n = plain_digits 64 n [] refl

pub plain_numbers : (ns : List ℕ) → EachPlain (map decimal ns)
plain_numbers [] = tt
plain_numbers (n ∷ ns) = (plain_number n, plain_numbers ns)

pub plain_signed : (z : ℤ) → plain (signed_word z) ≡ true
plain_signed (pos n) = plain_number n
plain_signed (negsuc n) = plain_more 45 (decimal (n + 1)) refl (plain_number (n + 1))

-- facts

plain_range : (e : Ends) → plain (range_word e) ≡ true
plain_range e =
    either (eqb e.lo e.hi) (decimal e.lo) (decimal e.lo ++ codes ".." ++ decimal e.hi) (plain_number e.lo)
    (plain_append (decimal e.lo ++ codes "..") (decimal e.hi) (plain_append (decimal e.lo) (codes "..") (plain_number e.lo) refl)
    (plain_number e.hi))

plain_ends : (top : ℕ) (e : Ends) → plain (ends_word top e) ≡ true
plain_ends top e = either (eqb e.lo 0 && eqb e.hi top) (codes "*") (range_word e) refl (plain_range e)

plain_slope : (of : List ℕ) (a b : ℕ) → plain of ≡ true → plain (slope_word of a b) ≡ true
plain_slope of a b o =
    plain_append (of ++ codes "*" ++ decimal a ++ codes "+") (decimal b)
    (plain_append (of ++ codes "*" ++ decimal a) (codes "+")
    (plain_append (of ++ codes "*") (decimal a) (plain_append of (codes "*") o refl) (plain_number a)) refl)
    (plain_number b)

plain_fact : (f : Fact) → plain (fact_word f) ≡ true
plain_fact fact.Any = refl
plain_fact (fact.Between e) = plain_ends 255 e
plain_fact (fact.Line a b) = plain_slope (codes "l") a b refl
plain_fact (fact.Loop a b) = plain_slope (codes "c") a b refl
plain_fact (fact.Old r) = plain_more 111 (decimal r) refl (plain_number r)
plain_fact fact.OldFlags = refl

plain_pair : (f : PairFact) → plain (pair_word f) ≡ true
plain_pair pair.Any = refl
plain_pair (pair.Between e) = plain_ends 65535 e
plain_pair (pair.Line a b) = plain_slope (codes "l") a b refl
plain_pair (pair.Loop a b) = plain_slope (codes "c") a b refl

plain_flag : (b : Bit) → plain (flag_word b) ≡ true
plain_flag bit.Zero = refl
plain_flag bit.One = refl
plain_flag bit.Free = refl
plain_flag bit.Old = refl

-- what the flags tell

plain_listed_on : (a : ℕ) (w : List ℕ) → plain w ≡ true → plain (decimal a ++ 44 ∷ w) ≡ true
plain_listed_on a w h = plain_append (decimal a) (44 ∷ w) (plain_number a) (plain_more 44 w refl h)

plain_two : (a b : ℕ) → plain (two_word a b) ≡ true
plain_two a b = plain_listed_on a (decimal b) (plain_number b)

plain_three : (a b c : ℕ) → plain (three_word a b c) ≡ true
plain_three a b c = plain_listed_on a (two_word b c) (plain_two b c)

plain_four : (a b c d : ℕ) → plain (four_word a b c d) ≡ true
plain_four a b c d = plain_listed_on a (three_word b c d) (plain_three b c d)

plain_comparison : (x : Compared) → plain (comparison_word x) ≡ true
plain_comparison told.Nothing = refl
plain_comparison (told.Byte d (Register r)) = plain_append (codes "cp:") (two_word d r) refl (plain_two d r)
plain_comparison (told.Byte d (Constant k)) = plain_append (codes "cpi:") (two_word d k) refl (plain_two d k)
plain_comparison (told.Pair d (Register r) high) = plain_append (codes "cpw:") (three_word d r high) refl (plain_three d r high)
plain_comparison (told.Pair d (Constant k) high) = plain_append (codes "cpiw:") (three_word d k high) refl (plain_three d k high)
plain_comparison (told.Result d k old) = plain_append (codes "sub:") (four_word d k old.lo old.hi) refl (plain_four d k old.lo old.hi)
plain_comparison (told.PairResult d k old) = plain_append (codes "subw:") (four_word d k old.lo old.hi) refl (plain_four d k old.lo old.hi)
plain_comparison (told.Value d) = plain_append (codes "tst:") (decimal d) refl (plain_number d)

plain_value : (form : ValueForm) (x : ValueOf form) → plain (value_word form x) ≡ true
plain_value (a_number limit may usual) n = plain_number n
plain_value a_range e = plain_range e
plain_value a_comparison compared = plain_comparison compared
plain_value a_register None = refl
plain_value a_register (Some r) = plain_number r

-- items

plain_item : (key value : List ℕ) → plain key ≡ true → plain value ≡ true → plain (item key value) ≡ true
plain_item key value h k = plain_append key (61 ∷ value) h (plain_more 61 value refl k)

plain_unless : (t : Bool) (word : List ℕ) (words : List (List ℕ)) → plain word ≡ true → EachPlain words → EachPlain (unless t word words)
plain_unless true word words h k = k
plain_unless false word words h k = (h, k)

plain_options : {K A : Type 0} (is_usual : K → A → Bool) (word : K → A → List ℕ) (ks : List K) (xs : List A)
    → ((k : K) (x : A) → plain (word k x) ≡ true) → EachPlain (options is_usual word ks xs)
plain_options is_usual word [] xs h = tt
plain_options is_usual word (k ∷ ks) [] h = tt
plain_options is_usual word (k ∷ ks) (x ∷ xs) h =
    plain_unless (is_usual k x) (word k x) (options is_usual word ks xs) (h k x) (plain_options is_usual word ks xs h)

-- items whose keys are letters
plain_lettered : {A : Type 0} (is_usual : ℕ → A → Bool) (value : A → List ℕ) (letters : List ℕ) (xs : List A) → plain letters ≡ true
    → ((x : A) → plain (value x) ≡ true) → EachPlain (options is_usual (λ c x. item (c ∷ []) (value x)) letters xs)
plain_lettered is_usual value [] xs l h = tt
plain_lettered is_usual value (c ∷ cs) [] l h = tt
plain_lettered is_usual value (c ∷ cs) (x ∷ xs) l h =
    let both = and_true (ltb 32 c) (plain cs) l in
    plain_unless (is_usual c x) (item (c ∷ []) (value x)) (options is_usual (λ c x. item (c ∷ []) (value x)) cs xs)
    (plain_item (c ∷ []) (value x) (plain_more c [] both.0 refl) (h x)) (plain_lettered is_usual value cs xs both.1 h)

plain_map : {A : Type 0} (word : A → List ℕ) (xs : List A) → ((x : A) → plain (word x) ≡ true) → EachPlain (map word xs)
plain_map word [] h = tt
plain_map word (x ∷ xs) h = (h x, plain_map word xs h)

pub plain_spans : (es : List Ends) → EachPlain (map (ends_word 255) es)
plain_spans es = plain_map (ends_word 255) es (plain_ends 255)

pub plain_registers : (kind : Kind) (fs : List Fact) → EachPlain (register_items kind 0 fs)
plain_registers kind fs =
    plain_options (is_default kind) register_item (numbers_from 0 (length fs)) fs
    (λ r f. plain_item (114 ∷ decimal r) (fact_word f) (plain_more 114 (decimal r) refl (plain_number r)) (plain_fact f))

pub plain_pairs : (fs : List PairFact) → EachPlain (pair_items (codes "xyz") fs)
plain_pairs fs = plain_lettered (λ letter f. is_any_pair f) pair_word (codes "xyz") fs refl plain_pair

pub plain_flags : (kind : Kind) (bs : List Bit) → EachPlain (flag_items kind (codes "cznvsht") bs)
plain_flags kind bs = plain_lettered (λ letter b. is_default_flag kind b) flag_word (codes "cznvsht") bs refl plain_flag

pub plain_slots : (fs : List Fact) → EachPlain (slot_items fs)
plain_slots fs = plain_map (λ f. codes "s:" ++ fact_word f) fs (λ f. plain_append (codes "s:") (fact_word f) refl (plain_fact f))

pub plain_cells : (kind : Kind) (cs : List Cell) (fs : List Fact) → EachPlain (cell_items kind 0 cs fs)
plain_cells kind cs fs =
    subst EachPlain (sym (cells_are kind 0 cs fs))
    (plain_options in_range cell_word (numbered_cells kind 0 cs) fs
    (λ p f. plain_item (109 ∷ decimal p.0) (fact_word f) (plain_more 109 (decimal p.0) refl (plain_number p.0)) (plain_fact f)))

plain_named : (is : List NamedItem) (v : NamedValues is) → is_table is ≡ true → EachPlain (listed_items is v)
plain_named [] v e = tt
plain_named (i ∷ is) v e =
    let t = table i is e in
    each_plain_append (value_items i v.0) (listed_items is v.1)
    (plain_unless (is_usual i.form v.0) (value_item i v.0) []
    (plain_item i.key (value_word i.form v.0) (name_plain i.key t.name) (plain_value i.form v.0)) tt)
    (plain_named is v.1 t.rest)

pub plain_listed : (v : NamedValues named_items) → EachPlain (listed_items named_items v)
plain_listed v = plain_named named_items v refl

pub plain_successors : (ids : List ℕ) → EachPlain (successor_items ids)
plain_successors ids = plain_map (λ id. 62 ∷ decimal id) ids (λ id. plain_more 62 (decimal id) refl (plain_number id))
