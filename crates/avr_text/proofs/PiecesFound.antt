-- What the piece at the front of a text says of the bytes there.
use Rattle.std.proofs.Common.{◌≡◌, ℕ, ◌+◌, ◌<◌, Bool, true, false, cond, List, [], ◌∷◌, ◌++◌, length, count_by, refl, sym, ◌∙◌, ap, subst}
use Rattle.std.proofs.Common.{arith, Option, None, Some, ◌&&◌, ◌==◌, slice_index}
use Rattle.std.proofs.lemmas.Bool.Decides.{nat_tests}
use Rattle.std.proofs.lemmas.List.Sums.{sum_by-cons, sum_by-append, take_while-cons}
use Rattle.std.proofs.lemmas.List.Folds.{length-prefix_len}
use Rattle.std.specs.List.{prefix_len, take_while}
use Rattle.avr_text.specs.declared.pieces.Piece.{Piece}
use Rattle.avr_text.specs.declared.pieces.Piece.TheVariants as piece
use Rattle.avr_text.specs.declared.tokens.TokenKind.{TokenKind}
use Rattle.avr_text.specs.declared.tokens.TokenKind.TheVariants.{Name, Mark, ShiftLeft, ShiftRight, LineEnd}
use Rattle.avr_text.specs.declared.tokens.LexWhy.TheVariants as lex_why
use Rattle.uz_hex.specs.Lines.{is_blank}
use Rattle.avr_text.specs.Characters.{is_digit, is_word, is_mark, goes_on_line}
use Rattle.avr_text.specs.Numbers.{number_of}
use Rattle.avr_text.specs.Pieces.{second, number_piece, word_piece, other_piece, piece_at}
use Rattle.avr_text.specs.Tokens.{line_after}
use Rattle.avr_text.specs.Spans.{Each, Stops, IsGap, gap_none, gap_blank, gap_return, gap_comment, IsWord, IsSpelling, NothingBegins}
use Rattle.avr_text.specs.Spans.{FaultAt}

-- how many lines end in bytes
abbrev pub ends : List ℕ → ℕ
ends bs = count_by (λ b. b == 10) bs

pub ends_cons : (b : ℕ) (bs : List ℕ) → ends (b ∷ bs) ≡ cond (b == 10) 1 0 + ends bs
ends_cons b bs = sum_by-cons (λ x. cond (x == 10) 1 0) b bs

pub ends_append : (xs ys : List ℕ) → ends (xs ++ ys) ≡ ends xs + ends ys
ends_append xs ys = sum_by-append (λ x. cond (x == 10) 1 0) xs ys

pub quiet_byte : (b : ℕ) (bs : List ℕ) → (b == 10) ≡ false → ends bs ≡ 0 → ends (b ∷ bs) ≡ 0
quiet_byte b bs e f = ends_cons b bs ∙ ap (λ t. cond t 1 0 + ends bs) e ∙ omega arith

pub quiet : (test : ℕ → Bool) → ((b : ℕ) → test b ≡ true → (b == 10) ≡ false) → (bs : List ℕ) → Each test bs → ends bs ≡ 0
quiet test h [] k = refl
quiet test h (b ∷ bs) k = quiet_byte b bs (h b k.0) (quiet test h bs k.1)

pub word_is_quiet : (b : ℕ) → is_word b ≡ true → (b == 10) ≡ false
word_is_quiet b h = grind (arith, nat_tests)

pub line_is_quiet : (b : ℕ) → goes_on_line b ≡ true → (b == 10) ≡ false
line_is_quiet b h = grind (arith, nat_tests)

pub blank_is_quiet : (b : ℕ) → is_blank b ≡ true → (b == 10) ≡ false
blank_is_quiet b h = grind (arith, nat_tests)

-- the front of a list that passes a test
record While (test : ℕ → Bool) (bs front : List ℕ) : Type 0 where
  pub after : List ℕ
  pub parts : bs ≡ front ++ after
  pub passes : Each test front
  pub stops : Stops test after

while_says : (test : ℕ → Bool) (bs : List ℕ) → While test bs (take_while test bs)
while_says test [] = record { after = []; parts = refl; passes = tt; stops = tt }
while_says test (b ∷ bs) = subst (While test (b ∷ bs)) (sym (take_while-cons test b bs)) (go (test b) refl (while_says test bs))
  where
    go : (t : Bool) → test b ≡ t → While test bs (take_while test bs) → While test (b ∷ bs) (cond t (b ∷ take_while test bs) [])
    go true e w = record { after = w.after; parts = ap (λ us. b ∷ us) w.parts; passes = (e, w.passes); stops = w.stops }
    go false e w = record { after = b ∷ bs; parts = refl; passes = tt; stops = e }

-- a gap's first piece
pub record GapSays (n : ℕ) (bytes : List ℕ) : Type 0 where
  pub word : List ℕ
  pub after : List ℕ
  pub parts : bytes ≡ word ++ after
  pub len : length word ≡ n
  pub some : 0 < n
  pub quiet : ends word ≡ 0
  pub more : (gap rest : List ℕ) → gap ++ rest ≡ after → IsGap gap rest → IsGap (word ++ gap) rest

pub record TokenSays (kind : TokenKind) (n : ℕ) (bytes : List ℕ) : Type 0 where
  pub word : List ℕ
  pub after : List ℕ
  pub parts : bytes ≡ word ++ after
  pub len : length word ≡ n
  pub some : 0 < n
  pub spelled : IsSpelling kind word after
  pub line : (line : ℕ) → line_after kind line ≡ line + ends word

abbrev pub PieceSays : Piece → List ℕ → Type 0
PieceSays (piece.Gap n) bytes = GapSays n bytes
PieceSays (piece.Token kind n) bytes = TokenSays kind n bytes
PieceSays (piece.Fault why) bytes = FaultAt why bytes

-- a word
pub same_line : (line n : ℕ) → n ≡ 0 → line ≡ line + n
same_line line n e = omega arith

number_says : (bytes word after : List ℕ) (o : Option ℕ) → bytes ≡ word ++ after → IsWord word after → is_digit (slice_index word 0) ≡ true
    → number_of word ≡ o → PieceSays (number_piece (length word) o) bytes
number_says bytes word after None e w d f = (word, after, e, w, d, f)
number_says bytes word after (Some n) e w d f = record {
  word = word;
  after = after;
  parts = e;
  len = refl;
  some = w.some;
  spelled = (w, d, n, f, refl);
  line = λ line. same_line line (ends word) (quiet is_word word_is_quiet word w.letters);
}

word_says : (bytes word after : List ℕ) (d : Bool) → bytes ≡ word ++ after → IsWord word after → is_digit (slice_index word 0) ≡ d
    → PieceSays (cond d (number_piece (length word) (number_of word)) (piece.Token Name (length word))) bytes
word_says bytes word after true e w d = number_says bytes word after (number_of word) e w d refl
word_says bytes word after false e w d = record {
  word = word;
  after = after;
  parts = e;
  len = refl;
  some = w.some;
  spelled = (w, d);
  line = λ line. same_line line (ends word) (quiet is_word word_is_quiet word w.letters);
}

first_passes : (b : ℕ) (bs : List ℕ) → is_word b ≡ true → 0 < length (take_while is_word (b ∷ bs))
first_passes b bs h = subst (λ us. 0 < length us) (sym (take_while-cons is_word b bs ∙ ap (λ t. cond t (b ∷ take_while is_word bs) []) h))
    (omega arith)

-- what no word is
same : (a b : ℕ) → (a == b) ≡ true → a ≡ b
same a b e = grind (arith, nat_tests)

both_true : (p q : Bool) → (p && q) ≡ true → (p ≡ true) × (q ≡ true)
both_true true true e = (refl, refl)
both_true other rest e = absurd cc

follows : (b c : ℕ) (us : List ℕ) → 0 < c → (second (b ∷ us) == c) ≡ true → (vs : List ℕ) × (us ≡ c ∷ vs)
follows b c [] h e = absurd (let z : 0 ≡ c = same 0 c e in omega arith)
follows b c (u ∷ vs) h e = (vs, ap (λ x. x ∷ vs) (same u c e))

one_gap : (b : ℕ) (us : List ℕ) → (b == 10) ≡ false → ((gap rest : List ℕ) → gap ++ rest ≡ us → IsGap gap rest → IsGap (b ∷ gap) rest)
    → GapSays 1 (b ∷ us)
one_gap b us e more = record {
  word = b ∷ [];
  after = us;
  parts = refl;
  len = refl;
  some = omega arith;
  quiet = quiet_byte b [] e refl;
  more = more;
}

comment_says : (us : List ℕ) → GapSays (1 + prefix_len goes_on_line us) (59 ∷ us)
comment_says us =
    let w = while_says goes_on_line us in
    let n = length-prefix_len goes_on_line us in
    record {
      word = 59 ∷ take_while goes_on_line us;
      after = w.after;
      parts = ap (λ bs. 59 ∷ bs) w.parts;
      len = omega (arith, n);
      some = omega arith;
      quiet = quiet_byte 59 (take_while goes_on_line us) refl (quiet goes_on_line line_is_quiet (take_while goes_on_line us) w.passes);
      more = λ gap rest e g. gap_comment (take_while goes_on_line us) w.passes (subst (Stops goes_on_line) (sym e) w.stops) g;
    }

pair_says : (kind : TokenKind) (c b : ℕ) (us : List ℕ) → 0 < c → (c == 10) ≡ false → ((after : List ℕ) → IsSpelling kind (c ∷ c ∷ []) after)
    → ((line : ℕ) → line_after kind line ≡ line) → (b == c && second (b ∷ us) == c) ≡ true → TokenSays kind 2 (b ∷ us)
pair_says kind c b us h ten spelled stays e =
    let t = both_true (b == c) (second (b ∷ us) == c) e in
    let f = follows b c us h t.1 in
    let first : b ≡ c = same b c t.0 in
    record {
      word = c ∷ c ∷ [];
      after = f.0;
      parts = ap (λ x. x ∷ us) first ∙ ap (λ vs. c ∷ vs) f.1;
      len = refl;
      some = omega arith;
      spelled = spelled f.0;
      line = λ line. stays line ∙ same_line line (ends (c ∷ c ∷ [])) (quiet_byte c (c ∷ []) ten (quiet_byte c [] ten refl));
    }

-- the tests of bytes that are no word
abbrev blank_first : List ℕ → Bool
blank_first bs = is_blank (slice_index bs 0)

abbrev end_first : List ℕ → Bool
end_first bs = slice_index bs 0 == 10

abbrev mark_first : List ℕ → Bool
mark_first bs = is_mark (slice_index bs 0)

abbrev comment_first : List ℕ → Bool
comment_first bs = slice_index bs 0 == 59

abbrev return_first : List ℕ → Bool
return_first bs = slice_index bs 0 == 13 && second bs == 10

abbrev left_first : List ℕ → Bool
left_first bs = slice_index bs 0 == 60 && second bs == 60

abbrev right_first : List ℕ → Bool
right_first bs = slice_index bs 0 == 62 && second bs == 62

record NoneFirst (bs : List ℕ) : Type 0 where
  pub word : Stops is_word bs
  pub blank : blank_first bs ≡ false
  pub end : end_first bs ≡ false
  pub mark : mark_first bs ≡ false
  pub comment : comment_first bs ≡ false
  pub return : return_first bs ≡ false
  pub left : left_first bs ≡ false
  pub right : right_first bs ≡ false

refuted : (t : Bool) → t ≡ true → t ≡ false → ⊥
refuted true e f = let x : true ≡ false = f in absurd cc
refuted false e f = let x : false ≡ true = e in absurd cc

no_gap : (gap after : List ℕ) → NoneFirst (gap ++ after) → IsGap gap after → gap ≡ []
no_gap _ after n gap_none = refl
no_gap _ after n (gap_blank {b = b} h g) = absurd (refuted (is_blank b) h n.blank)
no_gap _ after n (gap_return {gap = gap} rest e g) =
    absurd (refuted (return_first (13 ∷ (gap ++ after))) (subst (λ us. return_first (13 ∷ us) ≡ true) (sym e) refl) n.return)
no_gap _ after n (gap_comment comment h s g) = absurd (refuted true refl n.comment)

no_word : (word after : List ℕ) → Stops is_word (word ++ after) → ¬ IsWord word after
no_word [] after s w = let some : 0 < 0 = w.some in absurd (omega arith)
no_word (b ∷ bs) after s w = refuted (is_word b) w.letters.0 s

no_token : (kind : TokenKind) (word after : List ℕ) → NoneFirst (word ++ after) → ¬ IsSpelling kind word after
no_token (Mark b) word after n h = refuted (is_mark b) h.0 (subst (λ w. mark_first (w ++ after) ≡ false) h.1 n.mark)
no_token ShiftLeft word after n h = refuted true refl (subst (λ w. left_first (w ++ after) ≡ false) h n.left)
no_token ShiftRight word after n h = refuted true refl (subst (λ w. right_first (w ++ after) ≡ false) h n.right)
no_token LineEnd word after n h = refuted true refl (subst (λ w. end_first (w ++ after) ≡ false) h n.end)
no_token other word after n h = no_word word after n.word h.0

nothing_begins : (bytes : List ℕ) → NoneFirst bytes → NothingBegins bytes
nothing_begins bytes n = record {
  no_gap = λ gap after e g. no_gap gap after (subst NoneFirst e n) g;
  no_token = λ kind word after e. no_token kind word after (subst NoneFirst e n);
}

other_says : (b : ℕ) (us : List ℕ) (p q r s t u v : Bool) → is_word b ≡ false → blank_first (b ∷ us) ≡ p → end_first (b ∷ us) ≡ q
    → mark_first (b ∷ us) ≡ r → comment_first (b ∷ us) ≡ s → return_first (b ∷ us) ≡ t → left_first (b ∷ us) ≡ u → right_first (b ∷ us) ≡ v
    → PieceSays (cond p (piece.Gap 1)
    (cond q (piece.Token LineEnd 1)
    (cond r (piece.Token (Mark b) 1) (cond s (piece.Gap (1 + prefix_len goes_on_line us))
    (cond t (piece.Gap 1) (cond u (piece.Token ShiftLeft 2) (cond v (piece.Token ShiftRight 2) (piece.Fault lex_why.Byte))))))))
    (b ∷ us)
other_says b us true q r s t u v w e1 e2 e3 e4 e5 e6 e7 = one_gap b us (blank_is_quiet b e1) (λ gap rest e g. gap_blank e1 g)
other_says b us false true r s t u v w e1 e2 e3 e4 e5 e6 e7 =
    let ten : b ≡ 10 = same b 10 e2 in
    record {
      word = 10 ∷ [];
      after = us;
      parts = ap (λ x. x ∷ us) ten;
      len = refl;
      some = omega arith;
      spelled = refl;
      line = λ line. ap (λ k. line + k) (sym (ends_cons 10 []));
    }
other_says b us false false true s t u v w e1 e2 e3 e4 e5 e6 e7 =
    record {
      word = b ∷ [];
      after = us;
      parts = refl;
      len = refl;
      some = omega arith;
      spelled = (e3, refl);
      line = λ line. same_line line (ends (b ∷ [])) (quiet_byte b [] e2 refl);
    }
other_says b us false false false true t u v w e1 e2 e3 e4 e5 e6 e7 =
    subst (λ x. GapSays (1 + prefix_len goes_on_line us) (x ∷ us)) (sym (same b 59 e4)) (comment_says us)
other_says b us false false false false true u v w e1 e2 e3 e4 e5 e6 e7 =
    let t = both_true (b == 13) (second (b ∷ us) == 10) e5 in
    let f = follows b 10 us (omega arith) t.1 in
    subst (λ x. GapSays 1 (x ∷ us)) (sym (same b 13 t.0)) (one_gap 13 us refl (λ gap rest e g. gap_return f.0 (e ∙ f.1) g))
other_says b us false false false false false true v w e1 e2 e3 e4 e5 e6 e7 = pair_says ShiftLeft 60 b us (omega arith) refl (λ after. refl)
    (λ line. refl) e6
other_says b us false false false false false false true w e1 e2 e3 e4 e5 e6 e7 = pair_says ShiftRight 62 b us (omega arith) refl
    (λ after. refl) (λ line. refl) e7
other_says b us false false false false false false false w e1 e2 e3 e4 e5 e6 e7 =
    (w, nothing_begins (b ∷ us) (record { word = w; blank = e1; end = e2; mark = e3; comment = e4; return = e5; left = e6; right = e7 }))

-- the piece at the front
pub piece_says : (b : ℕ) (us : List ℕ) → PieceSays (piece_at (b ∷ us)) (b ∷ us)
piece_says b us = go (is_word b) refl
  where
    go : (t : Bool) → is_word b ≡ t → PieceSays (cond t (word_piece (take_while is_word (b ∷ us))) (other_piece (b ∷ us))) (b ∷ us)
    go true e =
        let w = while_says is_word (b ∷ us) in
        word_says (b ∷ us) (take_while is_word (b ∷ us)) w.after (is_digit (slice_index (take_while is_word (b ∷ us)) 0)) w.parts
        (record { some = first_passes b us e; letters = w.passes; longest = w.stops }) refl
    go false e =
        other_says b us (blank_first (b ∷ us)) (end_first (b ∷ us)) (mark_first (b ∷ us)) (comment_first (b ∷ us)) (return_first (b ∷ us))
        (left_first (b ∷ us)) (right_first (b ∷ us)) e refl refl refl refl refl refl refl
