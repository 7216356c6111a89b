-- Words that lack a byte, and words whose bytes are all above the space.
use Rattle.std.proofs.Common.{◌≡◌, ◌≢◌, ℕ, ◌<◌, ◌≤◌, ◌^◌, Bool, true, false, ◌&&◌, eqb, leb, ltb, List, [], ◌∷◌, ◌++◌, All, decimal, refl}
use Rattle.std.proofs.Common.{◌∙◌, ap, arith}
use Rattle.std.specs.List.{slice_split, join_with_byte}
use Rattle.std.proofs.lemmas.Bool.Decides.{nat_tests}
use Rattle.std.proofs.lemmas.List.Splits.{slice_split_at, slice_split_none}
use Rattle.std.proofs.lemmas.List.Elements.{All-nil, All-cons, All-append}
use Rattle.uz_hex.specs.Numbers.{all_digits}
use Rattle.uz_hex.proofs.NumberWords.{digits_of_decimal}

-- no byte of the text is this one
abbrev pub Lacks : ℕ → List ℕ → Type 0
Lacks c bs = All (λ b. eqb b c ≡ false) bs

abbrev pub EachLacks : ℕ → List (List ℕ) → Type 0
EachLacks c [] = Unit {0}
EachLacks c (w ∷ ws) = Lacks c w × EachLacks c ws

pub lacks_nil : (c : ℕ) → Lacks c []
lacks_nil c = All-nil _

pub lacks_cons : (c b : ℕ) (bs : List ℕ) → b ≢ c → Lacks c bs → Lacks c (b ∷ bs)
lacks_cons c b bs ne h =
    let not : eqb b c ≡ false = grind (arith, nat_tests) in
    All-cons (λ x. eqb x c ≡ false) b bs not h

pub lacks_append : (c : ℕ) (xs ys : List ℕ) → Lacks c xs → Lacks c ys → Lacks c (xs ++ ys)
lacks_append c xs ys h k = All-append (λ b. eqb b c ≡ false) xs ys h k

-- words that lack a byte and are joined by it are cut apart again
pub split_join : (c : ℕ) (w : List ℕ) (ws : List (List ℕ)) → Lacks c w → EachLacks c ws → slice_split (λ b. eqb b c)
    (join_with_byte c (w ∷ ws)) ≡ w ∷ ws
split_join c w [] h hs = slice_split_none (λ b. eqb b c) w h
split_join c w (v ∷ vs) h hs =
    slice_split_at (λ b. eqb b c) w c (join_with_byte c (v ∷ vs)) h (grind (arith, nat_tests)) ∙ ap (λ parts. w ∷ parts)
    (split_join c v vs hs.0 hs.1)

-- words that lack a byte lack it joined by another one
pub join_lacks : (c d : ℕ) (ws : List (List ℕ)) → d ≢ c → EachLacks c ws → Lacks c (join_with_byte d ws)
join_lacks c d [] ne h = lacks_nil c
join_lacks c d (w ∷ []) ne h = h.0
join_lacks c d (w ∷ v ∷ vs) ne h = lacks_append c w _ h.0 (lacks_cons c d _ ne (join_lacks c d (v ∷ vs) ne h.1))

-- every byte is above 32, so that no byte is a space or a line's end; it computes at a literal
abbrev pub plain : List ℕ → Bool
plain [] = true
plain (b ∷ bs) = ltb 32 b && plain bs

-- every word is plain
abbrev pub EachPlain : List (List ℕ) → Type 0
EachPlain [] = Unit {0}
EachPlain (w ∷ ws) = (plain w ≡ true) × EachPlain ws

and_true : (a b : Bool) → (a && b) ≡ true → (a ≡ true) × (b ≡ true)
and_true true b e = (refl, e)
and_true false b e = absurd cc

both_true : (a b : Bool) → a ≡ true → b ≡ true → (a && b) ≡ true
both_true true b e f = f
both_true false b e f = absurd cc

pub plain_lacks : (c : ℕ) (w : List ℕ) → c ≤ 32 → plain w ≡ true → Lacks c w
plain_lacks c [] h e = lacks_nil c
plain_lacks c (b ∷ bs) h e =
    let both = and_true (ltb 32 b) (plain bs) e in
    lacks_cons c b bs (differs c b h both.0) (plain_lacks c bs h both.1)
  where
    differs : (c b : ℕ) → c ≤ 32 → ltb 32 b ≡ true → b ≢ c
    differs c b h e f = grind (arith, nat_tests)

pub each_lacks : (c : ℕ) (ws : List (List ℕ)) → c ≤ 32 → EachPlain ws → EachLacks c ws
each_lacks c [] h e = tt
each_lacks c (w ∷ ws) h e = (plain_lacks c w h e.0, each_lacks c ws h e.1)

pub plain_append : (v w : List ℕ) → plain v ≡ true → plain w ≡ true → plain (v ++ w) ≡ true
plain_append [] w e f = f
plain_append (b ∷ bs) w e f =
    let both = and_true (ltb 32 b) (plain bs) e in
    both_true (ltb 32 b) (plain (bs ++ w)) both.0 (plain_append bs w both.1 f)

pub plain_digits : (w : List ℕ) → all_digits w ≡ true → plain w ≡ true
plain_digits [] e = refl
plain_digits (b ∷ bs) e =
    let both = and_true (leb 48 b && leb b 57) (all_digits bs) e in
    let digit = and_true (leb 48 b) (leb b 57) both.0 in
    both_true (ltb 32 b) (plain bs) (above b digit.0) (plain_digits bs both.1)
  where
    above : (b : ℕ) → leb 48 b ≡ true → ltb 32 b ≡ true
    above b e = grind (arith, nat_tests)

pub plain_decimal : (n : ℕ) → n < 2 ^ 64 → plain (decimal n) ≡ true
plain_decimal n h = plain_digits (decimal n) (digits_of_decimal n h)

pub each_plain_append : (vs ws : List (List ℕ)) → EachPlain vs → EachPlain ws → EachPlain (vs ++ ws)
each_plain_append [] ws h k = k
each_plain_append (v ∷ vs) ws h k = (h.0, each_plain_append vs ws h.1 k)

-- digits lack a byte above `9`
pub digits_lack_above : (c : ℕ) (w : List ℕ) → 57 < c → all_digits w ≡ true → Lacks c w
digits_lack_above c [] h e = lacks_nil c
digits_lack_above c (b ∷ bs) h e =
    let both = and_true (leb 48 b && leb b 57) (all_digits bs) e in
    let digit = and_true (leb 48 b) (leb b 57) both.0 in
    lacks_cons c b bs (digit_not c b h digit.1) (digits_lack_above c bs h both.1)
  where
    digit_not : (c b : ℕ) → 57 < c → leb b 57 ≡ true → b ≢ c
    digit_not c b h e f = grind (arith, nat_tests)

pub decimal_lacks_above : (c n : ℕ) → 57 < c → n < 2 ^ 64 → Lacks c (decimal n)
decimal_lacks_above c n h k = digits_lack_above c (decimal n) h (digits_of_decimal n k)
