-- Lines of a text, tokens before the line's end, and parts between commas.
use Rattle.std.proofs.Common.{◌≡◌, ℕ, suc, ◌+◌, ◌-◌, ◌^◌, ◌<◌, ◌≤◌, Bool, true, false, cond, List, [], ◌∷◌, ◌++◌, All, Bor, length, get_or}
use Rattle.std.proofs.Common.{take, drop, map, refl, sym, ◌∙◌, ap, subst, append_assoc, drop-cons, drop-drop, arith, Option}
use Rattle.std.specs.List.{prefix_len, slice_split, onto_first as onto_first_part, AllByRecursion}
use Rattle.std.proofs.Math.Seq.{take-length}
use Rattle.std.proofs.lemmas.List.{drop_all, length-drop, map-append, append-nil}
use Rattle.std.proofs.lemmas.List.Elements.{recursion_from_All, All-from_recursion}
use Rattle.avr_text.specs.declared.tokens.Token.{Token}
use Rattle.avr_text.specs.Tokens.{Lies, text_of}
use Rattle.avr_asm.specs.declared.directives.Directive.{Directive}
use Rattle.avr_text.specs.declared.mnemonics.Mnemonic.{Mnemonic}
use Rattle.avr_asm.specs.declared.lines.Action.{Action}
use Rattle.avr_asm.specs.declared.lines.Action.TheVariants as action
use Rattle.avr_asm.specs.Directives.{directive_of}
use Rattle.avr_asm.specs.Lines.{goes_on, lines_of, onto_first, first_len, is_comma, parts_of, is_name, directive_or_none, dot_action}
use Rattle.avr_asm.specs.Lines.{arguments_of}
use Rattle.avr_asm.specs.Layout.{EachShort}
use Rattle.avr_text.specs.Operands.{AllLie, EachLies}
use Rattle.std.proofs.lemmas.Bool.Decides.{nat_tests}

-- the first that doesn't pass
pub passes_no_more : (p : Token → Bool) (xs : List Token) (n : ℕ) (d : Token) → n < length xs → p (get_or xs n d) ≡ false
    → prefix_len p (drop n xs) ≡ 0
passes_no_more p xs n d h e = rw (drop-cons xs n d h) (rw e refl)

-- the first line
pub first_none : (xs : List ℕ) (n : ℕ) → length xs ≤ n → first_len (drop n xs) ≡ 0
first_none xs n h = ap first_len (drop_all n xs h)

-- a text is its first line and the lines of the rest
first_onto : (g : Bool) (b k : ℕ) (xs : List ℕ) → lines_of xs ≡ take k xs ∷ lines_of (drop k xs) → cond g (onto_first b (lines_of xs))
    ((b ∷ []) ∷ lines_of xs) ≡ take (cond g (1 + k) 1) (b ∷ xs) ∷ lines_of (drop (cond g (1 + k) 1) (b ∷ xs))
first_onto true b k xs h = let e : 1 + k ≡ suc k = omega arith in cc
first_onto false b k xs h = refl

first_line : (b : ℕ) (bs : List ℕ) → lines_of (b ∷ bs) ≡ take (first_len (b ∷ bs)) (b ∷ bs) ∷ lines_of (drop (first_len (b ∷ bs)) (b ∷ bs))
first_line b [] = elim (goes_on b) as (λ g. cond g ((b ∷ []) ∷ []) ((b ∷ []) ∷ []) ≡ take (cond g 1 1) (b ∷ []) ∷ lines_of
    (drop (cond g 1 1) (b ∷ []))) [ true ↦ refl | false ↦ refl ]
first_line b (c ∷ cs) = first_onto (goes_on b) b (first_len (c ∷ cs)) (c ∷ cs) (first_line c cs)

first_of_some : (xs : List ℕ) → 0 < length xs → lines_of xs ≡ take (first_len xs) xs ∷ lines_of (drop (first_len xs) xs)
first_of_some [] h = absurd (omega arith)
first_of_some (b ∷ bs) h = first_line b bs

-- one more line is cut off
pub cut_line : (text : List ℕ) (start n : ℕ) (front more : List (Bor (List ℕ))) (line : Bor (List ℕ)) → start < length text → n ≡ first_len
    (drop start text) → line.now ≡ take n (drop start text) → more ≡ front ++ line ∷ []
    → map (λ l. l.now) more ++ lines_of (drop (start + n) text) ≡ map (λ l. l.now) front ++ lines_of (drop start text)
cut_line text start n front more line h is_n is_line is_more =
    grind (arith, nat_tests, length-drop start text, drop-drop n start text, first_of_some, map-append, append_assoc)

pub no_more_lines : (text : List ℕ) (start : ℕ) (front : List (Bor (List ℕ))) → length text ≤ start → map (λ l. l.now) front
    ++ lines_of (drop start text) ≡ map (λ l. l.now) front
no_more_lines text start front h = cc (drop_all start text h, append-nil (map (λ (l : Bor (List ℕ)). l.now) front))

-- the parts of a list of tokens that lie in the line
AllParts : (P : Token → Type 0) → List (List Token) → Type 0
AllParts P [] = Unit {0}
AllParts P (x ∷ xs) = AllByRecursion P x × AllParts P xs

onto_parts : (P : Token → Type 0) (t : Token) (parts : List (List Token)) → P t → AllParts P parts → AllParts P (onto_first_part t parts)
unfolding AllParts
onto_parts P t [] h k = ((h, tt), tt)
onto_parts P t (x ∷ xs) h k = ((h, k.0), k.1)

split_parts : (P : Token → Type 0) (q : Token → Bool) (ts : List Token) → AllByRecursion P ts → AllParts P (slice_split q ts)
unfolding AllParts
split_parts P q [] h = (tt, tt)
split_parts P q (t ∷ ts) h = elim (q t) as (λ b. AllParts P (cond b ([] ∷ slice_split q ts) (onto_first_part t (slice_split q ts)))) [
  | true ↦ (tt, split_parts P q ts h.1)
  | false ↦ onto_parts P t (slice_split q ts) h.0 (split_parts P q ts h.1)
]

lent_parts : (P : Token → Type 0) (parts : List (List Token)) (items : List (Bor (List Token))) → map (λ p. p.now) items ≡ parts
    → AllParts P parts → AllByRecursion (λ p. All P p.now) items
unfolding AllParts
lent_parts P parts [] e h = tt
lent_parts P [] (i ∷ items) e h = absurd cc
lent_parts P (x ∷ xs) (i ∷ items) e h =
    let first : i.now ≡ x = cc in
    let rest : map (λ (p : Bor (List Token)). p.now) items ≡ xs = cc in
    (subst (All P) (sym first) (All-from_recursion P x h.0), lent_parts P xs items rest h.1)

pub parts_lie : (len : ℕ) (q : Token → Bool) (ts : List Token) (items : List (Bor (List Token))) → AllLie len ts → map (λ p. p.now)
    items ≡ slice_split q ts → EachLies len items
parts_lie len q ts items h e =
    All-from_recursion (λ p. AllLie len p.now) items
    (lent_parts (Lies len) (slice_split q ts) items e (split_parts (Lies len) q ts (recursion_from_All (Lies len) ts h)))

pub parts_some : (ts : List Token) → (length ts ≡ 0 → ⊥) → parts_of ts ≡ slice_split is_comma ts
parts_some [] h = absurd (h refl)
parts_some (t ∷ ts) h = refl

-- lines are no longer than their text, and no more than its bytes
weaker : (n m : ℕ) (ls : List (List ℕ)) → n ≤ m → AllByRecursion (λ l. length l ≤ n) ls → AllByRecursion (λ l. length l ≤ m) ls
weaker n m [] h k = tt
weaker n m (l ∷ ls) h k = let first : length l ≤ n = k.0 in (omega arith, weaker n m ls h k.1)

onto_short : (b n : ℕ) (ls : List (List ℕ)) → AllByRecursion (λ l. length l ≤ n) ls → AllByRecursion (λ l. length l ≤ suc n)
    (onto_first b ls)
onto_short b n [] k = (omega arith, tt)
onto_short b n (l ∷ ls) k = let first : length l ≤ n = k.0 in (omega arith, weaker n (suc n) ls (omega arith) k.1)

each_line : (text : List ℕ) → AllByRecursion (λ l. length l ≤ length text) (lines_of text)
each_line [] = tt
each_line (b ∷ bs) = elim (goes_on b) as (λ g. AllByRecursion (λ l. length l ≤ suc (length bs))
    (cond g (onto_first b (lines_of bs)) ((b ∷ []) ∷ lines_of bs))) [
      | true ↦ onto_short b (length bs) (lines_of bs) (each_line bs)
      | false ↦ (omega arith, weaker (length bs) (suc (length bs)) (lines_of bs) (omega arith) (each_line bs))
    ]

onto_count : (b n : ℕ) (ls : List (List ℕ)) → length ls ≤ n → length (onto_first b ls) ≤ suc n
onto_count b n [] k = omega arith
onto_count b n (l ∷ ls) k = omega arith

count_lines : (text : List ℕ) → length (lines_of text) ≤ length text
count_lines [] = omega arith
count_lines (b ∷ bs) = elim (goes_on b) as (λ g. length (cond g (onto_first b (lines_of bs)) ((b ∷ []) ∷ lines_of bs)) ≤ suc (length bs)) [
  | true ↦ onto_count b (length bs) (lines_of bs) (count_lines bs)
  | false ↦ omega (arith, count_lines bs)
]

short_lines : (n : ℕ) (lines : List (List ℕ)) (items : List (Bor (List ℕ))) → n < 2 ^ 32 - 1 → map (λ l. l.now) items ≡ lines
    → AllByRecursion (λ l. length l ≤ n) lines → AllByRecursion (λ l. length l.now < 2 ^ 32 - 1) items
short_lines n lines [] h e k = tt
short_lines n [] (i ∷ items) h e k = absurd cc
short_lines n (x ∷ xs) (i ∷ items) h e k = grind (arith, nat_tests, short_lines n xs items h)

lent_len : (ls : List (Bor (List ℕ))) → length (map (λ l. l.now) ls) ≡ length ls
lent_len [] = refl
lent_len (l ∷ ls) = ap suc (lent_len ls)

pub each_short : (text : List ℕ) (items : List (Bor (List ℕ))) → length text < 2 ^ 32 - 1 → map (λ l. l.now) items ≡ lines_of text
    → EachShort items
each_short text items h e = All-from_recursion (λ l. length l.now < 2 ^ 32 - 1) items (short_lines _ _ _ h e (each_line text))

pub few_lines : (text : List ℕ) (items : List (Bor (List ℕ))) → length text < 2 ^ 32 - 1 → map (λ l. l.now) items ≡ lines_of text
    → length items < 2 ^ 32 - 1
few_lines text items h e = omega (arith, lent_len items, ap length e, count_lines text)

-- what stands behind a dot
pub dot_told : (line : List ℕ) (tokens : List Token) (d e : Token) (word : List ℕ) (found : Option Directive) → 1 ≤ length tokens
    → is_name (get_or tokens 0 d).kind ≡ true → word ≡ text_of line (get_or tokens 0 e) → found ≡ directive_of word
    → directive_or_none found ≡ dot_action line tokens
dot_told line [] d e word found some name word_is found_is = absurd (omega arith)
dot_told line (t ∷ ts) d e word found some name word_is found_is = cc

-- the arguments are the rest of the body
pub no_arguments : (a : Action) (body : List Token) → ((m : Mnemonic) → a ≡ action.Instruction m → ⊥)
    → ((d : Directive) → a ≡ action.Directive d → ⊥) → arguments_of a body ≡ []
no_arguments (action.Instruction m) body h k = absurd (h m refl)
no_arguments (action.Directive d) body h k = absurd (k d refl)
no_arguments other body h k = refl

pub rest_whole : (tokens : List Token) (n : ℕ) → take (length tokens - n) (drop n tokens) ≡ drop n tokens
rest_whole tokens n = ap (λ k. take k (drop n tokens)) (sym (length-drop n tokens)) ∙ take-length (drop n tokens)
