-- The machine that reads an expression gives the meaning of each tree that the tokens spell.
use Rattle.std.proofs.Common.{◌≡◌, ℕ, suc, ◌+◌, ◌-◌, ◌*◌, ◌<◌, ◌≤◌, true, false, cond, List, [], ◌∷◌, ◌++◌, length, get_or, take, drop}
use Rattle.std.proofs.Common.{refl, sym, ◌∙◌, ap, append_assoc, append-nil, drop-cons, drop-drop, add-one, length-append, arith}
use Rattle.std.proofs.Math.Seq.{drop-append_seam}
use Rattle.std.proofs.lemmas.List.{length-drop}
use Rattle.std.proofs.lemmas.Bool.Decides.{nat_tests}
use Rattle.std.specs.Prelude.{ℤ, Option, Some, nat_le, ◌||◌, ◌==◌}
use Rattle.std.specs.List.{slice_range}
use Rattle.std.specs.FinMap as map
use Rattle.avr_text.specs.declared.operators.Binary.{Binary}
use Rattle.avr_text.specs.declared.operators.Binary.TheVariants.{Or}
use Rattle.avr_text.specs.declared.operators.Binary.TheVariants as binary
use Rattle.avr_text.specs.declared.operators.Bracket.{Bracket}
use Rattle.avr_text.specs.declared.operators.Bracket.TheVariants.{Plain}
use Rattle.avr_text.specs.declared.operator_stack.Entry.{Entry}
use Rattle.avr_text.specs.declared.operator_stack.Entry.TheVariants.{Waiting, Open}
use Rattle.avr_text.specs.declared.reader.Operand.TheVariants.{Value, Sign}
use Rattle.avr_text.specs.declared.reader.Mode.{Mode}
use Rattle.avr_text.specs.declared.reader.Mode.TheVariants as mode
use Rattle.avr_text.specs.declared.reader.Reader.{Reader}
use Rattle.avr_text.specs.declared.tokens.TokenKind.{TokenKind}
use Rattle.avr_text.specs.declared.tokens.TokenKind.TheVariants.{Mark}
use Rattle.avr_text.specs.declared.tokens.Token.{Token}
use Rattle.avr_text.specs.Arithmetic.{ValueOrWhy}
use Rattle.avr_text.specs.Names.{NameMap, known}
use Rattle.avr_text.specs.Operators.{level_of, combined, binary_mark, binary_of, is_sign, bracket_applied}
use Rattle.avr_text.specs.Tokens.{text_of}
use Rattle.avr_text.specs.Reading.{signed, reduced, word_or_value, dot_operand, kind_operand, operand_of, beginning, opened, closed}
use Rattle.avr_text.specs.Reading.{operand_step, waits, is_mark_of, operator_or_none, bracket_step, run, emptied, finished, value_of}
use Rattle.avr_text.specs.Expressions.{Tree, number_tree, name_tree, dot_tree, sign_tree, bracket_tree, binary_tree, Opens, opens_plain}
use Rattle.avr_text.specs.Expressions.{opens_word, Spells, spells_number, spells_name, spells_dot, spells_sign, spells_bracket}
use Rattle.avr_text.specs.Expressions.{spells_binary, dot_value, meaning}
use Rattle.avr_text.proofs.Signs.{signed_more}

-- the operator that waits last binds less tightly than a level
abbrev pub Below : ℕ → List Entry → Type 0
Below level [] = Unit {0}
Below level (Waiting value operator ∷ entries) = level_of operator < level
Below level (Open bracket from at ∷ entries) = Unit {0}

pub below_more : (level more : ℕ) (entries : List Entry) → level ≤ more → Below level entries → Below more entries
below_more level more (Waiting value operator ∷ entries) h k = omega arith
below_more level more other h k = tt

pub not_le : (k n : ℕ) → n < k → nat_le k n ≡ false
not_le k n h = grind (arith, nat_tests)

pub is_le : (k n : ℕ) → k ≤ n → nat_le k n ≡ true
is_le k n h = grind (arith, nat_tests)

pub stays_put : (k : ℕ) (v : ValueOrWhy) (entries : List Entry) → Below k entries → reduced k v entries ≡ (v, entries)
stays_put k v (Waiting value operator ∷ entries) h = cc (not_le k (level_of operator) h)
stays_put k v other h = refl

pub level_least : (op : Binary) → 1 ≤ level_of op
level_least Or = omega arith
level_least other = omega arith

pub level_most : (op : Binary) → level_of op ≤ 6
level_most Or = omega arith
level_most other = omega arith

-- a list from a place on
pub head_within : (xs : List Token) (i : ℕ) (t : Token) (us : List Token) → drop i xs ≡ t ∷ us → i < length xs
head_within xs i t us e = let n = length-drop i xs in let m : length (drop i xs) ≡ suc (length us) = ap length e in omega arith

pub head_there : (xs : List Token) (i : ℕ) (t : Token) (us : List Token) → drop i xs ≡ t ∷ us → t ≡ get_or xs i t
head_there xs i t us e = let c = drop-cons xs i t (head_within xs i t us e) in cc

pub tail_there : (xs : List Token) (i : ℕ) (t : Token) (us : List Token) → drop i xs ≡ t ∷ us → drop (i + 1) xs ≡ us
tail_there xs i t us e = let c = drop-cons xs i t (head_within xs i t us e) in rw add-one cc

pub past_there : (xs : List Token) (i : ℕ) (ts us : List Token) → drop i xs ≡ ts ++ us → drop (i + length ts) xs ≡ us
past_there xs i ts us e = sym (drop-drop (length ts) i xs) ∙ ap (drop (length ts)) e ∙ drop-append_seam ts us

pub none_there : (xs : List Token) (i : ℕ) → slice_range xs i i ≡ []
none_there xs i = let e : i - i ≡ 0 = omega arith in ap (λ n. take n (drop i xs)) e

-- the kinds of tokens
pub sign_operand : (word : List ℕ) (kind : TokenKind) (symbols : NameMap) (dot : Option ℤ) → is_sign kind ≡ true → kind_operand word kind
    symbols dot ≡ Sign
sign_operand word (Mark b) symbols dot h = grind (arith, nat_tests)
sign_operand word other symbols dot h = absurd cc

mark_41 : (b : ℕ) (op : Binary) → binary_mark b ≡ Some op → (b == 41) ≡ false
mark_41 b op h = grind (arith, nat_tests)

pub not_closing : (kind : TokenKind) (op : Binary) → binary_of kind ≡ Some op → is_mark_of 41 kind ≡ false
not_closing (Mark b) op h = mark_41 b op h
not_closing other op h = refl

-- before an operand, and after one
abbrev before : List Entry → ℕ → ℕ → Reader
before stack depth from = record { stack = stack; depth = depth; mode = mode.Operand from }

abbrev after : List Entry → ℕ → ValueOrWhy → Reader
after stack depth value = record { stack = stack; depth = depth; mode = mode.Operator value }

room_left : (depth n : ℕ) → depth < 32 → n < 256 → (nat_le 32 depth || n == 256) ≡ false
room_left depth n h k = grind (arith, nat_tests)

not_full : (n : ℕ) → n < 256 → (n == 256) ≡ false
not_full n h = grind (arith, nat_tests)

opened_is : (bracket : Bracket) (from at next depth : ℕ) (m : Mode) (stack : List Entry) → depth < 32 → length stack < 256
    → opened bracket from at next (record { stack = stack; depth = depth; mode = m }) ≡ before (Open bracket from at ∷ stack) (suc depth)
    next
opened_is bracket from at next depth m stack h k =
    ap (λ b. cond b (record { stack = stack; depth = depth; mode = mode.Refused })
    (record { stack = Open bracket from at ∷ stack; depth = depth + 1; mode = mode.Operand next })) (room_left depth (length stack) h k)
    ∙ ap (λ n. before (Open bracket from at ∷ stack) n next) (add-one depth)

module _ (text : List ℕ) (tokens : List Token) (symbols : NameMap) (dot : Option ℤ) where
  -- where an expression of a level begins
  record Ready (depth level at from : ℕ) (ts rest : List Token) (stack : List Entry) : Type 0 where
    pub there : drop at tokens ≡ ts ++ rest
    pub order : from ≤ at
    pub plain : level < 7 → slice_range tokens from at ≡ []
    pub within : level ≤ 7
    pub deep : depth ≤ 32
    pub room : length stack < 7 * depth + level
    pub below : Below level stack

  -- what the machine has where it ends
  record Reaches (depth level at from : ℕ) (ts rest : List Token) (stack : List Entry) (x : Tree) : Type 0 where
    pub value : ValueOrWhy
    pub entries : List Entry
    pub runs : run text tokens symbols dot at (ts ++ rest) (before stack depth from) ≡ run text tokens symbols dot (at + length ts) rest
        (after entries depth value)
    pub reduces : (k : ℕ) → k ≤ level → reduced k value entries ≡ reduced k (signed (slice_range tokens from at) (meaning symbols dot x))
        stack

  leaf : (depth level at from : ℕ) (t : Token) (rest : List Token) (stack : List Entry) (x : Tree) → operand_of text t symbols dot ≡ Value
      (meaning symbols dot x) → Reaches depth level at from (t ∷ []) rest stack x
  leaf depth level at from t rest stack x e = record {
    value = signed (slice_range tokens from at) (meaning symbols dot x);
    entries = stack;
    runs = ap (λ o. run text tokens symbols dot (at + 1) rest (operand_step o tokens from at (before stack depth from))) e;
    reduces = λ k h. refl;
  }

  signs : (depth level at from : ℕ) (t : Token) (ts rest : List Token) (stack : List Entry) (x : Tree) → is_sign t.kind ≡ true → from ≤ at
      → drop at tokens ≡ t ∷ ts ++ rest → level ≤ 7
      → Reaches depth 7 (at + 1) from ts rest stack x → Reaches depth level at from (t ∷ ts) rest stack (sign_tree t.kind x)
  signs depth level at from t ts rest stack x is order there within r = record {
    value = r.value;
    entries = r.entries;
    runs =
        ap (λ o. run text tokens symbols dot (at + 1) (ts ++ rest) (operand_step o tokens from at (before stack depth from)))
        (sign_operand (text_of text t) t.kind symbols dot is) ∙ r.runs ∙ (let e : at + 1 + length ts ≡ at + suc (length ts) = omega arith in
        ap (λ n. run text tokens symbols dot n rest (after r.entries depth r.value)) e);
    reduces = λ k h. r.reduces k (omega arith)
        ∙ ap (λ v. reduced k v stack) (ap (λ n. signed (slice_range tokens from n) (meaning symbols dot x)) (add-one at)
        ∙ sym (signed_more _ _ _ _ _ order (head_within _ _ _ _ there) (head_there tokens at _ _ there)));
  }

  opening_runs : (depth at from : ℕ) (us : List Token) (stack : List Entry) {opening : List Token} {bracket : Bracket} → depth < 32
      → length stack < 256 → Opens text opening bracket
      → run text tokens symbols dot at (opening ++ us) (before stack depth from) ≡ run text tokens symbols dot (at + length opening) us
      (before (Open bracket from at ∷ stack) (suc depth) (at + length opening))
  opening_runs depth at from us stack h k (opens_plain {mark = mark} e) =
      ap (λ kind. run text tokens symbols dot (at + 1) us (operand_step (kind_operand (text_of text mark) kind symbols dot) tokens from at
      (before stack depth from))) e
      ∙ ap (run text tokens symbols dot (at + 1) us) (opened_is Plain from at (at + 1) depth (mode.Operand from) stack h k)
  opening_runs depth at from us stack h k (opens_word {word = word} {mark = mark} {bracket = bracket} e w f) =
      let two : at + 1 + 1 ≡ at + 2 = omega arith in
      ap (λ kind. run text tokens symbols dot (at + 1) (mark ∷ us) (operand_step (kind_operand (text_of text word) kind symbols dot) tokens
      from at (before stack depth from))) e
      ∙ ap (λ o. run text tokens symbols dot (at + 1) (mark ∷ us)
      (operand_step (word_or_value o (known (map.get symbols (text_of text word)))) tokens from at (before stack depth from))) w
      ∙ ap (λ kind. run text tokens symbols dot (at + 1 + 1) us (bracket_step kind bracket from at (at + 1 + 1)
      (record { stack = stack; depth = depth; mode = mode.Parenthesis bracket from at }))) f
      ∙ ap (run text tokens symbols dot (at + 1 + 1) us) (opened_is bracket from at (at + 1 + 1) depth (mode.Parenthesis bracket from at)
      stack h k)
      ∙ ap (λ n. run text tokens symbols dot n us (before (Open bracket from at ∷ stack) (suc depth) n)) two

  closing_runs : (depth at from place : ℕ) (t : Token) (rest : List Token) (stack entries : List Entry) (bracket : Bracket)
      (v w : ValueOrWhy)
      → t.kind ≡ Mark 41 → reduced 0 v entries ≡ (w, Open bracket from place ∷ stack)
      → run text tokens symbols dot at (t ∷ rest) (after entries (suc depth) v) ≡ run text tokens symbols dot (at + 1) rest
      (after stack depth (signed (slice_range tokens from place) (bracket_applied bracket w)))
  closing_runs depth at from place t rest stack entries bracket v w e r = grind (arith, nat_tests)

  operator_runs : (depth at : ℕ) (t : Token) (rest : List Token) (stack entries : List Entry) (op : Binary) (v w : ValueOrWhy)
      → binary_of t.kind ≡ Some op → length stack < 256 → reduced (level_of op) v entries ≡ (w, stack)
      → run text tokens symbols dot at (t ∷ rest) (after entries depth v) ≡ run text tokens symbols dot (at + 1) rest
      (before (Waiting w op ∷ stack) depth (at + 1))
  operator_runs depth at t rest stack entries op v w e h r =
      ap (λ b. run text tokens symbols dot (at + 1) rest (cond b (closed tokens v (after entries depth v))
      (operator_or_none (binary_of t.kind) v (at + 1) (after entries depth v)))) (not_closing t.kind op e)
      ∙ ap (λ o. run text tokens symbols dot (at + 1) rest (operator_or_none o v (at + 1) (after entries depth v))) e
      ∙ ap (λ (p : ValueOrWhy × List Entry). run text tokens symbols dot (at + 1) rest (waits op p.0 (at + 1) p.1
      (after entries depth v))) r
      ∙ ap (λ b. run text tokens symbols dot (at + 1) rest (cond b (record { stack = stack; depth = depth; mode = mode.Refused })
      (before (Waiting w op ∷ stack) depth (at + 1)))) (not_full (length stack) h)

  brackets : (depth level at from : ℕ) (opening inner rest : List Token) (t : Token) (stack : List Entry) (bracket : Bracket) (x : Tree)
      → depth < 32 → length stack < 256 → Opens text opening bracket → t.kind ≡ Mark 41
      → Reaches (suc depth) 1 (at + length opening) (at + length opening) inner (t ∷ rest) (Open bracket from at ∷ stack) x
      → Reaches depth level at from (opening ++ (inner ++ t ∷ [])) rest stack (bracket_tree bracket x)
  brackets depth level at from opening inner rest t stack bracket x deep room opens closing r =
      let joins : (opening ++ (inner ++ t ∷ [])) ++ rest ≡ opening ++ (inner ++ t ∷ rest) = append_assoc opening (inner ++ t ∷ []) rest
      ∙ ap (λ us. opening ++ us) (append_assoc inner (t ∷ []) rest) in
      let places : at + length opening + length inner + 1 ≡ at + length (opening ++ (inner ++ t ∷ [])) =
      omega (arith, length-append opening (inner ++ t ∷ []), length-append inner (t ∷ [])) in
      let closes : reduced 0 r.value r.entries ≡ (meaning symbols dot x, Open bracket from at ∷ stack) =
      r.reduces 0 (omega arith) ∙ ap (λ g. reduced 0 (signed g (meaning symbols dot x)) (Open bracket from at ∷ stack))
      (none_there tokens (at + length opening)) in
      record {
        value = signed (slice_range tokens from at) (bracket_applied bracket (meaning symbols dot x));
        entries = stack;
        runs =
            ap (λ us. run text tokens symbols dot at us (before stack depth from)) joins ∙ opening_runs _ _ _ _ _ deep room opens ∙ r.runs
            ∙ closing_runs depth (at + length opening + length inner) _ _ t rest _ r.entries _ r.value _ closing closes
            ∙ ap (λ n. run text tokens symbols dot n rest
            (after stack depth (signed (slice_range tokens from at) (bracket_applied bracket (meaning symbols dot x))))) places;
        reduces = λ k h. refl;
      }

  binaries : (depth level at from : ℕ) (left right rest : List Token) (t : Token) (op : Binary) (stack : List Entry) (x y : Tree)
      → binary_of t.kind ≡ Some op → level ≤ level_of op → slice_range tokens from at ≡ [] → length stack < 256 → Below (level_of op) stack
      → Reaches depth (level_of op) at from left (t ∷ right ++ rest) stack x
      → Reaches depth (suc (level_of op)) (at + length left + 1) (at + length left + 1) right rest
      (Waiting (meaning symbols dot x) op ∷ stack) y
      → Reaches depth level at from (left ++ t ∷ right) rest stack (binary_tree op x y)
  binaries depth level at from left right rest t op stack x y is binds plain room below l r =
      let places : at + length left + 1 + length right ≡ at + length (left ++ t ∷ right) = omega (arith, length-append left (t ∷ right)) in
      let turns : reduced (level_of op) l.value l.entries ≡ (meaning symbols dot x, stack) =
      l.reduces (level_of op) (omega arith) ∙ ap (λ g. reduced (level_of op) (signed g (meaning symbols dot x)) stack) plain
      ∙ stays_put _ _ _ below in
      record {
        value = r.value;
        entries = r.entries;
        runs =
            ap (λ us. run text tokens symbols dot at us (before stack depth from)) (append_assoc left (t ∷ right) rest) ∙ l.runs
            ∙ operator_runs depth (at + length left) t (right ++ rest) _ l.entries _ l.value _ is room turns ∙ r.runs
            ∙ ap (λ n. run text tokens symbols dot n rest (after r.entries depth r.value)) places;
        reduces = λ k h. r.reduces k (omega arith)
            ∙ ap (λ g. reduced k (signed g (meaning symbols dot y)) (Waiting (meaning symbols dot x) op ∷ stack))
            (none_there tokens (at + length left + 1))
            ∙ ap (λ b. cond b (reduced k (combined op (meaning symbols dot x) (meaning symbols dot y)) stack)
            (meaning symbols dot y, Waiting (meaning symbols dot x) op ∷ stack)) (is_le _ _ (omega arith))
            ∙ ap (λ g. reduced k (signed g (combined op (meaning symbols dot x) (meaning symbols dot y))) stack) (sym plain);
      }

  reads : (depth level : ℕ) (ts : List Token) (x : Tree) (at from : ℕ) (rest : List Token) (stack : List Entry) → Spells text dot depth
      level ts x → Ready depth level at from ts rest stack → Reaches depth level at from ts rest stack x
  reads depth level _ _ at from rest stack (spells_number {t = t} {n = n} e) ready = leaf depth level at from t rest stack (number_tree n)
      (ap (λ kind. kind_operand (text_of text t) kind symbols dot) e)
  reads depth level _ _ at from rest stack (spells_name {t = t} e f) ready =
      leaf depth level at from t rest stack (name_tree (text_of text t)) (ap (λ kind. kind_operand (text_of text t) kind symbols dot) e
      ∙ ap (λ o. word_or_value o (known (map.get symbols (text_of text t)))) f)
  reads depth level _ _ at from rest stack (spells_dot {t = t} {x = x} e f) ready =
      leaf depth level at from t rest stack dot_tree (ap (λ kind. kind_operand (text_of text t) kind symbols dot) e ∙ ap dot_operand f
      ∙ sym (ap (λ d. Value (dot_value d)) f))
  reads depth level _ _ at from rest stack (spells_sign {t = t} {ts = ts} {x = x} is d) ready =
      let room = ready.room in
      let within = ready.within in
      let order = ready.order in
      signs depth level at from t ts rest stack x is ready.order ready.there ready.within
      (reads depth 7 ts x (at + 1) from rest stack d
      (record {
        there = tail_there tokens at t (ts ++ rest) ready.there;
        order = omega arith;
        plain = λ h. absurd (omega arith);
        within = omega arith;
        deep = ready.deep;
        room = omega arith;
        below = below_more level 7 stack ready.within ready.below;
      }))
  reads depth level _ _ at from rest stack (spells_bracket {opening = opening} {inner = inner} {bracket = bracket} {x = x} t shallow opens d
      closing) ready =
      let room = ready.room in
      let within = ready.within in
      let joins : (opening ++ (inner ++ t ∷ [])) ++ rest ≡ opening ++ (inner ++ t ∷ rest) = append_assoc opening (inner ++ t ∷ []) rest
      ∙ ap (λ us. opening ++ us) (append_assoc inner (t ∷ []) rest) in
      brackets depth level at from opening inner rest t stack bracket x shallow (omega arith) opens closing
      (reads (suc depth) 1 inner x (at + length opening) (at + length opening) (t ∷ rest) (Open bracket from at ∷ stack) d
      (record {
        there = past_there tokens at opening (inner ++ t ∷ rest) (ready.there ∙ joins);
        order = omega arith;
        plain = λ h. none_there tokens (at + length opening);
        within = omega arith;
        deep = shallow;
        room = omega arith;
        below = tt;
      }))
  reads depth level _ _ at from rest stack (spells_binary {left = left} {right = right} {operator = op} {x = x} {y = y} t is binds d e)
      ready =
      let room = ready.room in
      let within = ready.within in
      let order = ready.order in
      let deep = ready.deep in
      let most = level_most op in
      let plain : slice_range tokens from at ≡ [] = ready.plain (omega arith) in
      let there : drop at tokens ≡ left ++ (t ∷ right ++ rest) = ready.there ∙ append_assoc left (t ∷ right) rest in
      let below = below_more level (level_of op) stack binds ready.below in
      binaries depth level at from left right rest t op stack x y is binds plain (omega arith) below
      (reads depth (level_of op) left x at from (t ∷ right ++ rest) stack d
      (record { there = there; order = order; plain = λ h. plain; within = omega arith; deep = deep; room = omega arith; below = below }))
      (reads depth (suc (level_of op)) right y (at + length left + 1) (at + length left + 1) rest
      (Waiting (meaning symbols dot x) op ∷ stack) e
      (record {
        there = tail_there tokens (at + length left) t (right ++ rest) (past_there tokens at left (t ∷ right ++ rest) there);
        order = omega arith;
        plain = λ h. none_there tokens (at + length left + 1);
        within = omega arith;
        deep = deep;
        room = omega arith;
        below = omega arith;
      }))

  -- the value is the meaning of any tree that the tokens spell
  pub reads_whole : (x : Tree) → Spells text dot 0 1 tokens x → value_of text tokens symbols dot ≡ meaning symbols dot x
  reads_whole x d =
      let r = reads 0 1 tokens x 0 0 [] [] d (record {
        there = sym (append-nil tokens);
        order = omega arith;
        plain = λ h. none_there tokens
            0;
        within = omega arith;
        deep = omega arith;
        room = omega arith;
        below = tt;
      }) in
      ap (λ us. finished (run text tokens symbols dot 0 us beginning)) (sym (append-nil tokens))
      ∙ ap finished r.runs
      ∙ ap emptied (r.reduces 0 (omega arith) ∙ ap (λ g. reduced 0 (signed g (meaning symbols dot x)) []) (none_there tokens 0))
