-- Where the machine refuses no token and nothing waits at the end, the tokens spell a tree.
use Rattle.avr_text.specs.Reading.{operand_of}
use Rattle.std.proofs.Common.{◌≡◌, ◌⊎◌, inl, inr, ℕ, suc, ◌+◌, ◌-◌, ◌<◌, ◌≤◌, Bool, true, false, cond, List, [], ◌∷◌, ◌++◌, length, refl}
use Rattle.std.proofs.Common.{sym, ◌∙◌, ap, subst, append_assoc, append-nil, add-one, arith, ℤ, Option, None, Some, Err, nat_le, ◌||◌, ◌==◌}
use Rattle.std.proofs.lemmas.Bool.Decides.{nat_tests}
use Rattle.std.specs.FinMap as map
use Rattle.avr_text.specs.declared.operators.Binary.{Binary}
use Rattle.avr_text.specs.declared.operators.Bracket.{Bracket}
use Rattle.avr_text.specs.declared.operators.Bracket.TheVariants.{Plain}
use Rattle.avr_text.specs.declared.operator_stack.Entry.{Entry}
use Rattle.avr_text.specs.declared.operator_stack.Entry.TheVariants.{Waiting, Open}
use Rattle.avr_text.specs.declared.reader.Operand.{Operand}
use Rattle.avr_text.specs.declared.reader.Operand.TheVariants.{Value, Sign, Word, Nothing}
use Rattle.avr_text.specs.declared.reader.Operand.TheVariants as operand
use Rattle.avr_text.specs.declared.reader.Mode.{Mode}
use Rattle.avr_text.specs.declared.reader.Mode.TheVariants as mode
use Rattle.avr_text.specs.declared.reader.Reader.{Reader}
use Rattle.avr_text.specs.declared.tokens.TokenKind.{TokenKind}
use Rattle.avr_text.specs.declared.tokens.TokenKind.TheVariants.{Name, Number, Mark}
use Rattle.avr_text.specs.declared.tokens.Token.{Token}
use Rattle.avr_text.specs.declared.values.ValueWhy.TheVariants.{Form}
use Rattle.avr_text.specs.Arithmetic.{ValueOrWhy}
use Rattle.avr_text.specs.Names.{NameMap, known}
use Rattle.avr_text.specs.Operators.{level_of, combined, binary_of, is_sign}
use Rattle.avr_text.specs.Tokens.{text_of}
use Rattle.avr_text.specs.Words.{bracket_word}
use Rattle.avr_text.specs.Reading.{reduced, word_or_value, dot_operand, kind_operand, in_mode, beginning, opened, closed_at, closed}
use Rattle.avr_text.specs.Reading.{operand_step, waits, is_mark_of, operator_or_none, operator_step, bracket_step, step_in, step, run}
use Rattle.avr_text.specs.Reading.{emptied, finished_in, value_of}
use Rattle.avr_text.specs.Expressions.{Tree, number_tree, name_tree, dot_tree, sign_tree, bracket_tree, binary_tree, Opens, opens_plain}
use Rattle.avr_text.specs.Expressions.{opens_word, Spells, spells_number, spells_name, spells_dot, spells_sign, spells_bracket}
use Rattle.avr_text.specs.Expressions.{spells_binary}
use Rattle.avr_text.proofs.TreesRead.{Below, level_least, level_most}

module _ (text : List ℕ) (dot : Option ℤ) where
  -- what is spelled at a level is spelled at each looser one
  looser : (depth level lower : ℕ) (ts : List Token) (x : Tree) → lower ≤ level → Spells text dot depth level ts x → Spells text dot depth
      lower ts x
  looser depth level lower _ _ h (spells_number e) = spells_number e
  looser depth level lower _ _ h (spells_name e f) = spells_name e f
  looser depth level lower _ _ h (spells_dot e f) = spells_dot e f
  looser depth level lower _ _ h (spells_sign e d) = spells_sign e d
  looser depth level lower _ _ h (spells_bracket t shallow opens d closing) = spells_bracket t shallow opens d closing
  looser depth level lower _ _ h (spells_binary t is binds d e) = spells_binary t is (omega arith) d e

  -- no operator is looser than |
  from_loosest : (depth : ℕ) (ts : List Token) (x : Tree) → Spells text dot depth 0 ts x → Spells text dot depth 1 ts x
  from_loosest depth _ _ (spells_number e) = spells_number e
  from_loosest depth _ _ (spells_name e f) = spells_name e f
  from_loosest depth _ _ (spells_dot e f) = spells_dot e f
  from_loosest depth _ _ (spells_sign e d) = spells_sign e d
  from_loosest depth _ _ (spells_bracket t shallow opens d closing) = spells_bracket t shallow opens d closing
  from_loosest depth _ _ (spells_binary {operator = op} t is binds d e) = spells_binary t is (level_least op) d e

  abbrev AreSigns : List Token → Type 0
  AreSigns [] = Unit {0}
  AreSigns (t ∷ ts) = (is_sign t.kind ≡ true) × AreSigns ts

  one_more_sign : (signs : List Token) (t : Token) → AreSigns signs → is_sign t.kind ≡ true → AreSigns (signs ++ t ∷ [])
  one_more_sign [] t h e = (e, tt)
  one_more_sign (s ∷ signs) t h e = (h.0, one_more_sign signs t h.1 e)

  with_signs : (depth : ℕ) (signs ts : List Token) (x : Tree) → AreSigns signs → Spells text dot depth 7 ts x → (y : Tree) × Spells text dot
      depth 7 (signs ++ ts) y
  with_signs depth [] ts x h d = (x, d)
  with_signs depth (s ∷ signs) ts x h d = let r = with_signs depth signs ts x h.1 d in (sign_tree s.kind r.0, spells_sign h.0 r.1)

  -- tokens that end where an operand or its signs may begin, with what waits there
  data Left : ℕ → List Entry → List Token → Type 0 where
    left_start : Left 0 [] []
    left_wait : {depth : ℕ} {stack : List Entry} {front ts : List Token} {op : Binary} {value : ValueOrWhy} {x : Tree} (t : Token)
        → Left depth stack front → Below (level_of op) stack → Spells text dot depth (level_of op) ts x → binary_of t.kind ≡ Some op
        → Left depth (Waiting value op ∷ stack) (front ++ (ts ++ t ∷ []))
    left_open : {depth : ℕ} {stack : List Entry} {front opening : List Token} {bracket : Bracket} {from at : ℕ} (signs : List Token)
        → Left depth stack front → AreSigns signs → depth < 32 → Opens text opening bracket
        → Left (suc depth) (Open bracket from at ∷ stack) (front ++ (signs ++ opening))

  -- what is read where the operators down to a level have their right operand
  record Reduced (depth k : ℕ) (stack : List Entry) (read : List Token) : Type 0 where
    pub front : List Token
    pub ts : List Token
    pub x : Tree
    pub left : Left depth stack front
    pub spelled : Spells text dot depth k ts x
    pub joined : front ++ ts ≡ read
    pub below : Below k stack

  le_of : (k n : ℕ) → nat_le k n ≡ true → k ≤ n
  le_of k n e = grind (arith, nat_tests)

  lt_of : (k n : ℕ) → nat_le k n ≡ false → n < k
  lt_of k n e = grind (arith, nat_tests)

  choose_reduced : (b : Bool) (depth k n : ℕ) (p q : ValueOrWhy × List Entry) (read : List Token) → nat_le k n ≡ b
      → (k ≤ n → Reduced depth k p.1 read) → (n < k → Reduced depth k q.1 read) → Reduced depth k (cond b p q).1 read
  choose_reduced true depth k n p q read e f g = f (le_of k n e)
  choose_reduced false depth k n p q read e f g = g (lt_of k n e)

  reduces : (k level : ℕ) (v : ValueOrWhy) (depth : ℕ) (stack : List Entry) (front ts : List Token) (x : Tree) → Left depth stack front
      → Below level stack → k ≤ level → Spells text dot depth level ts x → Reduced depth k (reduced k v stack).1 (front ++ ts)
  reduces k level v _ _ _ ts x left_start below h d = record {
    front = [];
    ts = ts;
    x = x;
    left = left_start;
    spelled = looser 0 level k ts x h d;
    joined = refl;
    below = tt;
  }
  reduces k level v _ _ _ ts x (left_open {depth = depth} {stack = stack} {front = front} {opening = opening} {bracket = bracket}
      {from = from} {at = at} signs l are shallow opens) below h d =
      record {
        front = front ++ (signs ++ opening);
        ts = ts;
        x = x;
        left = left_open signs l are shallow opens;
        spelled = looser (suc depth) level k ts x h d;
        joined = refl;
        below = tt;
      }
  reduces k level v _ _ _ ts x (left_wait {depth = depth} {stack = stack} {front = front} {ts = us} {op = op} {value = w} {x = y} t l under
      e is) below h d =
      let joins : front ++ (us ++ t ∷ ts) ≡ (front ++ (us ++ t ∷ [])) ++ ts = simp append_assoc in
      choose_reduced (nat_le k (level_of op)) depth k (level_of op) (reduced k (combined op w v) stack) (v, Waiting w op ∷ stack)
      ((front ++ (us ++ t ∷ [])) ++ ts) refl
      (λ m. subst (λ r. Reduced depth k (reduced k (combined op w v) stack).1 r) joins
      (reduces k (level_of op) (combined op w v) depth stack front (us ++ t ∷ ts) (binary_tree op y x) l under m
      (spells_binary t is (omega arith) e (looser depth level (suc (level_of op)) ts x below d))))
      (λ m. record {
        front = front ++ (us ++ t ∷ []);
        ts = ts;
        x = x;
        left = left_wait t l under e is;
        spelled = looser depth level k ts x h
            d;
        joined = refl;
        below = m;
      })

  below_seven : (stack : List Entry) → Below 7 stack
  below_seven (Waiting value op ∷ entries) = let m = level_most op in omega arith
  below_seven other = tt

  record AtOperand (depth : ℕ) (stack : List Entry) (read : List Token) : Type 0 where
    pub front : List Token
    pub signs : List Token
    pub left : Left depth stack front
    pub are : AreSigns signs
    pub joined : front ++ signs ≡ read

  record AtParenthesis (bracket : Bracket) (depth : ℕ) (stack : List Entry) (read : List Token) : Type 0 where
    pub front : List Token
    pub signs : List Token
    pub word : Token
    pub left : Left depth stack front
    pub are : AreSigns signs
    pub named : word.kind ≡ Name
    pub is : bracket_word (text_of text word) ≡ Some bracket
    pub joined : front ++ (signs ++ word ∷ []) ≡ read

  record AtOperator (depth : ℕ) (stack : List Entry) (read : List Token) : Type 0 where
    pub front : List Token
    pub ts : List Token
    pub x : Tree
    pub left : Left depth stack front
    pub spelled : Spells text dot depth 7 ts x
    pub joined : front ++ ts ≡ read

  abbrev Fits : Mode → ℕ → List Entry → List Token → Type 0
  Fits (mode.Operand from) depth stack read = AtOperand depth stack read
  Fits (mode.Parenthesis bracket from at) depth stack read = AtParenthesis bracket depth stack read
  Fits (mode.Operator v) depth stack read = AtOperator depth stack read
  Fits mode.Refused depth stack read = Unit {0}

  -- the state after tokens
  abbrev Holds : Reader → List Token → Type 0
  Holds s read = Fits s.mode s.depth s.stack read

  -- what a token is where an operand may begin
  abbrev Says : Operand → Token → Type 0
  Says (Value v) t = (x : Tree) × ((depth : ℕ) → Spells text dot depth 7 (t ∷ []) x)
  Says Sign t = is_sign t.kind ≡ true
  Says (Word bracket) t = (t.kind ≡ Name) × (bracket_word (text_of text t) ≡ Some bracket)
  Says operand.Parenthesis t = t.kind ≡ Mark 40
  Says Nothing t = Unit {0}

  says_name : (t : Token) (v : ValueOrWhy) (o : Option Bracket) → t.kind ≡ Name → bracket_word (text_of text t) ≡ o
      → Says (word_or_value o v)
      t
  says_name t v None e f = (name_tree (text_of text t), λ depth. spells_name e f)
  says_name t v (Some bracket) e f = (e, f)

  says_dot : (t : Token) (d : Option ℤ) → t.kind ≡ Mark 46 → dot ≡ d → Says (dot_operand d) t
  says_dot t None e f = tt
  says_dot t (Some x) e f = (dot_tree, λ depth. spells_dot e f)

  same_number : (a b : ℕ) → (a == b) ≡ true → a ≡ b
  same_number a b e = grind (arith, nat_tests)

  says_mark : (t : Token) (b : ℕ) (p q r : Bool) → t.kind ≡ Mark b → (b == 40) ≡ p → (b == 46) ≡ q → is_sign (Mark b) ≡ r
      → Says (cond p operand.Parenthesis (cond q (dot_operand dot) (cond r Sign Nothing))) t
  says_mark t b true q r e f g h = e ∙ ap Mark (same_number b 40 f)
  says_mark t b false true r e f g h = says_dot t dot (e ∙ ap Mark (same_number b 46 g)) refl
  says_mark t b false false true e f g h = ap is_sign e ∙ h
  says_mark t b false false false e f g h = tt

  says_kind : (t : Token) (kind : TokenKind) (symbols : NameMap) → t.kind ≡ kind → Says (kind_operand (text_of text t) kind symbols dot) t
  says_kind t Name symbols e = says_name t (known (map.get symbols (text_of text t))) (bracket_word (text_of text t)) e refl
  says_kind t (Number n) symbols e = (number_tree n, λ depth. spells_number e)
  says_kind t (Mark b) symbols e = says_mark t b (b == 40) (b == 46) (is_sign (Mark b)) e refl refl refl
  says_kind t other symbols e = tt

  -- a step keeps it
  choose_holds : (b : Bool) (s u : Reader) (read : List Token) → (b ≡ true → Holds s read) → (b ≡ false → Holds u read) → Holds (cond b s u)
      read
  choose_holds true s u read f g = f refl
  choose_holds false s u read f g = g refl

  shallow_of : (depth n : ℕ) → (nat_le 32 depth || n == 256) ≡ false → depth < 32
  shallow_of depth n e = grind (arith, nat_tests)

  opened_holds : (bracket : Bracket) (from at next : ℕ) (s : Reader) (read : List Token)
      → (s.depth < 32 → AtOperand (suc s.depth) (Open bracket from at ∷ s.stack) read) → Holds (opened bracket from at next s) read
  opened_holds bracket from at next s read f =
      choose_holds (nat_le 32 s.depth || length s.stack == 256) (in_mode mode.Refused s)
      (record { stack = Open bracket from at ∷ s.stack; depth = s.depth + 1; mode = mode.Operand next }) read (λ e. tt)
      (λ e. subst (λ n. AtOperand n (Open bracket from at ∷ s.stack) read) (sym (add-one s.depth)) (f (shallow_of _ (length s.stack) e)))

  operand_holds : (o : Operand) (tokens : List Token) (from at : ℕ) (t : Token) (s : Reader) (read : List Token) → Says o t
      → AtOperand s.depth s.stack read → Holds (operand_step o tokens from at s) (read ++ t ∷ [])
  operand_holds (Value v) tokens from at t s read h k =
      let r = with_signs s.depth k.signs (t ∷ []) h.0 k.are (h.1 s.depth) in
      record {
        front = k.front;
        ts = k.signs ++ t ∷ [];
        x = r.0;
        left = k.left;
        spelled = r.1;
        joined = sym (append_assoc k.front k.signs (t ∷ [])) ∙ ap (λ u. u ++ t ∷ []) k.joined;
      }
  operand_holds Sign tokens from at t s read h k =
      record {
        front = k.front;
        signs = k.signs ++ t ∷ [];
        left = k.left;
        are = one_more_sign k.signs t k.are h;
        joined = sym (append_assoc k.front k.signs (t ∷ [])) ∙ ap (λ u. u ++ t ∷ []) k.joined;
      }
  operand_holds (Word bracket) tokens from at t s read h k =
      record {
        front = k.front;
        signs = k.signs;
        word = t;
        left = k.left;
        are = k.are;
        named = h.0;
        is = h.1;
        joined = sym (append_assoc k.front k.signs (t ∷ [])) ∙ ap (λ u. u ++ t ∷ []) k.joined;
      }
  operand_holds operand.Parenthesis tokens from at t s read h k =
      opened_holds Plain from at (at + 1) s (read ++ t ∷ []) (λ shallow. record {
        front = k.front ++ (k.signs ++ t ∷ []);
        signs = [];
        left = left_open k.signs k.left k.are shallow (opens_plain h);
        are = tt;
        joined = append-nil (k.front ++ (k.signs ++ t ∷ [])) ∙ sym (append_assoc k.front k.signs (t ∷ [])) ∙ ap (λ u. u ++ t ∷ []) k.joined;
      })
  operand_holds Nothing tokens from at t s read h k = tt

  is_mark : (b : ℕ) (kind : TokenKind) → is_mark_of b kind ≡ true → kind ≡ Mark b
  is_mark b (Mark c) e = ap Mark (same_number c b e)
  is_mark b other e = absurd cc

  parenthesis_holds : (bracket : Bracket) (from at next : ℕ) (t : Token) (s : Reader) (read : List Token) → AtParenthesis bracket s.depth
      s.stack read → Holds (bracket_step t.kind bracket from at next s) (read ++ t ∷ [])
  parenthesis_holds bracket from at next t s read k =
      choose_holds _ _ _ _ (λ e. opened_holds _ _ _ _ s _ (λ shallow. record {
        front = k.front ++ (k.signs ++ k.word ∷ t ∷ []);
        signs = [];
        left = left_open k.signs k.left k.are shallow (opens_word k.named k.is (is_mark _ _ e));
        are = tt;
        joined = append-nil (k.front ++ (k.signs ++ k.word ∷ t ∷ []))
            ∙ (let j : k.front ++ (k.signs ++ k.word ∷ t ∷ []) ≡ (k.front ++ (k.signs ++ k.word ∷ [])) ++ t ∷ [] = simp append_assoc in j)
            ∙ ap (λ u. u ++ t ∷ []) k.joined;
      })) (λ e. tt)

  close_holds : (bracket : Bracket) (from at depth : ℕ) (entries : List Entry) (front ts : List Token) (x : Tree) (t : Token)
      → t.kind ≡ Mark 41 → Spells text dot depth 0 ts x → Left depth (Open bracket from at ∷ entries) front → AtOperator (depth - 1) entries
      ((front ++ ts) ++ t ∷ [])
  close_holds _ _ _ _ _ _ ts x t closing d (left_open {depth = depth} {stack = stack} {front = front} {opening = opening}
      {bracket = bracket} signs l are shallow opens) =
      let r = with_signs depth signs (opening ++ (ts ++ t ∷ [])) (bracket_tree bracket x) are
      (spells_bracket t shallow opens (from_loosest (suc depth) ts x d) closing) in
      let one : depth ≡ suc depth - 1 = omega arith in
      let joins : front ++ (signs ++ (opening ++ (ts ++ t ∷ []))) ≡ ((front ++ (signs ++ opening)) ++ ts) ++ t ∷ [] = simp append_assoc in
      subst (λ n. AtOperator n stack (((front ++ (signs ++ opening)) ++ ts) ++ t ∷ [])) one
      (record { front = front; ts = signs ++ (opening ++ (ts ++ t ∷ [])); x = r.0; left = l; spelled = r.1; joined = joins })

  closed_at_holds : (tokens : List Token) (v : ValueOrWhy) (entries : List Entry) (t : Token) (s : Reader) (read : List Token)
      → t.kind ≡ Mark
      41 → Reduced s.depth 0 entries read → Holds (closed_at tokens v entries s) (read ++ t ∷ [])
  closed_at_holds tokens v (Open bracket from at ∷ entries) t s read e r =
      grind (arith, nat_tests, close_holds bracket from at s.depth entries r.front r.ts r.x t e r.spelled r.left)
  closed_at_holds tokens v other t s read e r = tt

  waits_holds : (op : Binary) (p : ValueOrWhy × List Entry) (next : ℕ) (t : Token) (s : Reader) (read : List Token)
      → binary_of t.kind ≡ Some
      op → Reduced s.depth (level_of op) p.1 read → Holds (waits op p.0 next p.1 s) (read ++ t ∷ [])
  waits_holds op p next t s read e r =
      choose_holds (length p.1 == 256) (record { stack = p.1; depth = s.depth; mode = mode.Refused })
      (record { stack = Waiting p.0 op ∷ p.1; depth = s.depth; mode = mode.Operand next }) (read ++ t ∷ [])
      (λ f. tt)
      (λ f. record {
        front = r.front ++ (r.ts ++ t ∷ []);
        signs = [];
        left = left_wait t r.left r.below r.spelled e;
        are = tt;
        joined = append-nil (r.front ++ (r.ts ++ t ∷ [])) ∙ sym (append_assoc r.front r.ts (t ∷ [])) ∙ ap (λ u. u ++ t ∷ []) r.joined;
      })

  turned : (k : ℕ) (v : ValueOrWhy) (depth : ℕ) (stack : List Entry) (read : List Token) → k ≤ 7 → AtOperator depth stack read
      → Reduced depth
      k (reduced k v stack).1 read
  turned k v depth stack read h q = subst (λ u. Reduced depth k (reduced k v stack).1 u) q.joined
      (reduces k 7 v depth stack q.front q.ts q.x q.left (below_seven stack) h q.spelled)

  operator_holds : (o : Option Binary) (v : ValueOrWhy) (next : ℕ) (t : Token) (s : Reader) (read : List Token) → binary_of t.kind ≡ o
      → AtOperator s.depth s.stack read → Holds (operator_or_none o v next s) (read ++ t ∷ [])
  operator_holds None v next t s read e q = tt
  operator_holds (Some op) v next t s read e q =
      let m = level_most op in
      waits_holds op (reduced (level_of op) v s.stack) next t s read e (turned (level_of op) v s.depth s.stack read (omega arith) q)

  operator_step_holds : (tokens : List Token) (at : ℕ) (v : ValueOrWhy) (t : Token) (s : Reader) (read : List Token) → AtOperator s.depth
      s.stack read → Holds (operator_step t.kind tokens at v s) (read ++ t ∷ [])
  operator_step_holds tokens at v t s read q =
      choose_holds (is_mark_of 41 t.kind) (closed tokens v s) (operator_or_none (binary_of t.kind) v (at + 1) s) (read ++ t ∷ [])
      (λ e. closed_at_holds tokens (reduced 0 v s.stack).0 _ t s _ (is_mark _ t.kind e) (turned _ v _ _ _ (omega arith) q))
      (λ e. operator_holds _ v (at + 1) t s _ refl q)

  step_holds : (m : Mode) (tokens : List Token) (symbols : NameMap) (at : ℕ) (t : Token) (s : Reader) (read : List Token) → Fits m s.depth
      s.stack read → s.mode ≡ m → Holds (step_in m text tokens symbols dot at t s) (read ++ t ∷ [])
  step_holds (mode.Operand from) tokens symbols at t s read h e = operand_holds (operand_of text t symbols dot) tokens from at t s read
      (says_kind t t.kind symbols refl) h
  step_holds (mode.Parenthesis bracket from word) tokens symbols at t s read h e = parenthesis_holds bracket from word (at + 1) t s read h
  step_holds (mode.Operator v) tokens symbols at t s read h e = operator_step_holds tokens at v t s read h
  step_holds mode.Refused tokens symbols at t s read h e = subst (λ m. Fits m s.depth s.stack (read ++ t ∷ [])) (sym e) tt

  run_holds : (tokens : List Token) (symbols : NameMap) (at : ℕ) (ts : List Token) (s : Reader) (read : List Token) → Holds s read
      → Holds (run text tokens symbols dot at ts s) (read ++ ts)
  run_holds tokens symbols at [] s read h = subst (λ r. Holds s r) (sym (append-nil read)) h
  run_holds tokens symbols at (t ∷ ts) s read h =
      subst (λ r. Holds (run text tokens symbols dot (at + 1) ts (step text tokens symbols dot at t s)) r) (append_assoc read (t ∷ []) ts)
      (run_holds tokens symbols (at + 1) ts (step text tokens symbols dot at t s) (read ++ t ∷ []) (step_holds _ _ _ _ _ _ _ h refl))

  not_empty : (n : ℕ) → (suc n == 0) ≡ false
  not_empty n = grind (arith, nat_tests)

  end_found : (tokens : List Token) (v : ValueOrWhy) (depth : ℕ) (entries : List Entry) (front ts : List Token) (x : Tree) → front
      ++ ts ≡ tokens → Spells text dot depth 0 ts x → Left depth entries front → (emptied (v, entries) ≡ Err Form)
      ⊎ ((y : Tree) × Spells text dot 0 1 tokens y)
  end_found tokens v _ _ _ ts x joined d left_start = inr (x, subst (λ us. Spells text dot 0 1 us x) joined (from_loosest 0 ts x d))
  end_found tokens v _ _ _ ts x joined d (left_wait {stack = stack} t l under e is) =
      inl (ap (λ b. cond b v (Err Form)) (not_empty (length stack)))
  end_found tokens v _ _ _ ts x joined d (left_open {stack = stack} signs l are shallow opens) =
      inl (ap (λ b. cond b v (Err Form)) (not_empty (length stack)))

  finished_found : (tokens : List Token) (m : Mode) (depth : ℕ) (stack : List Entry) → Fits m depth stack tokens
      → (finished_in m stack ≡ Err Form) ⊎ ((y : Tree) × Spells text dot 0 1 tokens y)
  finished_found tokens (mode.Operator v) depth stack h =
      let r = turned 0 v depth stack tokens (omega arith) h in
      end_found tokens (reduced 0 v stack).0 depth (reduced 0 v stack).1 r.front r.ts r.x r.joined r.spelled r.left
  finished_found tokens (mode.Operand from) depth stack h = inl refl
  finished_found tokens (mode.Parenthesis bracket from at) depth stack h = inl refl
  finished_found tokens mode.Refused depth stack h = inl refl

  -- the tokens spell a tree, unless the answer is Form
  pub tree_found : (tokens : List Token) (symbols : NameMap) → (value_of text tokens symbols dot ≡ Err Form)
      ⊎ ((y : Tree) × Spells text dot 0 1 tokens y)
  tree_found tokens symbols =
      let s = run text tokens symbols dot 0 tokens beginning in
      finished_found tokens s.mode s.depth s.stack (run_holds tokens symbols 0 tokens beginning []
      (record { front = []; signs = []; left = left_start; are = tt; joined = refl }))
