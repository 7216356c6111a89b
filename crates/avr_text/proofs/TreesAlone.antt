-- Tokens spell at most one tree: a machine that keeps trees gives each that they spell.
use Rattle.std.proofs.Common.{◌≡◌, ℕ, suc, ◌<◌, ◌≤◌, true, cond, List, [], ◌∷◌, ◌++◌, refl, sym, ◌∙◌, ap, subst, append_assoc, append-nil}
use Rattle.std.proofs.Common.{arith, ℤ, Option, None, Some, nat_le, ◌==◌}
use Rattle.std.proofs.lemmas.Bool.Decides.{nat_tests}
use Rattle.avr_text.specs.declared.operators.Binary.{Binary}
use Rattle.avr_text.specs.declared.operators.Bracket.{Bracket}
use Rattle.avr_text.specs.declared.operators.Bracket.TheVariants.{Plain}
use Rattle.avr_text.specs.declared.tokens.TokenKind.{TokenKind}
use Rattle.avr_text.specs.declared.tokens.TokenKind.TheVariants.{Name, Number, Mark}
use Rattle.avr_text.specs.declared.tokens.Token.{Token}
use Rattle.avr_text.specs.Operators.{level_of, binary_of, is_sign}
use Rattle.avr_text.specs.Words.{bracket_word}
use Rattle.avr_text.specs.Tokens.{text_of}
use Rattle.avr_text.specs.Reading.{is_mark_of}
use Rattle.avr_text.specs.Expressions.{Tree, number_tree, name_tree, dot_tree, sign_tree, bracket_tree, binary_tree, Opens, opens_plain}
use Rattle.avr_text.specs.Expressions.{opens_word, Spells, spells_number, spells_name, spells_dot, spells_sign, spells_bracket}
use Rattle.avr_text.specs.Expressions.{spells_binary}
use Rattle.avr_text.proofs.TreesRead.{not_le, is_le, level_most, not_closing}

-- what waits
data Held : Type 0 where
  held_wait : Tree → Binary → Held
  held_open : Bracket → List Token → Held

-- what may come next: an operand after these signs, the parenthesis of a word, an operator
data Place : Type 0 where
  place_operand : List Token → Place
  place_word : Bracket → List Token → Place
  place_operator : Tree → Place
  place_refused : Place

data Begins : Type 0 where
  begins_tree : Tree → Begins
  begins_word : Bracket → Begins
  begins_sign : Begins
  begins_open : Begins
  begins_nothing : Begins

abbrev with_signs : List Token → Tree → Tree
with_signs [] x = x
with_signs (t ∷ ts) x = sign_tree t.kind (with_signs ts x)

one_more : (signs : List Token) (t : Token) (x : Tree) → with_signs (signs ++ t ∷ []) x ≡ with_signs signs (sign_tree t.kind x)
one_more [] t x = refl
one_more (s ∷ signs) t x = ap (sign_tree s.kind) (one_more signs t x)

abbrev turned : ℕ → Tree → List Held → Tree × List Held
turned k x [] = (x, [])
turned k x (held_open bracket signs ∷ hs) = (x, held_open bracket signs ∷ hs)
turned k x (held_wait left op ∷ hs) = cond (nat_le k (level_of op)) (turned k (binary_tree op left x) hs) (x, held_wait left op ∷ hs)

abbrev Under : ℕ → List Held → Type 0
Under level [] = Unit {0}
Under level (held_wait left op ∷ hs) = level_of op < level
Under level (held_open bracket signs ∷ hs) = Unit {0}

under_more : (level more : ℕ) (hs : List Held) → level ≤ more → Under level hs → Under more hs
under_more level more (held_wait left op ∷ hs) h k = omega arith
under_more level more other h k = tt

stays : (k : ℕ) (x : Tree) (hs : List Held) → Under k hs → turned k x hs ≡ (x, hs)
stays k x (held_wait left op ∷ hs) h = cc (not_le k (level_of op) h)
stays k x other h = refl

abbrev begins_name : List ℕ → Option Bracket → Begins
begins_name word None = begins_tree (name_tree word)
begins_name word (Some bracket) = begins_word bracket

abbrev begins_dot : Option ℤ → Begins
begins_dot None = begins_nothing
begins_dot (Some x) = begins_tree dot_tree

abbrev begins_of : List ℕ → TokenKind → Option ℤ → Begins
begins_of word Name dot = begins_name word (bracket_word word)
begins_of word (Number n) dot = begins_tree (number_tree n)
begins_of word (Mark b) dot = cond (b == 40) begins_open
    (cond (b == 46) (begins_dot dot) (cond (is_sign (Mark b)) begins_sign begins_nothing))
begins_of word other dot = begins_nothing

sign_begins : (word : List ℕ) (kind : TokenKind) (dot : Option ℤ) → is_sign kind ≡ true → begins_of word kind dot ≡ begins_sign
sign_begins word (Mark b) dot h = grind (arith, nat_tests)
sign_begins word other dot h = absurd cc

abbrev begun : Begins → List Token → Token → List Held → List Held × Place
begun (begins_tree x) signs t hs = (hs, place_operator (with_signs signs x))
begun (begins_word bracket) signs t hs = (hs, place_word bracket signs)
begun begins_sign signs t hs = (hs, place_operand (signs ++ t ∷ []))
begun begins_open signs t hs = (held_open Plain signs ∷ hs, place_operand [])
begun begins_nothing signs t hs = (hs, place_refused)

abbrev shut : Tree → List Held → List Held × Place
shut x [] = ([], place_refused)
shut x (held_wait left op ∷ hs) = (hs, place_refused)
shut x (held_open bracket signs ∷ hs) = (hs, place_operator (with_signs signs (bracket_tree bracket x)))

abbrev joined : Option Binary → Tree → List Held → List Held × Place
joined None x hs = (hs, place_refused)
joined (Some op) x hs = (held_wait (turned (level_of op) x hs).0 op ∷ (turned (level_of op) x hs).1, place_operand [])

abbrev ended : List Held × Place → Tree
ended r = elim r.1 [
  | place_operator x ↦ (turned 0 x r.0).0
  | place_operand signs ↦ dot_tree
  | place_word bracket signs ↦ dot_tree
  | place_refused ↦ dot_tree
]

module _ (text : List ℕ) (dot : Option ℤ) where
  abbrev step : Place → Token → List Held → List Held × Place
  step (place_operand signs) t hs = begun (begins_of (text_of text t) t.kind dot) signs t hs
  step (place_word bracket signs) t hs = cond (is_mark_of 40 t.kind) (held_open bracket signs ∷ hs, place_operand []) (hs, place_refused)
  step (place_operator x) t hs = cond (is_mark_of 41 t.kind) (shut (turned 0 x hs).0 (turned 0 x hs).1) (joined (binary_of t.kind) x hs)
  step place_refused t hs = (hs, place_refused)

  abbrev runs : List Token → List Held × Place → List Held × Place
  runs [] r = r
  runs (t ∷ ts) r = runs ts (step r.1 t r.0)

  -- what the machine has after a tree
  record Gives (level : ℕ) (ts rest : List Token) (hs : List Held) (signs : List Token) (x : Tree) : Type 0 where
    pub value : Tree
    pub held : List Held
    pub goes : runs (ts ++ rest) (hs, place_operand signs) ≡ runs rest (held, place_operator value)
    pub turns : (k : ℕ) → k ≤ level → turned k value held ≡ turned k (with_signs signs x) hs

  leaf : (level : ℕ) (t : Token) (rest : List Token) (hs : List Held) (signs : List Token) (x : Tree) → begins_of (text_of text t) t.kind
      dot ≡ begins_tree x → Gives level (t ∷ []) rest hs signs x
  leaf level t rest hs signs x e = record {
    value = with_signs signs x;
    held = hs;
    goes = ap (λ b. runs rest (begun b signs t hs)) e;
    turns = λ k h. refl;
  }

  signed : (level : ℕ) (t : Token) (ts rest : List Token) (hs : List Held) (signs : List Token) (x : Tree) → is_sign t.kind ≡ true
      → level ≤ 7 → Gives 7 ts rest hs (signs ++ t ∷ []) x → Gives level (t ∷ ts) rest hs signs (sign_tree t.kind x)
  signed level t ts rest hs signs x is within g = record {
    value = g.value;
    held = g.held;
    goes = ap (λ b. runs (ts ++ rest) (begun b signs t hs)) (sign_begins (text_of text t) t.kind dot is) ∙ g.goes;
    turns = λ k h. g.turns k (omega arith) ∙ ap (λ y. turned k y hs) (one_more signs t x);
  }

  opened : (us : List Token) (hs : List Held) (signs : List Token) {opening : List Token} {bracket : Bracket} → Opens text opening bracket
      → runs (opening ++ us) (hs, place_operand signs) ≡ runs us (held_open bracket signs ∷ hs, place_operand [])
  opened us hs signs (opens_plain {mark = mark} e) = ap (λ kind. runs us (begun (begins_of (text_of text mark) kind dot) signs mark hs)) e
  opened us hs signs (opens_word {word = word} {mark = mark} {bracket = bracket} e w f) =
      ap (λ kind. runs (mark ∷ us) (begun (begins_of (text_of text word) kind dot) signs word hs)) e
      ∙ ap (λ o. runs (mark ∷ us) (begun (begins_name (text_of text word) o) signs word hs)) w
      ∙ ap (λ kind. runs us (cond (is_mark_of 40 kind) (held_open bracket signs ∷ hs, place_operand []) (hs, place_refused))) f

  bracketed : (level : ℕ) (opening inner rest : List Token) (t : Token) (hs : List Held) (signs : List Token) (bracket : Bracket) (x : Tree)
      → Opens text opening bracket → t.kind ≡ Mark 41
      → Gives 1 inner (t ∷ rest) (held_open bracket signs ∷ hs) [] x → Gives level (opening ++ (inner ++ t ∷ [])) rest hs signs
      (bracket_tree bracket x)
  bracketed level opening inner rest t hs signs bracket x opens closing g =
      let joins : (opening ++ (inner ++ t ∷ [])) ++ rest ≡ opening ++ (inner ++ t ∷ rest) = append_assoc opening (inner ++ t ∷ []) rest
      ∙ ap (λ us. opening ++ us) (append_assoc inner (t ∷ []) rest) in
      record {
        value = with_signs signs (bracket_tree bracket x);
        held = hs;
        goes =
            ap (λ us. runs us (hs, place_operand signs)) joins ∙ opened (inner ++ t ∷ rest) hs signs opens ∙ g.goes
            ∙ ap (λ kind. runs rest (cond (is_mark_of 41 kind) (shut (turned 0 g.value g.held).0 (turned 0 g.value g.held).1)
            (joined (binary_of kind) g.value g.held))) closing
            ∙ ap (λ (p : Tree × List Held). runs rest (shut p.0 p.1)) (g.turns 0 (omega arith));
        turns = λ k h. refl;
      }

  operated : (t : Token) (rest : List Token) (hs held : List Held) (op : Binary) (v x : Tree) → binary_of t.kind ≡ Some op
      → turned (level_of op) v held ≡ (x, hs)
      → runs (t ∷ rest) (held, place_operator v) ≡ runs rest (held_wait x op ∷ hs, place_operand [])
  operated t rest hs held op v x e r = cc (not_closing t.kind op e)

  paired : (level : ℕ) (left right rest : List Token) (t : Token) (op : Binary) (hs : List Held) (x y : Tree) → binary_of t.kind ≡ Some op
      → level ≤ level_of op → Under (level_of op) hs
      → Gives (level_of op) left (t ∷ right ++ rest) hs [] x → Gives (suc (level_of op)) right rest (held_wait x op ∷ hs) [] y
      → Gives level (left ++ t ∷ right) rest hs [] (binary_tree op x y)
  paired level left right rest t op hs x y is binds under g h = record {
    value = h.value;
    held = h.held;
    goes =
        ap (λ us. runs us (hs, place_operand [])) (append_assoc left (t ∷ right) rest) ∙ g.goes
        ∙ operated t (right ++ rest) _ g.held _ g.value _ is (g.turns (level_of op) (omega arith) ∙ stays _ _ _ under) ∙ h.goes;
    turns = λ k le. h.turns k (omega arith) ∙ ap (λ b. cond b (turned k (binary_tree op x y) hs) (y, held_wait x op ∷ hs))
        (is_le _ _ (omega arith));
  }

  gives : (depth level : ℕ) (ts : List Token) (x : Tree) (rest : List Token) (hs : List Held) (signs : List Token) → Spells text dot depth
      level ts x → level ≤ 7 → (level < 7 → signs ≡ []) → Under level hs → Gives level ts rest hs signs x
  gives depth level _ _ rest hs signs (spells_number {t = t} {n = n} e) within plain under = leaf level t rest hs signs (number_tree n)
      (ap (λ kind. begins_of (text_of text t) kind dot) e)
  gives depth level _ _ rest hs signs (spells_name {t = t} e f) within plain under =
      leaf level t rest hs signs (name_tree (text_of text t)) (ap (λ kind. begins_of (text_of text t) kind dot) e
      ∙ ap (begins_name (text_of text t)) f)
  gives depth level _ _ rest hs signs (spells_dot {t = t} e f) within plain under =
      leaf level t rest hs signs dot_tree (ap (λ kind. begins_of (text_of text t) kind dot) e ∙ ap begins_dot f)
  gives depth level _ _ rest hs signs (spells_sign {t = t} {ts = ts} {x = x} is d) within plain under =
      signed level t ts rest hs signs x is within (gives depth 7 ts x rest hs (signs ++ t ∷ []) d (omega arith) (λ h. absurd (omega arith))
      (under_more level 7 hs within under))
  gives depth level _ _ rest hs signs (spells_bracket {opening = opening} {inner = inner} {bracket = bracket} {x = x} t shallow opens d
      closing) within plain under =
      bracketed level opening inner rest t hs signs bracket x opens closing
      (gives (suc depth) 1 inner x (t ∷ rest) (held_open bracket signs ∷ hs) [] d (omega arith) (λ h. refl) tt)
  gives depth level _ _ rest hs signs (spells_binary {left = left} {right = right} {operator = op} {x = x} {y = y} t is binds d e) within
      plain under =
      let most = level_most op in
      let below = under_more level (level_of op) hs binds under in
      let none : signs ≡ [] = plain (omega arith) in
      subst (λ s. Gives level (left ++ t ∷ right) rest hs s (binary_tree op x y)) (sym none)
      (paired level left right rest t op hs x y is binds below
      (gives depth (level_of op) left x (t ∷ right ++ rest) hs [] d (omega arith) (λ h. refl) below)
      (gives depth (suc (level_of op)) right y rest (held_wait x op ∷ hs) [] e (omega arith) (λ h. refl) (omega arith)))

  -- the tree that tokens spell
  tree_is : (tokens : List Token) (x : Tree) → Spells text dot 0 1 tokens x → ended (runs tokens ([], place_operand [])) ≡ x
  tree_is tokens x d = grind (arith, nat_tests, gives 0 1 tokens x [] [] [] d (omega arith), append-nil tokens)

-- at most one
pub one_tree : (text : List ℕ) (tokens : List Token) (dot : Option ℤ) (x y : Tree) → Spells text dot 0 1 tokens x → Spells text dot 0 1
    tokens y → x ≡ y
one_tree text tokens dot x y d e = sym (tree_is text dot tokens x d) ∙ tree_is text dot tokens y e
