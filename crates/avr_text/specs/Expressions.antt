-- The expressions that tokens spell, as trees, and what a tree means.
--
-- The grammar is that of C's operators (ISO/IEC 9899, 6.5: the signs - and ~, and the operators from the multiplicative
-- ones to the inclusive OR, in its order of precedence, each from left to right) on this project's tokens, with lo8(..)
-- and hi8(..). Parentheses lie at most 32 deep.
use Rattle.std.specs.Prelude.{◌≡◌, ◌≢◌, ◌⊎◌, ℕ, suc, ◌<◌, ◌≤◌, true, ℤ, List, [], ◌∷◌, ◌++◌, Option, Some, None, Ok, Err}
use Prim.Native.Char.{code}
use Rattle.std.specs.FinMap as map
use Rattle.avr_text.specs.declared.operators.Binary.{Binary}
use Rattle.avr_text.specs.declared.operators.Bracket.{Bracket}
use Rattle.avr_text.specs.declared.operators.Bracket.TheVariants.{Plain}
use Rattle.avr_text.specs.declared.tokens.TokenKind.{TokenKind}
use Rattle.avr_text.specs.declared.tokens.TokenKind.TheVariants.{Name, Number, Mark}
use Rattle.avr_text.specs.declared.tokens.Token.{Token}
use Rattle.avr_text.specs.declared.values.ValueWhy.TheVariants.{Form}
use Rattle.avr_text.specs.Arithmetic.{ValueOrWhy}
use Rattle.avr_text.specs.Names.{NameMap, known}
use Rattle.avr_text.specs.Operators.{level_of, combined, binary_of, is_sign, sign_applied, bracket_applied}
use Rattle.avr_text.specs.Words.{bracket_word}
use Rattle.avr_text.specs.Tokens.{text_of}

-- a number, a name, `.`, a sign before an operand, parentheses (with lo8, hi8 or neither before them), an operator between operands
pub data Tree : Type 0 where
  number_tree : ℤ → Tree
  name_tree : List ℕ → Tree
  dot_tree : Tree
  sign_tree : TokenKind → Tree → Tree
  bracket_tree : Bracket → Tree → Tree
  binary_tree : Binary → Tree → Tree → Tree

-- An opening parenthesis, with lo8 or hi8 before it or without.
pub data Opens (text : List ℕ) : List Token → Bracket → Type 0 where
  opens_plain : {mark : Token} → mark.kind ≡ Mark (code "(") → Opens text (mark ∷ []) Plain
  opens_word : {word mark : Token} {bracket : Bracket} → word.kind ≡ Name → bracket_word (text_of text word) ≡ Some bracket
      → mark.kind ≡ Mark (code "(") → Opens text (word ∷ mark ∷ []) bracket

-- Tokens that lie inside so many parentheses spell a tree, whose operators outside of further parentheses bind at
-- least as tightly as a level: at level 1 any may stand there, at level 7 none. The right operand binds more tightly
-- than its operator, so chains go from left to right.
pub data Spells (text : List ℕ) (dot : Option ℤ) : ℕ → ℕ → List Token → Tree → Type 0 where
  spells_number : {depth level : ℕ} {t : Token} {n : ℤ} → t.kind ≡ Number n → Spells text dot depth level (t ∷ []) (number_tree n)
  spells_name : {depth level : ℕ} {t : Token} → t.kind ≡ Name → bracket_word (text_of text t) ≡ None → Spells text dot depth level (t ∷ [])
      (name_tree (text_of text t))
  spells_dot : {depth level : ℕ} {t : Token} {x : ℤ} → t.kind ≡ Mark (code ".") → dot ≡ Some x → Spells text dot depth level (t ∷ [])
      dot_tree
  spells_sign : {depth level : ℕ} {t : Token} {ts : List Token} {x : Tree} → is_sign t.kind ≡ true → Spells text dot depth 7 ts x
      → Spells text dot depth level (t ∷ ts) (sign_tree t.kind x)
  spells_bracket : {depth level : ℕ} {opening inner : List Token} {bracket : Bracket} {x : Tree} (close : Token) → depth < 32
      → Opens text opening bracket → Spells text dot (suc depth) 1 inner x → close.kind ≡ Mark (code ")")
      → Spells text dot depth level (opening ++ (inner ++ close ∷ [])) (bracket_tree bracket x)
  spells_binary : {depth level : ℕ} {left right : List Token} {operator : Binary} {x y : Tree} (t : Token) → binary_of t.kind ≡ Some
      operator → level ≤ level_of operator
      → Spells text dot depth (level_of operator) left x → Spells text dot depth (suc (level_of operator)) right y
      → Spells text dot depth level (left ++ t ∷ right) (binary_tree operator x y)

-- what `.` stands for
abbrev pub dot_value : Option ℤ → ValueOrWhy
dot_value None = Err Form
dot_value (Some x) = Ok x

-- the value of a tree: an operator's left operand is evaluated first, then the right one, then the operator
abbrev pub meaning : NameMap → Option ℤ → Tree → ValueOrWhy
meaning symbols dot (number_tree n) = Ok n
meaning symbols dot (name_tree name) = known (map.get symbols name)
meaning symbols dot dot_tree = dot_value dot
meaning symbols dot (sign_tree sign x) = sign_applied sign (meaning symbols dot x)
meaning symbols dot (bracket_tree bracket x) = bracket_applied bracket (meaning symbols dot x)
meaning symbols dot (binary_tree operator x y) = combined operator (meaning symbols dot x) (meaning symbols dot y)

-- tokens are an expression, of this tree: outside of all parentheses, with any operators
abbrev pub IsExpressionOf : List ℕ → Option ℤ → List Token → Tree → Type 0
IsExpressionOf text dot tokens tree = Spells text dot 0 1 tokens tree

abbrev pub IsExpression : List ℕ → Option ℤ → List Token → Type 0
IsExpression text dot tokens = (tree : Tree) × IsExpressionOf text dot tokens tree

-- the outcome is Form exactly where there is no expression
abbrev pub FormUnless : Type 0 → ValueOrWhy → Type 0
FormUnless expression outcome = ((outcome ≡ Err Form) × ¬ expression) ⊎ ((outcome ≢ Err Form) × expression)
