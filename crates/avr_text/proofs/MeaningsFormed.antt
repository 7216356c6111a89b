-- No tree that tokens spell means Form.
use Rattle.std.proofs.Common.{◌≡◌, ◌≢◌, ◌⊎◌, inl, inr, ℕ, suc, Bool, true, false, cond, List, refl, sym, ◌∙◌, ap, subst}
use Rattle.std.specs.Prelude.{ℤ, pos, negsuc, ◌+ℤ◌, ◌-ℤ◌, ◌*ℤ◌, neg_ℤ, int_div, int_rem, Option, None, Some, Ok, Err, nat_lt, ◌==◌, ◌^◌}
use Rattle.std.specs.Int.{int_shr}
use Rattle.avr_text.specs.declared.operators.Binary.{Binary}
use Rattle.avr_text.specs.declared.operators.Binary.TheVariants.{Add, Subtract, Multiply, Divide, Remainder}
use Rattle.avr_text.specs.declared.operators.Binary.TheVariants as binary
use Rattle.avr_text.specs.declared.operators.Bracket.{Bracket}
use Rattle.avr_text.specs.declared.operators.Bracket.TheVariants.{Plain}
use Rattle.avr_text.specs.declared.tokens.TokenKind.{TokenKind}
use Rattle.avr_text.specs.declared.tokens.TokenKind.TheVariants.{Mark, ShiftLeft, ShiftRight}
use Rattle.avr_text.specs.declared.tokens.Token.{Token}
use Rattle.avr_text.specs.declared.values.ValueWhy.TheVariants.{Form, Overflow, ZeroDivisor}
use Rattle.avr_text.specs.Arithmetic.{ValueOrWhy, fits, checked, is_zero, with_count, negated_of, complement_of}
use Rattle.avr_text.specs.Names.{NameMap, known}
use Rattle.avr_text.specs.Operators.{applied_to, combined, sign_value, sign_applied, bracket_applied}
use Rattle.avr_text.specs.Reading.{value_of}
use Rattle.avr_text.specs.Expressions.{Tree, Spells, spells_number, spells_name, spells_dot, spells_sign, spells_bracket, spells_binary}
use Rattle.avr_text.specs.Expressions.{dot_value, meaning, FormUnless, IsExpression}
use Rattle.avr_text.proofs.TreesRead.{reads_whole}
use Rattle.avr_text.proofs.TreesFound.{tree_found}

abbrev is_form : ValueOrWhy → Bool
is_form (Err Form) = true
is_form other = false

choose_formed : (b : Bool) (v w : ValueOrWhy) → is_form v ≡ false → is_form w ≡ false → is_form (cond b v w) ≡ false
choose_formed true v w h k = h
choose_formed false v w h k = k

checked_formed : (z : ℤ) → is_form (checked z) ≡ false
checked_formed z = choose_formed (fits z) (Ok z) (Err Overflow) refl refl

count_formed : (y : ℤ) (f : ℕ → ValueOrWhy) → ((n : ℕ) → is_form (f n) ≡ false) → is_form (with_count y f) ≡ false
count_formed (pos n) f h = choose_formed (nat_lt n 64) (f n) (Err Overflow) (h n) refl
count_formed (negsuc n) f h = refl

applied_formed : (op : Binary) (x y : ℤ) → is_form (applied_to op x y) ≡ false
applied_formed binary.ShiftLeft x y = count_formed y (λ n. checked (x *ℤ pos (2 ^ n))) (λ n. checked_formed (x *ℤ pos (2 ^ n)))
applied_formed binary.ShiftRight x y = count_formed y (λ n. Ok (int_shr x n)) (λ n. refl)
applied_formed Add x y = checked_formed (x +ℤ y)
applied_formed Subtract x y = checked_formed (x -ℤ y)
applied_formed Multiply x y = checked_formed (x *ℤ y)
applied_formed Divide x y = choose_formed (is_zero y) (Err ZeroDivisor) (checked (int_div x y)) refl (checked_formed (int_div x y))
applied_formed Remainder x y = choose_formed (is_zero y) (Err ZeroDivisor) (checked (int_rem x y)) refl (checked_formed (int_rem x y))
applied_formed other x y = refl

combined_formed : (op : Binary) (v w : ValueOrWhy) → is_form v ≡ false → is_form w ≡ false → is_form (combined op v w) ≡ false
combined_formed op (Err why) w h k = h
combined_formed op (Ok x) (Err why) h k = k
combined_formed op (Ok x) (Ok y) h k = applied_formed op x y

sign_value_formed : (kind : TokenKind) (x : ℤ) → is_form (sign_value kind x) ≡ false
sign_value_formed (Mark b) x = choose_formed (b == 45) (negated_of x) (cond (b == 126) (Ok (complement_of x)) (Ok x))
    (checked_formed (neg_ℤ x)) (choose_formed (b == 126) (Ok (complement_of x)) (Ok x) refl refl)
sign_value_formed other x = refl

sign_formed : (kind : TokenKind) (v : ValueOrWhy) → is_form v ≡ false → is_form (sign_applied kind v) ≡ false
sign_formed kind (Err why) h = h
sign_formed kind (Ok x) h = sign_value_formed kind x

bracket_formed : (bracket : Bracket) (v : ValueOrWhy) → is_form v ≡ false → is_form (bracket_applied bracket v) ≡ false
bracket_formed bracket (Err why) h = h
bracket_formed Plain (Ok x) h = refl
bracket_formed other (Ok x) h = refl

known_formed : (o : Option ℤ) → is_form (known o) ≡ false
known_formed None = refl
known_formed (Some x) = refl

formed : (text : List ℕ) (dot : Option ℤ) (symbols : NameMap) (depth level : ℕ) (ts : List Token) (x : Tree) → Spells text dot depth level
    ts x → is_form (meaning symbols dot x) ≡ false
formed text dot symbols depth level _ _ (spells_number e) = refl
formed text dot symbols depth level _ _ (spells_name {t = t} e f) = known_formed _
formed text dot symbols depth level _ _ (spells_dot e f) = ap (λ d. is_form (dot_value d)) f
formed text dot symbols depth level _ _ (spells_sign {t = t} {ts = ts} {x = x} e d) = sign_formed t.kind (meaning symbols dot x)
    (formed text dot symbols depth 7 ts x d)
formed text dot symbols depth level _ _ (spells_bracket {inner = inner} {bracket = bracket} {x = x} t shallow opens d closing) =
    bracket_formed bracket (meaning symbols dot x) (formed text dot symbols (suc depth) 1 inner x d)
formed text dot symbols depth level _ _ (spells_binary {left = left} {right = right} {operator = op} {x = x} {y = y} t is binds d e) =
    combined_formed op (meaning symbols dot x) (meaning symbols dot y) (formed text dot symbols depth _ left x d)
    (formed text dot symbols depth _ right y e)

not_form : (v : ValueOrWhy) → is_form v ≡ false → v ≢ Err Form
not_form v h e = let no : true ≡ false = subst (λ w. is_form w ≡ false) e h in absurd cc

spelled_not_form : (text : List ℕ) (tokens : List Token) (symbols : NameMap) (dot : Option ℤ) (x : Tree) → Spells text dot 0 1 tokens x
    → value_of text tokens symbols dot ≢ Err Form
spelled_not_form text tokens symbols dot x d e = not_form _ (formed _ _ _ _ _ _ _ d) (sym (reads_whole _ _ _ _ _ d) ∙ e)

form_or_tree : (text : List ℕ) (tokens : List Token) (symbols : NameMap) (dot : Option ℤ) → (value_of text tokens symbols dot ≡ Err Form)
    ⊎ IsExpression text dot tokens → FormUnless (IsExpression text dot tokens) (value_of text tokens symbols dot)
form_or_tree text tokens symbols dot (inl e) = inl (e, λ t. spelled_not_form text tokens symbols dot t.0 t.1 e)
form_or_tree text tokens symbols dot (inr t) = inr (spelled_not_form text tokens symbols dot t.0 t.1, t)

-- Form exactly where the tokens are no expression
pub form_unless : (text : List ℕ) (tokens : List Token) (symbols : NameMap) (dot : Option ℤ) (v : ValueOrWhy) → v ≡ value_of text tokens
    symbols dot → FormUnless (IsExpression text dot tokens) v
form_unless text tokens symbols dot v e = subst (FormUnless (IsExpression text dot tokens)) (sym e)
    (form_or_tree text tokens symbols dot (tree_found text dot tokens symbols))
