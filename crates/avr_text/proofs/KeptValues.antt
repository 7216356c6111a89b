-- A value stays where names are added: two machines, of which the second knows more names, stay alike.
use Rattle.std.proofs.Common.{◌≡◌, ℕ, ◌+◌, Bool, true, false, cond, List, [], ◌∷◌, length, refl, sym, ◌∙◌, ap, subst, suc, ◌-◌}
use Rattle.std.specs.Prelude.{ℤ, Option, None, Some, Ok, Err, nat_le, ◌||◌, ◌==◌}
use Rattle.std.specs.List.{slice_range}
use Rattle.std.specs.FinMap as map
use Rattle.avr_text.specs.declared.operators.Binary.{Binary}
use Rattle.avr_text.specs.declared.operators.Bracket.{Bracket}
use Rattle.avr_text.specs.declared.operator_stack.Entry.{Entry}
use Rattle.avr_text.specs.declared.operator_stack.Entry.TheVariants.{Waiting, Open}
use Rattle.avr_text.specs.declared.reader.Operand.{Operand}
use Rattle.avr_text.specs.declared.reader.Operand.TheVariants.{Value, Sign, Word, Nothing}
use Rattle.avr_text.specs.declared.reader.Operand.TheVariants as operand
use Rattle.avr_text.specs.declared.reader.Mode.{Mode}
use Rattle.avr_text.specs.declared.reader.Mode.TheVariants as mode
use Rattle.avr_text.specs.declared.reader.Reader.{Reader}
use Rattle.avr_text.specs.declared.tokens.TokenKind.{TokenKind}
use Rattle.avr_text.specs.declared.tokens.TokenKind.TheVariants.{Name, Number, Mark}
use Rattle.avr_text.specs.declared.tokens.Token.{Token}
use Rattle.avr_text.specs.declared.values.ValueWhy.TheVariants.{Form}
use Rattle.avr_text.specs.Arithmetic.{ValueOrWhy}
use Rattle.avr_text.specs.Names.{NameMap, Keeps, known}
use Rattle.avr_text.specs.Operators.{level_of, combined, sign_value, sign_applied, bracket_value, bracket_applied}
use Rattle.avr_text.specs.Tokens.{text_of}
use Rattle.avr_text.specs.Reading.{signed, reduced, word_or_value, mark_operand, kind_operand, in_mode, beginning, opened, closed_at}
use Rattle.avr_text.specs.Reading.{closed, operand_step, waits, waiting, operator_or_none, operator_step, bracket_step, step_in}
use Rattle.avr_text.specs.Reading.{step, run, finished_in, value_of}

-- a number that is found stays
abbrev pub Stays : ValueOrWhy → ValueOrWhy → Type 0
Stays (Ok x) after = after ≡ Ok x
Stays (Err why) after = Unit {0}

stays_same : (a : ValueOrWhy) → Stays a a
stays_same (Ok x) = refl
stays_same (Err why) = tt

stays_equal : (a b : ValueOrWhy) → b ≡ a → Stays a b
stays_equal a b e = subst (λ x. Stays a x) (sym e) (stays_same a)

stays_combined : (op : Binary) (a b c d : ValueOrWhy) → Stays a b → Stays c d → Stays (combined op a c) (combined op b d)
stays_combined op (Ok x) b (Ok y) d h k = stays_equal _ _ (ap (λ o. combined op o d) h ∙ ap (combined op (Ok x)) k)
stays_combined op other b c d h k = tt

stays_sign : (kind : TokenKind) (a b : ValueOrWhy) → Stays a b → Stays (sign_applied kind a) (sign_applied kind b)
stays_sign kind (Err why) b h = tt
stays_sign kind (Ok x) b h = stays_equal (sign_value kind x) (sign_applied kind b) (ap (sign_applied kind) h)

stays_signed : (ts : List Token) (a b : ValueOrWhy) → Stays a b → Stays (signed ts a) (signed ts b)
stays_signed [] a b h = h
stays_signed (t ∷ ts) a b h = stays_sign t.kind (signed ts a) (signed ts b) (stays_signed ts a b h)

stays_bracket : (bracket : Bracket) (a b : ValueOrWhy) → Stays a b → Stays (bracket_applied bracket a) (bracket_applied bracket b)
stays_bracket bracket (Err why) b h = tt
stays_bracket bracket (Ok x) b h = stays_equal (bracket_value bracket x) (bracket_applied bracket b) (ap (bracket_applied bracket) h)

-- what waits is alike but for values
data Alike : List Entry → List Entry → Type 0 where
  both_empty : Alike [] []
  both_wait : {a b : ValueOrWhy} {op : Binary} {es fs : List Entry} → Stays a b → Alike es fs
      → Alike (Waiting a op ∷ es) (Waiting b op ∷ fs)
  both_open : {bracket : Bracket} {from at : ℕ} {es fs : List Entry} → Alike es fs → Alike (Open bracket from at ∷ es)
      (Open bracket from at ∷ fs)

alike_length : {es fs : List Entry} → Alike es fs → length es ≡ length fs
alike_length both_empty = refl
alike_length (both_wait h k) = ap (λ n. suc n) (alike_length k)
alike_length (both_open k) = ap (λ n. suc n) (alike_length k)

record Both (r s : ValueOrWhy × List Entry) : Type 0 where
  pub value : Stays r.0 s.0
  pub stack : Alike r.1 s.1

reduced_alike : (level : ℕ) (a b : ValueOrWhy) {es fs : List Entry} → Stays a b → Alike es fs
    → Both (reduced level a es) (reduced level b fs)
reduced_alike level a b h both_empty = record { value = h; stack = both_empty }
reduced_alike level a b h (both_open k) = record { value = h; stack = both_open k }
reduced_alike level a b h (both_wait {a = l} {b = m} {op = op} {es = es} {fs = fs} w k) =
    elim (nat_le level (level_of op)) as (λ t. Both (cond t (reduced level (combined op l a) es) (a, Waiting l op ∷ es))
    (cond t (reduced level (combined op m b) fs) (b, Waiting m op ∷ fs))) [
      | true ↦ reduced_alike level (combined op l a) (combined op m b) (stays_combined op l m a b w h) k
      | false ↦ record { value = h; stack = both_wait w k }
    ]

data AlikeMode : Mode → Mode → Type 0 where
  both_operand : (from : ℕ) → AlikeMode (mode.Operand from) (mode.Operand from)
  both_parenthesis : (bracket : Bracket) (from at : ℕ) → AlikeMode (mode.Parenthesis bracket from at) (mode.Parenthesis bracket from at)
  both_operator : {a b : ValueOrWhy} → Stays a b → AlikeMode (mode.Operator a) (mode.Operator b)
  both_refused : AlikeMode mode.Refused mode.Refused

record AlikeReader (s t : Reader) : Type 0 where
  pub stack : Alike s.stack t.stack
  pub depth : s.depth ≡ t.depth
  pub mode : AlikeMode s.mode t.mode

choose_alike : (p q : Bool) (s t u v : Reader) → p ≡ q → AlikeReader s t → AlikeReader u v → AlikeReader (cond p s u) (cond q t v)
choose_alike true true s t u v e h k = h
choose_alike false false s t u v e h k = k
choose_alike other rest s t u v e h k = absurd cc

refused_alike : (s t : Reader) → AlikeReader s t → AlikeReader (in_mode mode.Refused s) (in_mode mode.Refused t)
refused_alike s t h = record { stack = h.stack; depth = h.depth; mode = both_refused }

opened_alike : (bracket : Bracket) (from at next : ℕ) (s t : Reader) → AlikeReader s t → AlikeReader (opened bracket from at next s)
    (opened bracket from at next t)
opened_alike bracket from at next s t h =
    choose_alike _ _ _ _ _ _
    (ap (λ n. nat_le 32 n || length s.stack == 256) h.depth ∙ ap (λ n. nat_le 32 t.depth || n == 256) (alike_length h.stack))
    (refused_alike _ _ h) (record { stack = both_open h.stack; depth = ap (λ n. n + 1) h.depth; mode = both_operand next })

closed_at_alike : (tokens : List Token) (a b : ValueOrWhy) (s t : Reader) {es fs : List Entry} → Stays a b → s.depth ≡ t.depth → Alike es fs
    → AlikeReader (closed_at tokens a es s) (closed_at tokens b fs t)
closed_at_alike tokens a b s t h d both_empty = record { stack = both_empty; depth = d; mode = both_refused }
closed_at_alike tokens a b s t h d (both_wait w k) = record { stack = k; depth = d; mode = both_refused }
closed_at_alike tokens a b s t h d (both_open {bracket = bracket} {from = from} {at = at} k) = record {
  stack = k;
  depth = ap (λ n. n - 1) d;
  mode = both_operator (stays_signed (slice_range tokens from at) (bracket_applied bracket a) (bracket_applied bracket b)
      (stays_bracket bracket a b h));
}

closed_alike : (tokens : List Token) (a b : ValueOrWhy) (s t : Reader) → Stays a b → AlikeReader s t → AlikeReader (closed tokens a s)
    (closed tokens b t)
closed_alike tokens a b s t h k =
    let r = reduced_alike 0 a b h k.stack in
    closed_at_alike tokens (reduced 0 a s.stack).0 (reduced 0 b t.stack).0 s t r.value k.depth r.stack

waiting_alike : (op : Binary) (a b : ValueOrWhy) (next : ℕ) (s t : Reader) → Stays a b → AlikeReader s t → AlikeReader (waiting op a next s)
    (waiting op b next t)
waiting_alike op a b next s t h k = go (reduced (level_of op) a s.stack) (reduced (level_of op) b t.stack)
    (reduced_alike _ _ _ h k.stack)
  where
    go : (q r : ValueOrWhy × List Entry) → Both q r → AlikeReader (waits op q.0 next q.1 s) (waits op r.0 next r.1 t)
    go q r w = choose_alike _ _ _ _ _ _ (ap (λ n. n == 256) (alike_length w.stack))
        (record { stack = w.stack; depth = k.depth; mode = both_refused })
        (record { stack = both_wait w.value w.stack; depth = k.depth; mode = both_operand next })

operator_alike : (o : Option Binary) (a b : ValueOrWhy) (next : ℕ) (s t : Reader) → Stays a b → AlikeReader s t
    → AlikeReader (operator_or_none o a next s) (operator_or_none o b next t)
operator_alike None a b next s t h k = refused_alike s t k
operator_alike (Some op) a b next s t h k = waiting_alike op a b next s t h k

operator_step_alike : (kind : TokenKind) (tokens : List Token) (at : ℕ) (a b : ValueOrWhy) (s t : Reader) → Stays a b → AlikeReader s t
    → AlikeReader (operator_step kind tokens at a s) (operator_step kind tokens at b t)
operator_step_alike kind tokens at a b s t h k = choose_alike _ _ _ _ _ _ refl (closed_alike _ _ _ _ _ h k) (operator_alike _ _ _ _ _ _ h k)

bracket_step_alike : (kind : TokenKind) (bracket : Bracket) (from at next : ℕ) (s t : Reader) → AlikeReader s t
    → AlikeReader (bracket_step kind bracket from at next s) (bracket_step kind bracket from at next t)
bracket_step_alike kind bracket from at next s t k = choose_alike _ _ _ _ _ _ refl (opened_alike _ _ _ _ _ _ k) (refused_alike _ _ k)

data AlikeOperand : Operand → Operand → Type 0 where
  both_value : {a b : ValueOrWhy} → Stays a b → AlikeOperand (Value a) (Value b)
  both_same : (o : Operand) → AlikeOperand o o

known_stays : (a b : Option ℤ) → ((x : ℤ) → a ≡ Some x → b ≡ Some x) → Stays (known a) (known b)
known_stays None b h = tt
known_stays (Some x) b h = ap known (h x refl)

name_alike : (o : Option Bracket) (a b : ValueOrWhy) → Stays a b → AlikeOperand (word_or_value o a) (word_or_value o b)
name_alike None a b h = both_value h
name_alike (Some bracket) a b h = both_same (Word bracket)

kind_alike : (word : List ℕ) (kind : TokenKind) (symbols more : NameMap) (dot : Option ℤ) → Keeps symbols more
    → AlikeOperand (kind_operand word kind symbols dot) (kind_operand word kind more dot)
kind_alike word Name symbols more dot keeps = name_alike _ _ _ (known_stays _ _ (keeps word))
kind_alike word (Number n) symbols more dot keeps = both_same (Value (Ok n))
kind_alike word (Mark b) symbols more dot keeps = both_same (mark_operand b dot)
kind_alike word other symbols more dot keeps = both_same Nothing

same_operand_alike : (o : Operand) (tokens : List Token) (from at : ℕ) (s t : Reader) → AlikeReader s t
    → AlikeReader (operand_step o tokens from at s) (operand_step o tokens from at t)
same_operand_alike (Value a) tokens from at s t k = record {
  stack = k.stack;
  depth = k.depth;
  mode = both_operator (stays_same (signed (slice_range tokens from at) a));
}
same_operand_alike Sign tokens from at s t k = record { stack = k.stack; depth = k.depth; mode = both_operand from }
same_operand_alike (Word bracket) tokens from at s t k = record {
  stack = k.stack;
  depth = k.depth;
  mode = both_parenthesis bracket from at;
}
same_operand_alike operand.Parenthesis tokens from at s t k = opened_alike _ from at (at + 1) s t k
same_operand_alike Nothing tokens from at s t k = refused_alike s t k

operand_step_alike : (tokens : List Token) (from at : ℕ) (s t : Reader) {o q : Operand} → AlikeReader s t → AlikeOperand o q
    → AlikeReader (operand_step o tokens from at s) (operand_step q tokens from at t)
operand_step_alike tokens from at s t k (both_value {a = a} {b = b} h) = record {
  stack = k.stack;
  depth = k.depth;
  mode = both_operator (stays_signed (slice_range tokens from at) a b h);
}
operand_step_alike tokens from at s t k (both_same o) = same_operand_alike o tokens from at s t k

step_in_alike : (text : List ℕ) (tokens : List Token) (symbols more : NameMap) (dot : Option ℤ) (at : ℕ) (token : Token) (s t : Reader)
    {m n : Mode} → Keeps symbols more → AlikeReader s t → AlikeMode m n
    → AlikeReader (step_in m text tokens symbols dot at token s) (step_in n text tokens more dot at token t)
step_in_alike text tokens symbols more dot at token s t keeps k (both_operand from) =
    operand_step_alike tokens from at s t k (kind_alike (text_of text token) token.kind symbols more dot keeps)
step_in_alike text tokens symbols more dot at token s t keeps k (both_parenthesis bracket from word) = bracket_step_alike token.kind bracket
    from word (at + 1) s t k
step_in_alike text tokens symbols more dot at token s t keeps k (both_operator {a = a} {b = b} h) = operator_step_alike token.kind tokens at
    a b s t h k
step_in_alike text tokens symbols more dot at token s t keeps k both_refused = k

run_alike : (text : List ℕ) (tokens : List Token) (symbols more : NameMap) (dot : Option ℤ) (at : ℕ) (ts : List Token) (s t : Reader)
    → Keeps symbols more → AlikeReader s t
    → AlikeReader (run text tokens symbols dot at ts s) (run text tokens more dot at ts t)
run_alike text tokens symbols more dot at [] s t keeps k = k
run_alike text tokens symbols more dot at (u ∷ us) s t keeps k =
    run_alike text tokens symbols more dot (at + 1) us (step text tokens symbols dot at u s) (step text tokens more dot at u t) keeps
    (step_in_alike text tokens symbols more dot at u s t keeps k k.mode)

choose_stays : (p q : Bool) (a b c d : ValueOrWhy) → p ≡ q → Stays a b → Stays c d → Stays (cond p a c) (cond q b d)
choose_stays true true a b c d e h k = h
choose_stays false false a b c d e h k = k
choose_stays other rest a b c d e h k = absurd cc

finished_stays : (es fs : List Entry) {m n : Mode} → Alike es fs → AlikeMode m n → Stays (finished_in m es) (finished_in n fs)
finished_stays es fs k (both_operand from) = tt
finished_stays es fs k (both_parenthesis bracket from at) = tt
finished_stays es fs k (both_operator {a = a} {b = b} h) =
    let r = reduced_alike 0 a b h k in
    choose_stays (length (reduced 0 a es).1 == 0) (length (reduced 0 b fs).1 == 0) (reduced 0 a es).0 (reduced 0 b fs).0 (Err Form)
    (Err Form) (ap (λ n. n == 0) (alike_length r.stack)) r.value tt
finished_stays es fs k both_refused = tt

stays : (text : List ℕ) (tokens : List Token) (symbols more : NameMap) (dot : Option ℤ) → Keeps symbols more
    → Stays (value_of text tokens symbols dot) (value_of text tokens more dot)
stays text tokens symbols more dot keeps =
    let k = run_alike text tokens _ _ dot 0 tokens beginning _ keeps (record { stack = both_empty; depth = refl; mode = both_operand 0 }) in
    finished_stays _ _ k.stack k.mode

-- a value that is found stays where names keep theirs
pub value_kept : (text : List ℕ) (tokens : List Token) (symbols more : NameMap) (dot : Option ℤ) (v : ℤ) → Keeps symbols more
    → value_of text tokens symbols dot ≡ Ok v → value_of text tokens more dot ≡ Ok v
value_kept text tokens symbols more dot v keeps e = subst (λ o. Stays o (value_of text tokens more dot)) e
    (stays text tokens symbols more dot keeps)
