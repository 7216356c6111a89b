-- What the first pass over a line says: it is laid out and has no fault, or has one of least number.
use Rattle.std.proofs.Common.{◌≡◌, ℕ, ◌+◌, ◌%◌, ◌<◌, ◌≤◌, ◌⊎◌, Bool, true, false, cond, List, [], ◌∷◌, nat_lt, refl, sym, ◌∙◌, ap, subst}
use Rattle.std.proofs.Common.{inl, inr, arith, Option, None, Some, Ok, Err, is_some, ℤ, pos}
use Rattle.std.specs.Ordering.{nat_cmp, eq_by_cmp}
use Rattle.std.specs.Cmp.Lexicographic.{slice_cmp, nat_list_cmp_total}
use Rattle.std.specs.FinMap.{nat_cmp-IsAntisymmetric, slice_cmp-IsAntisymmetric, get, insert, get-insert}
use Rattle.std.proofs.lemmas.Bool.Decides.{nat_tests}
use Rattle.std.proofs.lemmas.Cmp.{eq_by_cmp_equiv}
use Rattle.avr_text.specs.declared.tokens.Token.{Token}
use Rattle.avr_text.specs.declared.values.ValueWhy.TheVariants as value_why
use Rattle.avr_text.specs.Arithmetic as text
use Rattle.avr_text.specs.Names.{NameMap}
use Rattle.avr_text.specs.Reading.{value_of}
use Rattle.avr_text.specs.declared.errors.AsmWhy.{AsmWhy}
use Rattle.avr_text.specs.declared.errors.AsmWhy.TheVariants as why
use Rattle.avr_text.specs.Faults.{OrFault, ◌>>=◌, number_of}
use Rattle.avr_text.specs.Operands.{expression, number, line_fault, within}
use Rattle.avr_asm.specs.declared.directives.Directive.TheVariants as directive
use Rattle.avr_asm.specs.declared.first_pass.Effect.{Effect}
use Rattle.avr_asm.specs.declared.first_pass.Effect.TheVariants.{Define, Take, Wrong}
use Rattle.avr_asm.specs.declared.layout.Place.{Place}
use Rattle.avr_asm.specs.declared.lines.Action.{Action}
use Rattle.avr_asm.specs.declared.lines.Action.TheVariants as action
use Rattle.avr_asm.specs.FirstFault.{IsLeast, OrgFault, EquFault, ValueFault, LacksValue, IsTaken, DefinesTaken, InFirstPass}
use Rattle.avr_asm.specs.Layout.{is_reserved, defined, moved, set, org_effect, equ_effect, effect_of, effect_in, address_after}
use Rattle.avr_asm.specs.Layout.{with_symbols, labelled, named, at_address, applied, arguments_in, after_line}
use Rattle.avr_asm.specs.Lines.{content_of, label_of, body_of, action_of, parts_of, first_text}
use Rattle.avr_asm.proofs.EntryLists.{same_key}
use Rattle.avr_asm.proofs.LaidLines.{label_keeps, name_keeps}
use Rattle.avr_asm.proofs.OutcomeLemmas.{ok_same}

pub err_same : {X : Type 0} (v w : AsmWhy) → ◌≡◌ {A = OrFault X} (Err v) (Err w) → v ≡ w
err_same v w e = cc

pub unbound : {X Y : Type 0} (o : OrFault X) (f : X → OrFault Y) (w : AsmWhy) → (o >>= f) ≡ Err w → (o ≡ Err w)
    ⊎ ((x : X) × (o ≡ Ok x) × (f x ≡ Err w))
unbound {X} {Y} (Ok x) f w e = inr (x, refl, e)
unbound {X} {Y} (Err v) f w e = inl (ap (λ u. Err u) (err_same {X = Y} v w e))

-- ---- the values of `.org` and `.equ`

abbrev pub IsValueWhy : AsmWhy → Type 0
IsValueWhy why.Operand = Unit {0}
IsValueWhy why.Range = Unit {0}
IsValueWhy why.Symbol = Unit {0}
IsValueWhy other = ⊥

moved_err : (o : OrFault ℤ) (w : AsmWhy) → moved o ≡ Err w → o ≡ Err w
moved_err (Ok to) w e = absurd cc
moved_err (Err v) w e = ap (λ u. Err u) (err_same {X = Effect} v w e)

set_err : (o : OrFault ℤ) (w : AsmWhy) → set o ≡ Err w → o ≡ Err w
set_err (Ok to) w e = absurd cc
set_err (Err v) w e = ap (λ u. Err u) (err_same {X = Effect} v w e)

org_fault : (line : List ℕ) (symbols : NameMap) (parts : List (List Token)) (w : AsmWhy) → org_effect line symbols parts ≡ Err w
    → OrgFault line symbols parts w
org_fault line symbols (p ∷ []) w e = moved_err (number (pos 0) (pos 65536) line symbols p) w e
org_fault line symbols other w e = absurd cc

fault_org : (line : List ℕ) (symbols : NameMap) (parts : List (List Token)) (w : AsmWhy) → OrgFault line symbols parts w → org_effect line
    symbols parts ≡ Err w
fault_org line symbols (p ∷ []) w f = ap moved f
fault_org line symbols other w f = absurd f

equ_fault : (line : List ℕ) (symbols : NameMap) (arguments : List Token) (w : AsmWhy) → equ_effect line symbols arguments ≡ Err w
    → EquFault line symbols arguments w
equ_fault line symbols (n ∷ q ∷ rest) w e = grind (arith, nat_tests, set_err (expression line symbols None rest) w)
equ_fault line symbols other w e = absurd cc

fault_equ : (line : List ℕ) (symbols : NameMap) (arguments : List Token) (w : AsmWhy) → EquFault line symbols arguments w → equ_effect line
    symbols arguments ≡ Err w
fault_equ line symbols (n ∷ q ∷ rest) w f = cc (f.0, f.1, f.2)
fault_equ line symbols other w f = absurd f

-- why a line has no effect
abbrev NoEffect : Action → List ℕ → NameMap → List Token → AsmWhy → Type 0
NoEffect a line symbols arguments w = ((a ≡ action.Unknown) × (w ≡ why.Mnemonic)) ⊎ ValueFault a line symbols arguments w

no_effect : (a : Action) (line : List ℕ) (symbols : NameMap) (arguments : List Token) (follows : Bool) (w : AsmWhy)
    → effect_of a line symbols arguments (parts_of arguments) follows ≡ Err w → NoEffect a line symbols arguments w
no_effect action.Unknown line symbols arguments follows w e = inl (refl, sym (err_same {X = Effect} why.Mnemonic w e))
no_effect (action.Directive directive.Org) line symbols arguments follows w e = inr (org_fault line symbols (parts_of arguments) w e)
no_effect (action.Directive directive.Equ) line symbols arguments follows w e = inr (equ_fault line symbols arguments w e)
no_effect other line symbols arguments follows w e = absurd cc

value_effect : (a : Action) (line : List ℕ) (symbols : NameMap) (arguments : List Token) (follows : Bool) (w : AsmWhy)
    → ValueFault a line symbols arguments w → effect_of a line symbols arguments (parts_of arguments) follows ≡ Err w
value_effect (action.Directive directive.Org) line symbols arguments follows w f = fault_org line symbols (parts_of arguments) w f
value_effect (action.Directive directive.Equ) line symbols arguments follows w f = fault_equ line symbols arguments w f
value_effect other line symbols arguments follows w f = absurd f

-- which whys an expression has
expression_why : (o : text.ValueOrWhy) (w : AsmWhy) → line_fault o ≡ Err w → IsValueWhy w
expression_why (Ok x) w e = absurd cc
expression_why (Err value_why.Form) w e = subst IsValueWhy (err_same {X = ℤ} why.Operand w e) tt
expression_why (Err value_why.Unknown) w e = subst IsValueWhy (err_same {X = ℤ} why.Symbol w e) tt
expression_why other w e = subst IsValueWhy (err_same {X = ℤ} why.Range w e) tt

within_why : (low high : ℤ) (o : OrFault ℤ) (w : AsmWhy) → ((v : AsmWhy) → o ≡ Err v → IsValueWhy v) → within low high o ≡ Err w
    → IsValueWhy w
within_why low high (Err v) w h e = h w e
within_why low high (Ok x) w h e = grind (arith, nat_tests, err_same)

number_why : (low high : ℤ) (line : List ℕ) (symbols : NameMap) (tokens : List Token) (w : AsmWhy) → number low high line symbols
    tokens ≡ Err w → IsValueWhy w
number_why low high line symbols tokens w e = within_why low high (expression line symbols None tokens) w
    (λ v f. expression_why (value_of line tokens symbols None) v f) e

org_why : (line : List ℕ) (symbols : NameMap) (parts : List (List Token)) (w : AsmWhy) → OrgFault line symbols parts w → IsValueWhy w
org_why line symbols (p ∷ []) w f = number_why (pos 0) (pos 65536) line symbols p w f
org_why line symbols other w f = absurd f

equ_why : (line : List ℕ) (symbols : NameMap) (arguments : List Token) (w : AsmWhy) → EquFault line symbols arguments w → IsValueWhy w
equ_why line symbols (n ∷ q ∷ rest) w f = expression_why (value_of line rest symbols None) w f.2
equ_why line symbols other w f = absurd f

fault_why : (a : Action) (line : List ℕ) (symbols : NameMap) (arguments : List Token) (w : AsmWhy) → ValueFault a line symbols arguments w
    → IsValueWhy w
fault_why (action.Directive directive.Org) line symbols arguments w f = org_why line symbols (parts_of arguments) w f
fault_why (action.Directive directive.Equ) line symbols arguments w f = equ_why line symbols arguments w f
fault_why other line symbols arguments w f = absurd f

value_low : (w : AsmWhy) → IsValueWhy w → number_of w ≤ 5
value_low why.Operand h = omega arith
value_low why.Range h = omega arith
value_low why.Symbol h = omega arith
value_low other h = absurd h

value_stands : (follows : Bool) (line : List ℕ) (place : Place) (w : AsmWhy) → IsValueWhy w → LacksValue line place.symbols w
    → InFirstPass follows line place w
value_stands follows line place why.Operand h f = f
value_stands follows line place why.Range h f = f
value_stands follows line place why.Symbol h f = f
value_stands follows line place other h f = absurd h

-- ---- names

some_there : {X : Type 0} (o : Option X) → is_some o ≡ true → (x : X) × (o ≡ Some x)
some_there None e = absurd cc
some_there (Some x) e = (x, refl)

-- a name that can't be defined is refused, and nothing else is
taken_err : (name : List ℕ) (value : ℤ) (symbols : NameMap) → IsTaken symbols name → defined name value symbols ≡ Err why.Twice
taken_err name value symbols (inl reserved) = cc
taken_err name value symbols (inr there) = grind (arith, nat_tests)

err_taken : (name : List ℕ) (value : ℤ) (symbols : NameMap) (w : AsmWhy) → defined name value symbols ≡ Err w → (w ≡ why.Twice)
    × IsTaken symbols name
err_taken name value symbols w e = go (is_reserved name) (is_some (get symbols name)) refl refl e
  where
    go : (r s : Bool) → is_reserved name ≡ r → is_some (get symbols name) ≡ s → cond r (Err why.Twice)
        (cond s (Err why.Twice) (Ok (insert symbols name value))) ≡ Err w → (w ≡ why.Twice) × IsTaken symbols name
    go true s f g e' = (sym (err_same {X = NameMap} why.Twice w e'), inl f)
    go false true f g e' = (sym (err_same {X = NameMap} why.Twice w e'), inr (some_there (get symbols name) g))
    go false false f g e' = absurd cc

new_symbols : (name : List ℕ) (value : ℤ) (symbols next : NameMap) → defined name value symbols ≡ Ok next → insert symbols name value ≡ next
new_symbols name value symbols next e = go (is_reserved name) (is_some (get symbols name)) e
  where
    go : (r s : Bool) → cond r (Err why.Twice) (cond s (Err why.Twice) (Ok (insert symbols name value))) ≡ Ok next → insert symbols name
        value ≡ next
    go true s e' = absurd cc
    go false true e' = absurd cc
    go false false e' = ok_same (insert symbols name value) next e'

-- what is taken once one more name has a value
found : (symbols : NameMap) (name other : List ℕ) (value : ℤ) → get (insert symbols name value) other ≡ cond
    (eq_by_cmp (slice_cmp nat_cmp) other name) (Some value) (get symbols other)
found symbols name other value = get-insert nat_list_cmp_total symbols name value other

taken_more : (symbols : NameMap) (name other : List ℕ) (value : ℤ) → IsTaken symbols other → IsTaken (insert symbols name value) other
taken_more symbols name other value (inl reserved) = inl reserved
taken_more symbols name other value (inr there) = inr (go (eq_by_cmp (slice_cmp nat_cmp) other name) (found symbols name other value))
  where
    go : (t : Bool) → get (insert symbols name value) other ≡ cond t (Some value) (get symbols other) → (x : ℤ)
        × (get (insert symbols name value) other ≡ Some x)
    go true e = (value, e)
    go false e = (there.0, e ∙ there.1)

taken_own : (symbols : NameMap) (name : List ℕ) (value : ℤ) → IsTaken (insert symbols name value) name
taken_own symbols name value = grind (arith, nat_tests, found symbols name name value, eq_by_cmp_equiv nat_list_cmp_total)

taken_back : (symbols : NameMap) (name other : List ℕ) (value : ℤ) → IsTaken (insert symbols name value) other → IsTaken symbols other
    ⊎ (name ≡ other)
taken_back symbols name other value (inl reserved) = inl (inl reserved)
taken_back symbols name other value (inr there) = go (eq_by_cmp (slice_cmp nat_cmp) other name) refl (sym (found symbols name other value)
    ∙ there.1)
  where
    go : (t : Bool) → eq_by_cmp (slice_cmp nat_cmp) other name ≡ t → cond t (Some value) (get symbols other) ≡ Some there.0
        → IsTaken symbols other ⊎ (name ≡ other)
    go true e f = inr (sym (same_key (slice_cmp-IsAntisymmetric nat_cmp-IsAntisymmetric) other name e))
    go false e f = inl (inr (there.0, f))

with_err : (address : ℕ) (o : OrFault NameMap) (w : AsmWhy) → with_symbols address o ≡ Err w → o ≡ Err w
with_err address (Ok symbols) w e = absurd cc
with_err address (Err v) w e = ap (λ u. Err u) (err_same {X = Place} v w e)

with_ok : (address : ℕ) (o : OrFault NameMap) (next : Place) → with_symbols address o ≡ Ok next → o ≡ Ok next.symbols
with_ok address (Ok symbols) next e = ap (λ (p : Place). Ok p.symbols) (ok_same (record { address = address; symbols = symbols }) next e)
with_ok address (Err v) next e = absurd cc

label_err : (label : Option (List ℕ)) (place : Place) (w : AsmWhy) → labelled label place ≡ Err w → (w ≡ why.Twice) × (name : List ℕ)
    × (label ≡ Some name) × IsTaken place.symbols name
label_err None place w e = absurd cc
label_err (Some name) place w e =
    let it = err_taken _ _ _ _ (with_err _ _ _ e) in
    (it.0, name, refl, it.1)

name_err : (effect : Effect) (name : List ℕ) (place : Place) (w : AsmWhy) → named effect name place ≡ Err w → (w ≡ why.Twice) × (value : ℤ)
    × (effect ≡ Define value) × IsTaken place.symbols name
name_err (Define value) name place w e =
    let it = err_taken name value place.symbols w (with_err place.address (defined name value place.symbols) w e) in
    (it.0, value, refl, it.1)
name_err other name place w e = absurd cc

-- a name that is taken after the label was so before, or is the label
past_label : (label : Option (List ℕ)) (place first : Place) (name : List ℕ) → labelled label place ≡ Ok first → IsTaken first.symbols name
    → IsTaken place.symbols name ⊎ (label ≡ Some name)
past_label None place first name e taken = inl (subst (λ (p : Place). IsTaken p.symbols name) (sym (ok_same place first e)) taken)
past_label (Some label) place first name e taken =
    let is = new_symbols _ _ _ _ (with_ok _ _ _ e) in
    elim (taken_back _ _ _ _ (subst (λ m. IsTaken m name) (sym is) taken)) [
      | inl before ↦ inl before
      | inr same ↦ inr (ap (λ n. Some n) same)
    ]

onto_label : (label : Option (List ℕ)) (place first : Place) (name : List ℕ) → labelled label place ≡ Ok first → IsTaken place.symbols name
    ⊎ (label ≡ Some name) → IsTaken first.symbols name
onto_label None place first name e (inl taken) = subst (λ (p : Place). IsTaken p.symbols name) (ok_same place first e) taken
onto_label None place first name e (inr same) = absurd cc
onto_label (Some label) place first name e taken =
    let is = new_symbols label (pos place.address) place.symbols first.symbols
    (with_ok place.address (defined label (pos place.address) place.symbols) first e) in
    subst (λ m. IsTaken m name) is (go taken)
  where
    go : IsTaken place.symbols name ⊎ (Some label ≡ Some name) → IsTaken (insert place.symbols label (pos place.address)) name
    go (inl before) = taken_more place.symbols label name (pos place.address) before
    go (inr same) = let e' : label ≡ name = cc in subst (λ n. IsTaken (insert place.symbols label (pos place.address)) n) e'
        (taken_own place.symbols label (pos place.address))

-- ---- addresses

address_err : (symbols : NameMap) (o : OrFault ℕ) (w : AsmWhy) → at_address symbols o ≡ Err w → o ≡ Err w
address_err symbols (Ok address) w e = absurd cc
address_err symbols (Err v) w e = ap (λ u. Err u) (err_same {X = Place} v w e)

-- why an effect has no place
abbrev pub NoPlace : Effect → ℕ → AsmWhy → Type 0
NoPlace effect address w =
    ((w ≡ why.Past) × (n : ℕ) × (even : Bool) × (effect ≡ Take n even) × (65536 < address + n))
    ⊎ ((w ≡ why.Directive) × ((effect ≡ Wrong) ⊎ ((n : ℕ) × (effect ≡ Take n true) × (address % 2 ≡ 1))))

pub no_place : (effect : Effect) (address : ℕ) (w : AsmWhy) → address_after effect address ≡ Err w → NoPlace effect address w
no_place Wrong address w e = inr (sym (err_same {X = ℕ} why.Directive w e), inl refl)
no_place (Take n even) address w e = grind (arith, nat_tests, err_same)
no_place other address w e = absurd cc

-- ---- the whole line

content_err : (line : List ℕ) (w : AsmWhy) → content_of line ≡ Err w → w ≡ why.Lex
unfolding content_of
content_err line w e = grind (arith, nat_tests, err_same)

effect_err : (follows : Bool) (line : List ℕ) (symbols : NameMap) (tokens : List Token) (w : AsmWhy) → effect_in line symbols follows
    tokens ≡ Err w → NoEffect (action_of line (body_of tokens)) line symbols (arguments_in line tokens) w
unfolding effect_in
effect_err follows line symbols tokens w e = no_effect (action_of line (body_of tokens)) line symbols (arguments_in line tokens) follows w e

-- what is refused is so for a why that stands
pub refused_stands : (follows : Bool) (line : List ℕ) (place : Place) (w : AsmWhy) → after_line follows line place ≡ Err w
    → InFirstPass follows line place w
unfolding after_line applied
refused_stands follows line place w e =
    elim (unbound (content_of line) (λ tokens. effect_in line place.symbols follows tokens >>=
    (λ effect. applied (label_of line tokens) (first_text line (arguments_in line tokens)) effect place)) w e) [
      | inl lex ↦ subst (InFirstPass follows line place) (sym (content_err line w lex)) (lex ∙ ap (λ u. Err u) (content_err line w lex))
      | inr t ↦ with_tokens t.0 t.1 t.2
    ]
  where
    of_address : (tokens : List Token) (effect : Effect) → content_of line ≡ Ok tokens → effect_in line place.symbols follows tokens ≡ Ok
        effect → NoPlace effect place.address w → InFirstPass follows line place w
    of_address tokens effect is does (inl past) = subst (InFirstPass follows line place) (sym past.0)
        (tokens, is, (past.1, past.2, does ∙ ap (λ f. Ok f) past.3, past.4))
    of_address tokens effect is does (inr (is_w, inl wrong)) = subst (InFirstPass follows line place) (sym is_w)
        (tokens, is, inl (does ∙ ap (λ f. Ok f) wrong))
    of_address tokens effect is does (inr (is_w, inr odd)) = subst (InFirstPass follows line place) (sym is_w)
        (tokens, is, inr (odd.0, does ∙ ap (λ f. Ok f) odd.1, odd.2))

    with_effect : (tokens : List Token) (effect : Effect) → content_of line ≡ Ok tokens → effect_in line place.symbols follows tokens ≡ Ok
        effect
        → applied (label_of line tokens) (first_text line (arguments_in line tokens)) effect place ≡ Err w → InFirstPass follows line place
        w
    with_effect tokens effect is does e' =
        let name = first_text line (arguments_in line tokens) in
        elim (unbound (labelled (label_of line tokens) place)
        (λ first. named effect name first >>= (λ second. at_address second.symbols (address_after effect second.address))) w e') [
          | inl l ↦
              let it = label_err (label_of line tokens) place w l in
              subst (InFirstPass follows line place) (sym it.0) (tokens, is, inl (it.1, it.2, it.3))
          | inr f ↦ elim (unbound (named effect name f.0) (λ second. at_address second.symbols
              (address_after effect second.address)) w f.2) [
                | inl n ↦
                    let it = name_err effect name f.0 w n in
                    subst (InFirstPass follows line place) (sym it.0)
                    (tokens, is, inr (it.1, does ∙ ap (λ g. Ok g) it.2, past_label (label_of line tokens) place f.0 name f.1 it.3))
                | inr s ↦
                    let at = name_keeps effect name f.0 s.0 s.1 ∙ label_keeps (label_of line tokens) place f.0 f.1 in
                    of_address tokens effect is does
                    (subst (λ a. NoPlace effect a w) at
                    (no_place effect s.0.address w (address_err s.0.symbols (address_after effect s.0.address) w s.2)))
              ]
        ]

    with_tokens : (tokens : List Token) → content_of line ≡ Ok tokens
        → (effect_in line place.symbols follows tokens >>=
        (λ effect. applied (label_of line tokens) (first_text line (arguments_in line tokens)) effect place)) ≡ Err w
        → InFirstPass follows line place w
    with_tokens tokens is e' =
        elim (unbound (effect_in line place.symbols follows tokens)
        (λ effect. applied (label_of line tokens) (first_text line (arguments_in line tokens)) effect place) w e') [
          | inl none ↦ elim (effect_err follows line place.symbols tokens w none) [
            | inl unknown ↦ subst (InFirstPass follows line place) (sym unknown.1) (tokens, is, unknown.0)
            | inr value ↦ value_stands follows line place w (fault_why (action_of line (body_of tokens)) line place.symbols
                (arguments_in line tokens) w value) (tokens, is, value)
          ]
          | inr f ↦ with_effect tokens f.0 is f.1 f.2
        ]

-- where a why stands the line is refused, for that one or one of a lesser number
abbrev pub Tells : {X : Type 0} → OrFault X → AsmWhy → Type 0
Tells (Ok x) w = ⊥
Tells (Err v) w = number_of v ≤ number_of w

tells_bound : {X Y : Type 0} (o : OrFault X) (f : X → OrFault Y) (w : AsmWhy) → ((v : AsmWhy) → o ≡ Err v → number_of v ≤ number_of w)
    → ((x : X) → o ≡ Ok x → Tells (f x) w) → Tells (o >>= f) w
tells_bound (Ok x) f w a b = b x refl
tells_bound (Err v) f w a b = a v refl

tells_is : {X : Type 0} (o : OrFault X) (w : AsmWhy) → o ≡ Err w → Tells o w
tells_is {X} o w e = subst (λ (p : OrFault X). Tells p w) (sym e) (omega arith)

effect_low : (follows : Bool) (line : List ℕ) (symbols : NameMap) (tokens : List Token) (w : AsmWhy) → effect_in line symbols follows
    tokens ≡ Err w → number_of w ≤ 5
effect_low follows line symbols tokens w e = elim (effect_err follows line symbols tokens w e) [
  | inl unknown ↦ subst (λ v. number_of v ≤ 5) (sym unknown.1) (omega arith)
  | inr value ↦ value_low w (fault_why (action_of line (body_of tokens)) line symbols (arguments_in line tokens) w value)
]

label_six : (label : Option (List ℕ)) (place : Place) (w : AsmWhy) → labelled label place ≡ Err w → number_of w ≤ 6
label_six label place w e = subst (λ v. number_of v ≤ 6) (sym (label_err label place w e).0) (omega arith)

name_six : (effect : Effect) (name : List ℕ) (place : Place) (w : AsmWhy) → named effect name place ≡ Err w → number_of w ≤ 6
name_six effect name place w e = subst (λ v. number_of v ≤ 6) (sym (name_err effect name place w e).0) (omega arith)

-- a fault of the address
address_told : (effect : Effect) (symbols : NameMap) (address : ℕ) (w : AsmWhy) → Tells (address_after effect address) w
    → Tells (at_address symbols (address_after effect address)) w
address_told effect symbols address w h = grind (arith, nat_tests)

past_told : (n : ℕ) (even : Bool) (address : ℕ) → 65536 < address + n → address_after (Take n even) address ≡ Err why.Past
past_told n even address h = let past : nat_lt 65536 (address + n) ≡ true = grind (arith, nat_tests) in cc

odd_told : (n address : ℕ) → address % 2 ≡ 1 → Tells (address_after (Take n true) address) why.Directive
odd_told n address odd = grind (arith, nat_tests)

module _ (follows : Bool) (line : List ℕ) (place : Place) where
  -- a line that can be cut into tokens
  cut_told : (tokens : List Token) (w : AsmWhy) → content_of line ≡ Ok tokens
      → Tells (effect_in line place.symbols follows tokens >>=
      (λ effect. applied (label_of line tokens) (first_text line (arguments_in line tokens)) effect place)) w
      → Tells (after_line follows line place) w
  unfolding after_line
  cut_told tokens w is h = grind (arith, nat_tests)

  effect_told : (tokens : List Token) (w : AsmWhy) → content_of line ≡ Ok tokens → effect_in line place.symbols follows tokens ≡ Err w
      → Tells (after_line follows line place) w
  effect_told tokens w is e = grind (arith, nat_tests, cut_told tokens w is, tells_is)

  value_told : (w : AsmWhy) → LacksValue line place.symbols w → Tells (after_line follows line place) w
  unfolding effect_in
  value_told w (tokens, is, value) = effect_told tokens w is (value_effect (action_of line (body_of tokens)) line place.symbols
      (arguments_in line tokens) follows w value)

  -- a line whose effect is known
  effect_is : (tokens : List Token) (effect : Effect) (w : AsmWhy) → content_of line ≡ Ok tokens → effect_in line place.symbols follows
      tokens ≡ Ok effect
      → Tells (applied (label_of line tokens) (first_text line (arguments_in line tokens)) effect place) w
      → Tells (after_line follows line place) w
  effect_is tokens effect w is does h = grind (arith, nat_tests, cut_told tokens w is)

  -- past the label and the name
  names_passed : (label : Option (List ℕ)) (name : List ℕ) (effect : Effect) (w : AsmWhy) → 6 ≤ number_of w
      → Tells (address_after effect place.address) w → Tells (applied label name effect place) w
  unfolding applied
  names_passed label name effect w low h =
      tells_bound _ (λ first. named effect name first >>= (λ second. at_address second.symbols (address_after effect second.address))) _
      (λ v e. let six = label_six label place _ e in omega arith)
      (λ first e. tells_bound _ (λ second. at_address second.symbols (address_after effect second.address)) _
      (λ v f. let six = name_six effect name first _ f in omega arith) (λ second f. address_told effect second.symbols second.address w
      (subst (λ a. Tells (address_after effect a) w) (sym (name_keeps effect name first _ f ∙ label_keeps label place _ e)) h)))

  twice_told : (tokens : List Token) → content_of line ≡ Ok tokens → DefinesTaken follows line place tokens
      → Tells (after_line follows line place) why.Twice
  unfolding applied
  twice_told tokens is (inl (name, label, taken)) =
      cut_told _ _ is (tells_bound _ (λ effect. applied (label_of line tokens) (first_text line (arguments_in line tokens)) effect place) _
      (λ v e. let five = effect_low _ _ _ _ _ e in omega arith) (λ effect e. tells_is _ _
      (ap (λ (o : OrFault Place). o >>= (λ first. named effect (first_text line (arguments_in line tokens)) first >>=
      (λ second. at_address second.symbols (address_after effect second.address))))
      (ap (λ l. labelled l place) label ∙ ap (with_symbols place.address) (taken_err _ _ _ taken)))))
  twice_told tokens is (inr (value, does, taken)) =
      let name = first_text line (arguments_in line tokens) in
      effect_is _ _ _ is does (tells_bound _
      (λ first. named (Define value) name first >>= (λ second. at_address second.symbols (address_after (Define value) second.address))) _
      (λ v e. label_six (label_of line tokens) place _ e) (λ first e. tells_is _ _
      (ap (λ (o : OrFault Place). o >>= (λ second. at_address second.symbols (address_after (Define value) second.address)))
      (ap (with_symbols first.address) (taken_err _ _ _ (onto_label _ _ _ _ e taken))))))

  pub stands_told : (w : AsmWhy) → InFirstPass follows line place w → Tells (after_line follows line place) w
  unfolding after_line effect_in
  stands_told why.Lex lex = grind (arith, nat_tests, tells_is (after_line follows line place) why.Lex)
  stands_told why.Mnemonic (tokens, is, unknown) = grind (arith, nat_tests, effect_told tokens why.Mnemonic is)
  stands_told why.Operand value = value_told why.Operand value
  stands_told why.Range value = value_told why.Range value
  stands_told why.Symbol value = value_told why.Symbol value
  stands_told why.Twice (tokens, is, taken) = twice_told tokens is taken
  stands_told why.Past (tokens, is, (n, even, does, past)) =
      effect_is _ _ _ is does (names_passed _ _ _ _ (omega arith) (tells_is _ _ (past_told _ _ _ past)))
  stands_told why.Directive (tokens, is, inl wrong) =
      effect_is _ _ _ is wrong (names_passed _ _ Wrong why.Directive (omega arith)
      (tells_is (address_after Wrong place.address) why.Directive refl))
  stands_told why.Directive (tokens, is, inr (n, does, odd)) =
      effect_is _ _ _ is does (names_passed _ _ _ _ (omega arith) (odd_told _ _ odd))
  stands_told other h = absurd h

  -- what the first pass makes of a line: no why stands, or the least one is told
  pub sound_line : (next : Place) → after_line follows line place ≡ Ok next → (w : AsmWhy) → ¬ InFirstPass follows line place w
  sound_line next e w h = subst (λ (o : OrFault Place). Tells o w) e (stands_told w h)

  pub least_line : (w : AsmWhy) → after_line follows line place ≡ Err w → IsLeast (InFirstPass follows line place) w
  least_line w e = record {
    stands = refused_stands _ _ _ _ e;
    least = λ v h. subst (λ (o : OrFault Place). Tells o v) e (stands_told _ h);
  }
