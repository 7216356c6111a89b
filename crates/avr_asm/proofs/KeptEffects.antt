-- What a line does to addresses and names stays so where more names have values.
use Rattle.std.proofs.Common.{◌≡◌, ℕ, Bool, List, [], ◌∷◌, ◌++◌, sym, ◌∙◌, ap, arith, Option, None, Some, Ok, Err, ℤ, pos, nat_cmp}
use Rattle.std.specs.Cmp.Lexicographic.{slice_cmp, nat_list_cmp_total}
use Rattle.std.specs.FinMap.{get, find, from_entries, get-from_entries}
use Rattle.avr_text.specs.declared.tokens.Token.{Token}
use Rattle.avr_text.specs.Arithmetic as text
use Rattle.avr_text.specs.Names.{NameMap, Keeps}
use Rattle.avr_text.specs.Reading.{value_of}
use Rattle.avr_asm.specs.declared.directives.Directive.{Directive}
use Rattle.avr_asm.specs.declared.directives.Directive.TheVariants as directive
use Rattle.avr_asm.specs.declared.first_pass.Effect.{Effect}
use Rattle.avr_asm.specs.declared.lines.Action.{Action}
use Rattle.avr_asm.specs.declared.lines.Action.TheVariants as action
use Rattle.avr_asm.specs.Layout.{org_effect, equ_effect, directive_effect, effect_of, effect_in, arguments_in}
use Rattle.avr_asm.specs.Lines.{body_of, action_of, parts_of}
use Rattle.avr_text.specs.Operands.{line_fault, expression, number}
use Rattle.avr_asm.proofs.OutcomeLemmas.{ok_same}
use Rattle.std.proofs.lemmas.Bool.Decides.{nat_tests}

abbrev pub ValuesStay : Type 0
ValuesStay = (text : List ℕ) (tokens : List Token) (symbols more : NameMap) (dot : Option ℤ) (v : ℤ) → Keeps symbols more → value_of text
    tokens symbols dot ≡ Ok v → value_of text tokens more dot ≡ Ok v

module _ (stay : ValuesStay) (symbols more : NameMap) (keeps : Keeps symbols more) where
  no_fault : (o : text.ValueOrWhy) (v : ℤ) → line_fault o ≡ Ok v → o ≡ Ok v
  no_fault (Ok x) v e = ap Ok (ok_same x v e)
  no_fault (Err why) v e = absurd cc

  expression_stays : (line : List ℕ) (dot : Option ℤ) (tokens : List Token) (v : ℤ) → expression line symbols dot tokens ≡ Ok v
      → expression line more dot tokens ≡ Ok v
  expression_stays line dot tokens v e = cc (stay line tokens symbols more dot v keeps (no_fault (value_of line tokens symbols dot) v e))

  number_stays : (low high : ℤ) (line : List ℕ) (tokens : List Token) (v : ℤ) → number low high line symbols tokens ≡ Ok v → number low high
      line more tokens ≡ Ok v
  number_stays low high line tokens v e = grind (arith, nat_tests, expression_stays line None tokens)

  org_stays : (line : List ℕ) (parts : List (List Token)) (effect : Effect) → org_effect line symbols parts ≡ Ok effect → org_effect line
      more parts ≡ Ok effect
  org_stays line (p ∷ []) effect e = grind (arith, nat_tests, number_stays (pos 0) (pos 65536) line p)
  org_stays line other effect e = e

  equ_stays : (line : List ℕ) (arguments : List Token) (effect : Effect) → equ_effect line symbols arguments ≡ Ok effect → equ_effect line
      more arguments ≡ Ok effect
  equ_stays line (n ∷ m ∷ rest) effect e = grind (arith, nat_tests, expression_stays line None rest)
  equ_stays line other effect e = e

  directive_stays : (d : Directive) (line : List ℕ) (arguments : List Token) (parts : List (List Token)) (follows : Bool) (effect : Effect)
      → directive_effect d line symbols arguments parts follows ≡ Ok effect → directive_effect d line more arguments parts follows ≡ Ok
      effect
  directive_stays directive.Org line arguments parts follows effect e = org_stays line parts effect e
  directive_stays directive.Equ line arguments parts follows effect e = equ_stays line arguments effect e
  directive_stays other line arguments parts follows effect e = e

  action_stays : (a : Action) (line : List ℕ) (arguments : List Token) (parts : List (List Token)) (follows : Bool) (effect : Effect)
      → effect_of a line symbols arguments parts follows ≡ Ok effect → effect_of a line more arguments parts follows ≡ Ok effect
  action_stays (action.Directive d) line arguments parts follows effect e = directive_stays d line arguments parts follows effect e
  action_stays other line arguments parts follows effect e = e

  pub effect_stays : (line : List ℕ) (follows : Bool) (tokens : List Token) (effect : Effect) → effect_in line symbols follows tokens ≡ Ok
      effect → effect_in line more follows tokens ≡ Ok effect
  unfolding effect_in
  effect_stays line follows tokens effect e = action_stays (action_of line (body_of tokens)) line (arguments_in line tokens)
      (parts_of (arguments_in line tokens)) follows effect e

-- names in front of others keep their values
found_first : (q : List ℕ) (v : ℤ) (xs ys : List (List ℕ × ℤ)) → find (slice_cmp nat_cmp) q xs ≡ Some v → find (slice_cmp nat_cmp) q
    (xs ++ ys) ≡ Some v
found_first q v [] ys e = absurd cc
found_first q v (x ∷ xs) ys e = grind (arith, nat_tests, found_first q v xs ys)

pub front_kept : (xs ys : List (List ℕ × ℤ)) (m : NameMap) → m ≡ from_entries (xs ++ ys) → Keeps (from_entries xs) m
front_kept xs ys m is name v e =
    ap (λ n. get n name) is ∙ get-from_entries nat_list_cmp_total (xs ++ ys) name ∙ found_first name v xs ys
    (sym (get-from_entries nat_list_cmp_total xs name) ∙ e)
