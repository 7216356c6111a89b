-- A line that the first pass laid out: its tokens, what it does, and the place after it.
use Rattle.std.proofs.Common.{◌≡◌, ℕ, ◌+◌, ◌*◌, ◌%◌, Bool, true, List, [], ◌∷◌, refl, sym, ◌∙◌, ap, subst, arith}
use Rattle.std.specs.Prelude.{Option, None, Some, Result, Ok, Err, pos}
use Rattle.std.specs.List.{list_any}
use Rattle.std.proofs.lemmas.Bool.Decides.{nat_tests}
use Rattle.avr_text.specs.declared.tokens.Token.{Token}
use Rattle.avr_text.specs.Names.{NameMap}
use Rattle.avr_asm.specs.declared.errors.AsmError.{AsmError}
use Rattle.avr_text.specs.declared.errors.AsmWhy.TheVariants as why
use Rattle.avr_asm.specs.declared.first_pass.Effect.{Effect}
use Rattle.avr_asm.specs.declared.first_pass.Effect.TheVariants.{Define, Take}
use Rattle.avr_asm.specs.declared.layout.Place.{Place}
use Rattle.avr_asm.specs.declared.lines.Action.{Action}
use Rattle.avr_asm.specs.declared.lines.Action.TheVariants as action
use Rattle.avr_text.specs.Faults.{OrFault, ◌>>=◌}
use Rattle.avr_asm.specs.Layout.{Layout, with_symbols, defined, labelled, named, at_address, address_after, applied, arguments_in}
use Rattle.avr_asm.specs.Layout.{effect_of, effect_in, after_line, is_instruction, is_instruction_in, is_instruction_line, with_address}
use Rattle.avr_asm.specs.Layout.{at_line, layout_from}
use Rattle.avr_asm.specs.Lines.{content_of, label_of, body_of, action_of, first_text}
use Rattle.avr_text.specs.Mnemonics.{words_of}
use Rattle.avr_asm.proofs.OutcomeLemmas.{ok_same, bound}
use Rattle.avr_asm.proofs.Decoding.{EachEven}

pub record LaidLine (follows : Bool) (line : List ℕ) (place next : Place) : Type 0 where
  pub tokens : List Token
  pub is_content : content_of line ≡ Ok tokens
  pub effect : Effect
  pub is_effect : effect_in line place.symbols follows tokens ≡ Ok effect
  pub first : Place
  pub is_labelled : labelled (label_of line tokens) place ≡ Ok first
  pub first_at : first.address ≡ place.address
  pub second : Place
  pub is_named : named effect (first_text line (arguments_in line tokens)) first ≡ Ok second
  pub second_at : second.address ≡ place.address
  pub is_placed : address_after effect place.address ≡ Ok next.address
  pub has_symbols : next.symbols ≡ second.symbols

with_symbols_keeps : (address : ℕ) (o : OrFault NameMap) (next : Place) → with_symbols address o ≡ Ok next → next.address ≡ address
with_symbols_keeps address (Ok symbols) next e = let same : record { address = address; symbols = symbols } ≡ next =
    ok_same (record { address = address; symbols = symbols }) next e in sym (ap (λ (p : Place). p.address) same)
with_symbols_keeps address (Err fault) next e = absurd cc

pub label_keeps : (label : Option (List ℕ)) (place next : Place) → labelled label place ≡ Ok next → next.address ≡ place.address
label_keeps None place next e = let same : place ≡ next = ok_same place next e in sym (ap (λ (p : Place). p.address) same)
label_keeps (Some name) place next e = with_symbols_keeps place.address (defined name (pos place.address) place.symbols) next e

pub name_keeps : (effect : Effect) (name : List ℕ) (place next : Place) → named effect name place ≡ Ok next → next.address ≡ place.address
name_keeps (Define value) name place next e = with_symbols_keeps place.address (defined name value place.symbols) next e
name_keeps other name place next e = let same : place ≡ next = ok_same place next e in sym (ap (λ (p : Place). p.address) same)

at_address_ok : (symbols : NameMap) (o : OrFault ℕ) (next : Place) → at_address symbols o ≡ Ok next → (o ≡ Ok next.address)
    × (next.symbols ≡ symbols)
at_address_ok symbols (Ok address) next e =
    let same : record { address = address; symbols = symbols } ≡ next = ok_same (record { address = address; symbols = symbols }) next e in
    (ap (λ (p : Place). Ok p.address) same, sym (ap (λ (p : Place). p.symbols) same))
at_address_ok symbols (Err fault) next e = absurd cc

pub laid_line : (follows : Bool) (line : List ℕ) (place next : Place) → after_line follows line place ≡ Ok next → LaidLine follows line
    place next
unfolding after_line applied
laid_line follows line place next e =
    let name : List Token → List ℕ = λ tokens. first_text line (arguments_in line tokens) in
    let t = bound _ (λ tokens. effect_in line place.symbols follows tokens >>=
    (λ effect. applied (label_of line tokens) (first_text line (arguments_in line tokens)) effect place)) _ e in
    let f = bound _ (λ effect. applied (label_of line t.0) (first_text line (arguments_in line t.0)) effect place) _ t.2 in
    let a = bound _ (λ first. named f.0 (first_text line (arguments_in line t.0)) first >>=
    (λ second. at_address second.symbols (address_after f.0 second.address))) _ f.2 in
    let b = bound _ (λ second. at_address second.symbols (address_after f.0 second.address)) _ a.2 in
    let c = at_address_ok _ _ _ b.2 in
    let first_at = label_keeps (label_of line t.0) place _ a.1 in
    let second_at = name_keeps f.0 (first_text line (arguments_in line t.0)) a.0 _ b.1 ∙ first_at in
    record {
      tokens = t.0;
      is_content = t.1;
      effect = f.0;
      is_effect = f.1;
      first = a.0;
      is_labelled = a.1;
      first_at = first_at;
      second = b.0;
      is_named = b.1;
      second_at = second_at;
      is_placed = ap (address_after f.0) (sym second_at) ∙ c.0;
      has_symbols = c.1;
    }

-- what the layout of some lines is made of
pub record LaidLines (k : ℕ) (place : Place) (line : List ℕ) (lines : List (List ℕ)) (layout : Layout) : Type 0 where
  pub next : Place
  pub here : LaidLine (list_any is_instruction_line lines) line place next
  pub rest : Layout
  pub is_rest : layout_from (k + 1) next lines ≡ Ok rest
  pub addresses : layout.addresses ≡ place.address ∷ rest.addresses
  pub symbols : layout.symbols ≡ rest.symbols

at_line_laid : (k : ℕ) (o : OrFault Place) (f : Place → Result Layout AsmError) (layout : Layout) → at_line k o f ≡ Ok layout
    → (next : Place) × (o ≡ Ok next) × (f next ≡ Ok layout)
at_line_laid k (Ok next) f layout e = (next, refl, e)
at_line_laid k (Err fault) f layout e = absurd cc

with_address_ok : (address : ℕ) (o : Result Layout AsmError) (layout : Layout) → with_address address o ≡ Ok layout → (rest : Layout)
    × (o ≡ Ok rest) × (record { addresses = address ∷ rest.addresses; symbols = rest.symbols } ≡ layout)
with_address_ok address (Ok rest) layout e = (
  rest,
  refl,
  ok_same _ _ e,
)
with_address_ok address (Err fault) layout e = absurd cc

pub laid_lines : (k : ℕ) (place : Place) (line : List ℕ) (lines : List (List ℕ)) (layout : Layout) → layout_from k place (line ∷ lines) ≡ Ok
    layout → LaidLines k place line lines layout
unfolding layout_from
laid_lines k place line lines layout e =
    let here = at_line_laid _ _ (λ next. with_address place.address (layout_from (k + 1) next lines)) _ e in
    let rest = with_address_ok _ _ _ here.2 in
    record {
      next = here.0;
      here = laid_line _ _ _ _ here.1;
      rest = rest.0;
      is_rest = rest.1;
      addresses = sym (ap (λ (l : Layout). l.addresses) rest.2);
      symbols = sym (ap (λ (l : Layout). l.symbols) rest.2);
    }

pub no_lines : (k : ℕ) (place : Place) (layout : Layout) → layout_from k place [] ≡ Ok layout
    → record { addresses = []; symbols = place.symbols } ≡ layout
unfolding layout_from
no_lines k place layout e = ok_same (record { addresses = []; symbols = place.symbols }) layout e

-- an instruction's line takes room at an even address
takes_even : (a : Action) (line : List ℕ) (symbols : NameMap) (arguments : List Token) (parts : List (List Token)) (follows : Bool)
    (effect : Effect)
    → is_instruction a ≡ true → effect_of a line symbols arguments parts follows ≡ Ok effect → (n : ℕ) × (Take n true ≡ effect)
takes_even (action.Instruction m) line symbols arguments parts follows effect is e = (2 * words_of m, ok_same _ _ e)
takes_even other line symbols arguments parts follows effect is e = absurd cc

even_placed : (n address next : ℕ) → address_after (Take n true) address ≡ Ok next → address % 2 ≡ 0
even_placed n address next e = grind (arith, nat_tests)

even_here : (follows : Bool) (line : List ℕ) (place next : Place) → LaidLine follows line place next → is_instruction_line line ≡ true
    → place.address % 2 ≡ 0
unfolding is_instruction_line effect_in
even_here follows line place next l is =
    let here : is_instruction (action_of line (body_of l.tokens)) ≡ true = sym (ap (is_instruction_in line) l.is_content) ∙ is in
    let takes = takes_even _ _ _ _ _ _ _ here l.is_effect in
    even_placed _ _ _ (ap (λ effect. address_after effect place.address) takes.1 ∙ l.is_placed)

pub each_even : (k : ℕ) (place : Place) (lines : List (List ℕ)) (layout : Layout) → layout_from k place lines ≡ Ok layout → EachEven lines
    layout.addresses
each_even k place [] layout e = tt
each_even k place (line ∷ lines) layout e =
    let l = laid_lines k place line lines layout e in
    subst (EachEven (line ∷ lines)) (sym l.addresses) (
      even_here (list_any is_instruction_line lines) line place l.next l.here,
      each_even (k + 1) l.next lines l.rest l.is_rest,
    )
