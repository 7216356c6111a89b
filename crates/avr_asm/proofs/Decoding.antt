-- The second pass puts each instruction's bytes at its item's address, and keeps them.
use Rattle.std.proofs.Common.{◌≡◌, ◌≢◌, ℕ, ◌+◌, ◌*◌, ◌/◌, ◌%◌, ◌<◌, Bool, true, false, List, [], ◌∷◌, ◌++◌, refl, sym, ◌∙◌, ap, subst}
use Rattle.std.proofs.Common.{arith, Option, None, Some, Result, Ok, Err, is_some}
use Rattle.std.specs.FinMap as map
use Rattle.std.specs.FinMap.{gets}
use Rattle.std.specs.List.{AllByRecursion}
use Rattle.std.proofs.lemmas.Bool.Decides.{nat_tests}
use Rattle.avr_table.specs.declared.Instr.{Instr}
use Rattle.avr_text.specs.declared.tokens.Token.{Token}
use Rattle.avr_text.specs.Names.{NameMap}
use Rattle.avr_asm.specs.declared.directives.Directive.{Directive}
use Rattle.avr_asm.specs.declared.directives.Directive.TheVariants as directive
use Rattle.avr_asm.specs.declared.errors.AsmError.{AsmError}
use Rattle.avr_text.specs.declared.errors.AsmWhy.TheVariants as why
use Rattle.avr_asm.specs.declared.lines.Action.{Action}
use Rattle.avr_asm.specs.declared.lines.Action.TheVariants as action
use Rattle.avr_asm.specs.declared.output.Placed.{Placed}
use Rattle.avr_asm.specs.Emission.{Flash, put, instruction_bytes}
use Rattle.avr_text.specs.Faults.{OrFault, ◌>>=◌}
use Rattle.avr_asm.specs.Hints.{hint_of, mapped}
use Rattle.avr_asm.specs.Layout.{is_instruction, is_instruction_in, is_instruction_line}
use Rattle.avr_asm.specs.Lines.{content_of}
use Rattle.avr_asm.specs.Assembly.{Output, at_line, output_from}
use Rattle.avr_asm.specs.Relation.{item_of, hint_list}
use Rattle.avr_asm.specs.LineOutputs.{LineOutput, no_output, instruction_output, data_output, hint_output, directive_output, action_output}
use Rattle.avr_asm.specs.LineOutputs.{tokens_output, line_output}
use Rattle.avr_asm.proofs.OutcomeLemmas.{ok_same, bound, made}
use Rattle.avr_asm.proofs.LinePuts.{with_output, line_put}

-- bytes stand in an image from an address on
abbrev pub Holds : Flash → ℕ → List ℕ → Type 0
Holds image at [] = Unit {0}
Holds image at (b ∷ bs) = (at < 65536) × (map.get image at ≡ Some b) × Holds image (at + 1) bs

-- what is there stays
abbrev pub Keeps : Flash → Flash → Type 0
Keeps old new = (q v : ℕ) → map.get old q ≡ Some v → map.get new q ≡ Some v

holds_kept : (old new : Flash) (at : ℕ) (bytes : List ℕ) → Keeps old new → Holds old at bytes → Holds new at bytes
holds_kept old new at [] keeps h = tt
holds_kept old new at (b ∷ bs) keeps h = (h.0, keeps at b h.1, holds_kept old new (at + 1) bs keeps h.2)

inserted : (old : Flash) (at b q v : ℕ) → is_some (map.get old at) ≡ false → map.get old q ≡ Some v → map.get (map.insert old at b) q ≡ Some
    v
inserted old at b q v free there =
    let apart : q ≢ at = λ e. let no : true ≡ false = sym (ap is_some (sym (ap (map.get old) e) ∙ there)) ∙ free in cc in
    let same : map.get (map.insert old at b) q ≡ map.get old q = grind (arith, gets, nat_tests) in
    same ∙ there

insert_holds : (old : Flash) (at b : ℕ) → map.get (map.insert old at b) at ≡ Some b
insert_holds old at b = let e : at ≡ at = refl in grind (arith, gets, nat_tests)

pub put_holds : (at : ℕ) (bytes : List ℕ) (old new : Flash) → put at bytes old ≡ Ok new → Keeps old new × Holds new at bytes
put_holds at [] old new e = let same : old ≡ new = ok_same old new e in (λ q v h. subst (λ m. map.get m q ≡ Some v) same h, tt)
put_holds at (b ∷ bs) old new e =
    grind (arith, nat_tests, put_holds (at + 1) bs (map.insert old at b) new, inserted old at b, insert_holds old at b)

-- what a line puts out with an instruction are the instruction's bytes, and the line is an instruction's
abbrev pub IsOfInstruction : Bool → LineOutput → Type 0
IsOfInstruction is o = (i : Instr) → o.instruction ≡ Some i → (o.bytes ≡ instruction_bytes i) × (is ≡ true)

no_instruction : {X : Type 0} (is : Bool) (x : OrFault X) (f : X → LineOutput) (o : LineOutput) → ((v : X) → (f v).instruction ≡ None)
    → mapped x f ≡ Ok o → IsOfInstruction is o
no_instruction is x f o none e i some = grind (arith, nat_tests, made x f o e)

directive_has_none : (d : Directive) (is : Bool) (line : List ℕ) (symbols : NameMap) (after : ℕ) (parts : List (List Token))
    (o : LineOutput) → directive_output d line symbols after parts ≡ Ok o → IsOfInstruction is o
directive_has_none directive.Db is line symbols after parts o e = no_instruction _ _ data_output _ (λ v. refl) e
directive_has_none directive.Dw is line symbols after parts o e = no_instruction _ _ data_output _ (λ v. refl) e
directive_has_none directive.Org is line symbols after parts o e = no_instruction is (hint_of directive.Org line symbols parts after)
    hint_output o (λ v. refl) e
directive_has_none directive.Equ is line symbols after parts o e = no_instruction is (hint_of directive.Equ line symbols parts after)
    hint_output o (λ v. refl) e
directive_has_none directive.Start is line symbols after parts o e = no_instruction _ _ hint_output _ (λ v. refl) e
directive_has_none directive.Lines is line symbols after parts o e = no_instruction _ _ hint_output _ (λ v. refl) e
directive_has_none directive.Half is line symbols after parts o e = no_instruction _ _ hint_output _ (λ v. refl) e
directive_has_none directive.Stack is line symbols after parts o e = no_instruction _ _ hint_output _ (λ v. refl) e
directive_has_none directive.Cell is line symbols after parts o e = no_instruction _ _ hint_output _ (λ v. refl) e
directive_has_none directive.Fact is line symbols after parts o e = no_instruction _ _ hint_output _ (λ v. refl) e

nothing_out : (is : Bool) (o : LineOutput) → ◌≡◌ {A = OrFault LineOutput} (Ok no_output) (Ok o) → IsOfInstruction is o
nothing_out is o e i some = grind (arith, nat_tests, ok_same)

action_of_instruction : (a : Action) (line : List ℕ) (symbols : NameMap) (address after : ℕ) (parts : List (List Token)) (o : LineOutput)
    → action_output a line symbols address after parts ≡ Ok o → IsOfInstruction (is_instruction a) o
action_of_instruction (action.Directive d) line symbols address after parts o e = directive_has_none d false line symbols after parts o e
action_of_instruction (action.Instruction mnemonic) line symbols address after parts o e = λ i some.
    let it = made _ instruction_output _ e in
    let same : Some it.0 ≡ Some i = ap (λ (p : LineOutput). p.instruction) it.2 ∙ some in
    let is : it.0 ≡ i = cc in
    (sym (ap (λ (p : LineOutput). p.bytes) it.2) ∙ ap instruction_bytes is, refl)
action_of_instruction other line symbols address after parts o e = nothing_out false o e

pub line_of_instruction : (line : List ℕ) (symbols : NameMap) (address after : ℕ) (o : LineOutput) → line_output symbols address after
    line ≡ Ok o → IsOfInstruction (is_instruction_line line) o
unfolding line_output is_instruction_line
line_of_instruction line symbols address after o e = by_case (content_of line) e
  where
    by_case : (c : OrFault (List Token)) → (c >>= tokens_output line symbols address after) ≡ Ok o → IsOfInstruction
        (is_instruction_in line c) o
    by_case (Ok tokens) e' = action_of_instruction _ _ _ _ _ _ _ e'
    by_case (Err fault) e' = absurd cc

-- each item's bytes stand at its address
abbrev pub ItemHolds : Flash → Placed → Type 0
ItemHolds image item = Holds image (2 * item.at) (instruction_bytes item.instr)

each_kept : (old new : Flash) (items : List Placed) → Keeps old new → AllByRecursion (ItemHolds old) items → AllByRecursion (ItemHolds new)
    items
each_kept old new [] keeps h = tt
each_kept old new (item ∷ items) keeps h = (
  holds_kept old new (2 * item.at) (instruction_bytes item.instr) keeps h.0,
  each_kept old new
      items keeps h.1,
)

each_more : (image : Flash) (items : List Placed) (item : Placed) → AllByRecursion (ItemHolds image) items → ItemHolds image item
    → AllByRecursion (ItemHolds image) (items ++ item ∷ [])
each_more image [] item h g = (g, tt)
each_more image (x ∷ items) item h g = (h.0, each_more image items item h.1 g)

each_same : (image : Flash) (items : List Placed) → AllByRecursion (ItemHolds image) items → AllByRecursion (ItemHolds image) (items ++ [])
each_same image [] h = tt
each_same image (x ∷ items) h = (h.0, each_same image items h.1)

-- one more line
line_holds : (k address : ℕ) (is : Bool) (out next : Output) (o : LineOutput) → IsOfInstruction is o → (is ≡ true → address % 2 ≡ 0)
    → with_output k address out o ≡ Ok next
    → AllByRecursion (ItemHolds out.image) out.items → AllByRecursion (ItemHolds next.image) next.items
line_holds k address is out next o of_instruction even e h =
    let it = made (put address o.bytes out.image) (λ image. record {
      image = image;
      items = out.items ++ item_of k address o.instruction;
      hints = out.hints ++ hint_list o.hint;
    }) next e in
    let holds = put_holds address o.bytes out.image it.0 it.1 in
    subst (λ (n : Output). AllByRecursion (ItemHolds n.image) n.items) it.2
    (by_case it.0 holds.1 o.instruction refl (each_kept out.image it.0 out.items holds.0 h))
  where
    by_case : (image : Flash) → Holds image address o.bytes → (some : Option Instr) → o.instruction ≡ some → AllByRecursion
        (ItemHolds image) out.items → AllByRecursion (ItemHolds image) (out.items ++ item_of k address some)
    by_case image here None e' h' = each_same image out.items h'
    by_case image here (Some i) e' h' =
        let it = of_instruction i e' in
        let at : 2 * (address / 2) ≡ address = omega (arith, even it.1) in
        each_more image out.items (record { at = address / 2; line = k; instr = i }) h' (subst (λ a. Holds image a (instruction_bytes i))
        (sym at) (subst (Holds image address) it.0 here))

-- instruction lines stand at even addresses
abbrev pub EachEven : List (List ℕ) → List ℕ → Type 0
EachEven (line ∷ lines) (a ∷ addresses) = (is_instruction_line line ≡ true → a % 2 ≡ 0) × EachEven lines addresses
EachEven lines addresses = Unit {0}

pub at_line_ok : (k : ℕ) (o : OrFault Output) (f : Output → Result Output AsmError) (last : Output) → at_line k o f ≡ Ok last
    → (next : Output) × (o ≡ Ok next) × (f next ≡ Ok last)
at_line_ok k (Ok next) f last e = (next, refl, e)
at_line_ok k (Err fault) f last e = absurd cc

pub items_hold : (k : ℕ) (symbols : NameMap) (out last : Output) (lines : List (List ℕ)) (addresses : List ℕ) → output_from k symbols out
    lines addresses ≡ Ok last → EachEven lines addresses
    → AllByRecursion (ItemHolds out.image) out.items → AllByRecursion (ItemHolds last.image) last.items
unfolding output_from
items_hold k symbols out last [] addresses e even h = subst (λ (n : Output). AllByRecursion (ItemHolds n.image) n.items) (ok_same _ _ e) h
items_hold k symbols out last (line ∷ lines) [] e even h = subst (λ (n : Output). AllByRecursion (ItemHolds n.image) n.items)
    (ok_same out last e) h
items_hold k symbols out last (line ∷ lines) (a ∷ addresses) e even h =
    let it = at_line_ok _ _ (λ next. output_from (k + 1) symbols next lines addresses) _ e in
    let step = bound _ (with_output k a out) _ (sym (line_put _ _ _ _ _ _) ∙ it.1) in
    items_hold (k + 1) symbols it.0 last lines addresses it.2 even.1 (line_holds _ _ _ _ _ _ (line_of_instruction _ _ _ _ _
    step.1) even.0 step.2 h)
