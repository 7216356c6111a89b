-- One more line is put out.
use Rattle.std.proofs.Common.{◌≡◌, ℕ, zero, suc, ◌+◌, ◌/◌, ◌<◌, ◌≤◌, Bool, true, false, cond, List, [], ◌∷◌, ◌++◌, Bor, length, get_or}
use Rattle.std.proofs.Common.{drop, map, refl, ap, add-one, drop-cons, arith, Option, Ok, Err}
use Rattle.std.proofs.lemmas.List.{drop_all}
use Rattle.avr_table.specs.declared.Instr.{Instr}
use Rattle.avr_text.specs.declared.tokens.Token.{Token}
use Rattle.avr_text.specs.Names.{NameMap}
use Rattle.avr_text.specs.declared.errors.AsmWhy.{AsmWhy}
use Rattle.avr_text.specs.declared.mnemonics.Mnemonic.{Mnemonic}
use Rattle.avr_asm.specs.declared.lines.Action.{Action}
use Rattle.avr_asm.specs.declared.lines.Action.TheVariants as action
use Rattle.avr_text.specs.Faults.{◌>>=◌}
use Rattle.avr_asm.specs.declared.directives.Directive.{Directive}
use Rattle.avr_asm.specs.declared.directives.Directive.TheVariants as directive
use Rattle.avr_asm.specs.declared.output.Hint.{Hint}
use Rattle.avr_asm.specs.declared.output.Placed.{Placed}
use Rattle.avr_asm.specs.Emission.{Flash, put, instruction_bytes}
use Rattle.avr_asm.specs.Hints.{hint_of}
use Rattle.avr_asm.specs.Layout.{is_instruction_line}
use Rattle.avr_asm.specs.Lines.{content_of, body_of, action_of, arguments_of, parts_of}
use Rattle.avr_asm.specs.Assembly.{Output, following, at_line, output_from, with_line, with_action, with_directive, with_hint}
use Rattle.avr_asm.specs.Assembly.{with_instruction}
use Rattle.std.proofs.lemmas.Bool.Decides.{nat_tests}

line_here : (ls : List (Bor (List ℕ))) (i : ℕ) (d : Bor (List ℕ)) → i < length ls → get_or (map (λ l. l.now) ls) i [] ≡ (get_or ls i d).now
line_here [] i d h = absurd (omega arith)
line_here (l ∷ ls) zero d h = refl
line_here (l ∷ ls) (suc i) d h = line_here ls i d (omega arith)

pub lines_len : (ls : List (Bor (List ℕ))) → length (map (λ l. l.now) ls) ≡ length ls
lines_len [] = refl
lines_len (l ∷ ls) = ap suc (lines_len ls)

pub cut_lines : (ls : List (Bor (List ℕ))) (i : ℕ) (d : Bor (List ℕ)) → i < length ls → drop i (map (λ l. l.now) ls) ≡ (get_or ls i d).now
    ∷ drop (i + 1) (map (λ l. l.now) ls)
cut_lines ls i d h = grind (arith, nat_tests, lines_len ls, add-one, drop-cons, line_here ls i d h)

pub cut_addresses : (xs : List ℕ) (i : ℕ) → i < length xs → drop i xs ≡ get_or xs i 0 ∷ drop (i + 1) xs
cut_addresses xs i h = rw (add-one, drop-cons xs i 0 h) refl

follow_here : (ls : List (Bor (List ℕ))) (xs : List ℕ) (i : ℕ) (d : Bor (List ℕ)) → i < length ls → i < length xs
    → following (drop i (map (λ l. l.now) ls)) (drop i xs) ≡ cond (is_instruction_line (get_or ls i d).now) (get_or xs i 0 / 2)
    (following (drop (i + 1) (map (λ l. l.now) ls)) (drop (i + 1) xs))
follow_here ls xs i d h k = cc (cut_lines ls i d h, cut_addresses xs i k)

-- an instruction's line
pub follow_one : (ls : List (Bor (List ℕ))) (xs : List ℕ) (i : ℕ) (d : Bor (List ℕ)) (b : Bool) → i < length ls → length xs ≡ length ls
    → b ≡ is_instruction_line (get_or ls i d).now → b ≡ true
    → following (drop i (map (λ l. l.now) ls)) (drop i xs) ≡ get_or xs i 0 / 2
follow_one ls xs i d b h same is here = cc (follow_here ls xs i d h (omega arith))

-- another line
pub follow_more : (ls : List (Bor (List ℕ))) (xs : List ℕ) (i : ℕ) (d : Bor (List ℕ)) (b : Bool) → i < length ls → length xs ≡ length ls
    → b ≡ is_instruction_line (get_or ls i d).now → b ≡ false
    → following (drop i (map (λ l. l.now) ls)) (drop i xs) ≡ following (drop (i + 1) (map (λ l. l.now) ls)) (drop (i + 1) xs)
follow_more ls xs i d b h same is here = cc (follow_here ls xs i d h (omega arith))

output_here : (k : ℕ) (symbols : NameMap) (out : Output) (ls : List (Bor (List ℕ))) (xs : List ℕ) (i : ℕ) (d : Bor (List ℕ)) → i < length ls
    → i < length xs
    → output_from k symbols out (drop i (map (λ l. l.now) ls)) (drop i xs)
    ≡ at_line k (with_line (get_or ls i d).now symbols k (get_or xs i 0) (following (drop (i + 1) (map (λ l. l.now) ls)) (drop (i + 1) xs))
    out)
    (λ next. output_from (k + 1) symbols next (drop (i + 1) (map (λ l. l.now) ls)) (drop (i + 1) xs))
unfolding output_from
output_here k symbols out ls xs i d h j = cc (cut_lines ls i d h, cut_addresses xs i j)

-- a line that is put out
pub output_more : (symbols : NameMap) (out next : Output) (ls : List (Bor (List ℕ))) (xs : List ℕ) (i : ℕ) (d : Bor (List ℕ)) (f : ℕ)
    → i < length ls → length xs ≡ length ls
    → f ≡ following (drop (i + 1) (map (λ l. l.now) ls)) (drop (i + 1) xs) → with_line (get_or ls i d).now symbols (i + 1) (get_or xs i 0) f
    out ≡ Ok next
    → output_from (i + 1 + 1) symbols next (drop (i + 1) (map (λ l. l.now) ls)) (drop (i + 1) xs) ≡ output_from (i + 1) symbols out
    (drop i (map (λ l. l.now) ls)) (drop i xs)
output_more symbols out next ls xs i d f h same is_f is_next =
    grind (arith, nat_tests, output_here (i + 1) symbols out ls xs i d h (omega arith))

-- a line with a fault
pub output_fault : (symbols : NameMap) (out : Output) (ls : List (Bor (List ℕ))) (xs : List ℕ) (i : ℕ) (d : Bor (List ℕ)) (f : ℕ)
    (why : AsmWhy) → i < length ls → length xs ≡ length ls
    → f ≡ following (drop (i + 1) (map (λ l. l.now) ls)) (drop (i + 1) xs) → with_line (get_or ls i d).now symbols (i + 1) (get_or xs i 0) f
    out ≡ Err why
    → output_from (i + 1) symbols out (drop i (map (λ l. l.now) ls)) (drop i xs) ≡ Err (record { line = i + 1; why = why })
output_fault symbols out ls xs i d f why h same is_f is_fault =
    grind (arith, nat_tests, output_here (i + 1) symbols out ls xs i d h (omega arith))

-- no line is left
pub output_end : (k : ℕ) (symbols : NameMap) (out : Output) (ls : List (Bor (List ℕ))) (xs : List ℕ) (i : ℕ) → length ls ≤ i → output_from k
    symbols out (drop i (map (λ l. l.now) ls)) (drop i xs) ≡ Ok out
unfolding output_from
output_end k symbols out ls xs i h = cc (drop_all i (map (λ (l : Bor (List ℕ)). l.now) ls) (omega (arith, lines_len ls)))

-- a directive that puts out no data puts out its hint, where it is one
no_data : (d : Directive) (line : List ℕ) (symbols : NameMap) (address next : ℕ) (parts : List (List Token)) (out : Output)
    → (d ≡ directive.Db → ⊥) → (d ≡ directive.Dw → ⊥)
    → with_directive d line symbols address next parts out ≡ (hint_of d line symbols parts next >>= with_hint out)
no_data directive.Db line symbols address next parts out h k = absurd (h refl)
no_data directive.Dw line symbols address next parts out h k = absurd (k refl)
no_data other line symbols address next parts out h k = refl

pub hint_put : (d : Directive) (line : List ℕ) (symbols : NameMap) (address next : ℕ) (parts : List (List Token)) (out after : Output)
    (found hint : Option Hint) → (d ≡ directive.Db → ⊥) → (d ≡ directive.Dw → ⊥) → Ok found ≡ hint_of d line symbols parts next
    → found ≡ hint → with_hint out hint ≡ Ok after → with_directive d line symbols address next parts out ≡ Ok after
hint_put d line symbols address next parts out after found hint h k found_is is put = cc (no_data d line symbols address next parts out h k)

-- a line of neither an instruction nor a directive puts out nothing
pub no_output : (a : Action) (line : List ℕ) (symbols : NameMap) (k address next : ℕ) (parts : List (List Token)) (out : Output)
    → ((m : Mnemonic) → a ≡ action.Instruction m → ⊥) → ((d : Directive) → a ≡ action.Directive d → ⊥)
    → with_action a line symbols k address next parts out ≡ Ok out
no_output (action.Instruction m) line symbols k address next parts out h j = absurd (h m refl)
no_output (action.Directive d) line symbols k address next parts out h j = absurd (j d refl)
no_output other line symbols k address next parts out h j = refl

-- a line's tokens and what they do give what it puts out
pub line_told : (line : List ℕ) (symbols : NameMap) (k address next : ℕ) (out : Output) (tokens lent body arguments : List Token)
    (action : Action) (parts : List (List Token)) → content_of line ≡ Ok tokens → lent ≡ tokens → body ≡ body_of lent
    → action ≡ action_of line body → arguments ≡ arguments_of action body → parts ≡ parts_of arguments
    → with_action action line symbols k address next parts out ≡ with_line line symbols k address next out
unfolding with_line
line_told line symbols k address next out tokens lent body arguments action parts content is body_is action_is arguments_are parts_are = cc

-- an instruction's bytes and its place
pub instruction_put : (k address : ℕ) (out : Output) (instr : Instr) (bytes sent : List ℕ) (image : Flash) (items : List Placed)
    → bytes ≡ instruction_bytes instr → sent ≡ bytes → put address sent out.image ≡ Ok image
    → items ≡ out.items ++ record { at = address / 2; line = k; instr = instr } ∷ []
    → with_instruction k address out instr ≡ Ok (record { image = image; items = items; hints = out.hints })
unfolding with_instruction
instruction_put k address out instr bytes sent image items bytes_are sent_are put_is items_are =
    let item : Placed = record { at = address / 2; line = k; instr = instr } in
    cc
