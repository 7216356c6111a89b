-- A source has no more hints than bytes.
use Rattle.std.proofs.Common.{◌≡◌, ◌∙◌, sym, ap, refl, arith, ℕ, suc, ◌<◌, ◌≤◌, ◌^◌, Bool, true, false, cond, List, [], ◌∷◌, length}
use Rattle.std.proofs.Common.{length-append, map}
use Rattle.std.specs.Prelude.{Option, Some, None}
use Rattle.avr_asm.specs.declared.output.Built.{Built}
use Rattle.avr_asm.specs.declared.output.Hint.{Hint}
use Rattle.avr_asm.specs.Assembly.{seen_built}
use Rattle.avr_asm.specs.Lines.{lines_of, onto_first, goes_on}
use Rattle.avr_asm.specs.Relation.{IsAssembly, Statement, hints_of, hint_list}

one_hint : (o : Option Hint) → length (hint_list o) ≤ 1
one_hint None = omega arith
one_hint (Some h) = omega arith

few_of : (statements : List Statement) → length (hints_of statements) ≤ length statements
few_of [] = omega arith
few_of (s ∷ statements) =
    let rest = few_of statements in
    let one = one_hint s.output.hint in
    let sum = length-append (hint_list s.output.hint) (hints_of statements) in
    omega arith

length_map : {A B : Type 0} (f : A → B) (xs : List A) → length (map f xs) ≡ length xs
length_map f [] = refl
length_map f (x ∷ xs) = ap suc (length_map f xs)

onto_few : (b : ℕ) (lines : List (List ℕ)) → length (onto_first b lines) ≤ suc (length lines)
onto_few b [] = omega arith
onto_few b (line ∷ lines) = omega arith

few_lines : (text : List ℕ) → length (lines_of text) ≤ length text
few_lines [] = omega arith
few_lines (b ∷ bs) = by_test (goes_on b) (few_lines bs) (onto_few b (lines_of bs))
  where
    by_test : (t : Bool) → length (lines_of bs) ≤ length bs → length (onto_first b (lines_of bs)) ≤ suc (length (lines_of bs))
        → length (cond t (onto_first b (lines_of bs)) ((b ∷ []) ∷ lines_of bs)) ≤ suc (length bs)
    by_test true h k = omega arith
    by_test false h k = omega arith

pub few_hints : (text : List ℕ) (built : Built) → length text ≤ 1048576 → IsAssembly text (seen_built built) → length built.hints.items < 2
    ^ 32
few_hints text built short is =
    let hints = ap length is.hints in
    let few = few_of is.statements in
    let lines : length is.statements ≡ length (lines_of text) = sym (length_map (λ s. s.source) is.statements) ∙ ap length is.sources in
    let bytes = few_lines text in
    omega arith
