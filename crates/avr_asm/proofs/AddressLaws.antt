-- Where statements end: the last `.org` plus the lengths after it.
use Rattle.std.proofs.Common.{◌≡◌, ℕ, ◌+◌, false, List, [], ◌∷◌, ◌++◌, length, refl, arith}
use Rattle.std.specs.List.{AllByRecursion}
use Rattle.std.proofs.lemmas.List.Elements.{recursion_from_All}
use Rattle.avr_asm.specs.declared.first_pass.Effect.{Effect}
use Rattle.avr_asm.specs.declared.first_pass.Effect.TheVariants.{Move}
use Rattle.avr_asm.specs.Relation.{Statement, end_by, end_of, is_origin, HaveNoOrigin, length_of}
use Rattle.std.proofs.lemmas.Bool.Decides.{nat_tests}

further_on : (effect : Effect) (address : ℕ) (bytes : List ℕ) → is_origin effect ≡ false → end_by effect address bytes ≡ address + length
    bytes
further_on (Move to) address bytes e = absurd cc
further_on other address bytes e = refl

by_lengths : (address : ℕ) (ss : List Statement) → AllByRecursion (λ s. is_origin s.effect ≡ false) ss → end_of address
    ss ≡ address + length_of ss
by_lengths address [] h = omega arith
by_lengths address (s ∷ ss) h =
    grind (arith, nat_tests, further_on s.effect address s.output.bytes h.0, by_lengths (address + length s.output.bytes) ss h.1)

end_append : (address : ℕ) (xs ys : List Statement) → end_of address (xs ++ ys) ≡ end_of (end_of address xs) ys
end_append address [] ys = refl
end_append address (x ∷ xs) ys = end_append (end_by x.effect address x.output.bytes) xs ys

pub from_start : (between : List Statement) → HaveNoOrigin between → end_of 0 between ≡ length_of between
from_start between h = grind (arith, nat_tests, by_lengths 0 between, recursion_from_All)

pub from_origin : (before between : List Statement) (origin : Statement) (to : ℕ) → origin.effect ≡ Move to → HaveNoOrigin between
    → end_of 0 (before ++ origin ∷ between) ≡ to + length_of between
from_origin before between origin to is h =
    cc (end_append 0 before (origin ∷ between), by_lengths to between (recursion_from_All (λ s. is_origin s.effect ≡ false) between h))
