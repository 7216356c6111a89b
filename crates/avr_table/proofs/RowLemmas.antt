-- Facts on the rows of the table.
use Rattle.std.proofs.Common.{◌≡◌, ℕ, zero, suc, List, [], ◌∷◌, map, get_or, codes, refl, sym, ◌∙◌, ap}
use Rattle.avr_table.specs.declared.Instr.{Instr}
use Rattle.avr_table.specs.declared.Instr.TheVariants.{Nop}
use Rattle.avr_table.specs.declared.facts.RowFacts.{RowFacts}
use Rattle.avr_table.specs.Places.{place_of, names}
use Rattle.avr_table.specs.RowFacts.{row_facts}
use Rattle.avr_table.specs.Rows.{name_of}

pub facts_at : {i j : Instr} {t : RowFacts} → i ≡ j → t ≡ row_facts j → t ≡ row_facts i
facts_at e h = h ∙ ap row_facts (sym e)

named_there : (i : Instr) → get_or names (place_of i) "" ≡ name_of i
named_there Nop = refl
named_there i = refl

-- what is made of the element at a place
pub of_place : {A B : Type 0} (make : A → B) (xs : List A) (n : ℕ) (other : A)
    → make (get_or xs n other) ≡ get_or (map make xs) n (make other)
of_place make [] n other = refl
of_place make (x ∷ xs) zero other = refl
of_place make (x ∷ xs) (suc n) other = of_place make xs n other

-- the name of a row, by the place that the program keeps
pub name_kept : (i : Instr) (facts : RowFacts) → facts ≡ row_facts i → get_or (map codes names) facts.place [] ≡ codes (name_of i)
name_kept i facts is =
    ap (λ f. get_or (map codes names) f.place []) is ∙ sym (of_place codes names (place_of i) "") ∙ ap codes (named_there i)
