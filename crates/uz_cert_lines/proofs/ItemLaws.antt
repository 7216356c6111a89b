-- Items are taken one after another, or one of them is the first faulty one, and reading them says which.
use Rattle.std.proofs.Common.{◌≡◌, inl, inr, ℕ, Bool, true, false, List, [], ◌∷◌, refl, sym, ◌∙◌, ap}
use Rattle.std.specs.Prelude.{Result, Ok, Err}
use Rattle.uz_schedule.specs.declared.header.Cell.{Cell}
use Rattle.uz_cert_lines.specs.Items.{first_facts, take_item, items_end, items_from, read_items}
use Rattle.uz_cert_lines.proofs.Steps.{bind_ok, bind_err, refusal}
use Rattle.uz_cert_lines.specs.{Why.◌>>=◌, Grammar.Words, declared.items.Shape.Shape, declared.items.Facts.Facts}
use Rattle.uz_cert_lines.specs.{declared.why.CertWhy.CertWhy, FirstFault.ItemsSay, FirstFault.ItemsFail}
use Rattle.uz_cert_lines.specs.declared.why.CertWhy.TheVariants as why

end_says : (ended : Bool) (facts said : Facts) → items_end ended facts ≡ Ok said → (ended ≡ true) × (said ≡ facts)
end_says true facts said e = let same : facts ≡ said = cc in (refl, sym same)
end_says false facts said e = absurd cc

end_fails : (ended : Bool) (facts : Facts) (w : CertWhy) → items_end ended facts ≡ Err w → (ended ≡ false) × (w ≡ why.NoEnd)
end_fails true facts w e = absurd cc
end_fails false facts w e = let same : why.NoEnd ≡ w = cc in (refl, sym same)

from_says : (shape : Shape) (cells : List Cell) (ended : Bool) (facts : Facts) (list : List (List ℕ)) (said : Facts)
    → items_from shape cells ended facts list ≡ Ok said → ItemsSay shape cells ended facts list said
from_says shape cells ended facts [] said e = end_says ended facts said e
from_says shape cells ended facts (w ∷ ws) said e =
    let m = bind_ok (take_item shape cells facts w ws) (λ more. items_from shape cells ended more ws) said e in
    (m.0, m.1, from_says shape cells ended m.0 ws said m.2)

says_from : (shape : Shape) (cells : List Cell) (ended : Bool) (facts : Facts) (list : List (List ℕ)) (said : Facts)
    → ItemsSay shape cells ended facts list said → items_from shape cells ended facts list ≡ Ok said
says_from shape cells ended facts [] said h = ap (λ t. items_end t facts) h.0 ∙ ap ok_facts (sym h.1)
  where
    ok_facts : Facts → Result Facts CertWhy
    ok_facts f = Ok f
says_from shape cells ended facts (w ∷ ws) said h =
    ap (λ m. m >>= (λ more. items_from shape cells ended more ws)) h.1 ∙ says_from shape cells ended h.0 ws said h.2

from_fails : (shape : Shape) (cells : List Cell) (ended : Bool) (facts : Facts) (list : List (List ℕ)) (v : CertWhy)
    → items_from shape cells ended facts list ≡ Err v → ItemsFail shape cells ended facts list v
from_fails shape cells ended facts [] v e = end_fails ended facts v e
from_fails shape cells ended facts (w ∷ ws) v e =
    elim (bind_err (take_item shape cells facts w ws) (λ more. items_from shape cells ended more ws) v e) [
      | inl m ↦ inl m
      | inr m ↦ inr (m.0, m.1, from_fails shape cells ended m.0 ws v m.2)
    ]

fails_from : (shape : Shape) (cells : List Cell) (ended : Bool) (facts : Facts) (list : List (List ℕ)) (v : CertWhy)
    → ItemsFail shape cells ended facts list v → items_from shape cells ended facts list ≡ Err v
fails_from shape cells ended facts [] v h = ap (λ t. items_end t facts) h.0 ∙ ap (refusal Facts) (sym h.1)
fails_from shape cells ended facts (w ∷ ws) v h =
    elim h [
      | inl m ↦ ap (λ m. m >>= (λ more. items_from shape cells ended more ws)) m
      | inr m ↦ ap (λ m. m >>= (λ more. items_from shape cells ended more ws)) m.1 ∙ fails_from shape cells ended m.0 ws v m.2
    ]

pub items_say : (shape : Shape) (cells : List Cell) (words : Words) (said : Facts)
    → read_items shape cells words ≡ Ok said → ItemsSay shape cells words.ended (first_facts shape.kind cells) words.list said
unfolding read_items
items_say shape cells words said e = from_says shape cells words.ended (first_facts shape.kind cells) words.list said e

pub say_items : (shape : Shape) (cells : List Cell) (words : Words) (said : Facts)
    → ItemsSay shape cells words.ended (first_facts shape.kind cells) words.list said → read_items shape cells words ≡ Ok said
unfolding read_items
say_items shape cells words said h = says_from shape cells words.ended (first_facts shape.kind cells) words.list said h

pub items_fail : (shape : Shape) (cells : List Cell) (words : Words) (v : CertWhy)
    → read_items shape cells words ≡ Err v → ItemsFail shape cells words.ended (first_facts shape.kind cells) words.list v
unfolding read_items
items_fail shape cells words v e = from_fails shape cells words.ended (first_facts shape.kind cells) words.list v e

pub fail_items : (shape : Shape) (cells : List Cell) (words : Words) (v : CertWhy)
    → ItemsFail shape cells words.ended (first_facts shape.kind cells) words.list v → read_items shape cells words ≡ Err v
unfolding read_items
fail_items shape cells words v h = fails_from shape cells words.ended (first_facts shape.kind cells) words.list v h
