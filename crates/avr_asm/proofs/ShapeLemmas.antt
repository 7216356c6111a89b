-- What a directive wants of its operands, by their places.
use Rattle.std.proofs.Common.{◌≡◌, ℕ, Bool, true, false, ◌||◌, List, [], ◌∷◌, Bor, length, get_or, map, sym, ◌∙◌, ap, refl, arith, codes}
use Rattle.avr_text.specs.declared.tokens.Token.{Token}
use Rattle.avr_asm.specs.Layout.{is_word, is_start, is_cell}

-- a start is of main or alone
pub main_start : (line : List ℕ) (parts : List (Bor (List Token))) (d : Bor (List Token)) (main : Bool) → length parts ≡ 2
    → main ≡ is_word (codes "main") line (get_or parts 0 d).now → main ≡ true → main ≡ is_start line (map (λ p. p.now) parts)
main_start line (w ∷ at ∷ []) d main len is here = here ∙ ap (λ b. b || is_word (codes "alone") line w.now) (sym here ∙ is)
main_start line other d main len is here = absurd (omega arith)

pub other_start : (line : List ℕ) (parts : List (Bor (List Token))) (d e : Bor (List Token)) (main alone : Bool) → length parts ≡ 2
    → main ≡ is_word (codes "main") line (get_or parts 0 d).now → main ≡ false
    → alone ≡ is_word (codes "alone") line (get_or parts 0 e).now → alone ≡ is_start line (map (λ p. p.now) parts)
other_start line (w ∷ at ∷ []) d e main alone len is other alone_is = cc
other_start line rest d e main alone len is other alone_is = absurd (omega arith)

pub no_start : (line : List ℕ) (parts : List (Bor (List Token))) → (length parts ≡ 2 → ⊥) → false ≡ is_start line (map (λ p. p.now) parts)
no_start line (p ∷ q ∷ []) h = absurd (h refl)
no_start line other h = refl

-- a cell is of main with four operands, or of the handler with five
pub main_cell : (line : List ℕ) (parts : List (Bor (List Token))) (d : Bor (List Token)) (main : Bool) → length parts ≡ 4
    → main ≡ is_word (codes "main") line (get_or parts 1 d).now → main ≡ is_cell line (map (λ p. p.now) parts)
main_cell line (p ∷ q ∷ r ∷ s ∷ []) d main len is = is
main_cell line other d main len is = absurd (omega arith)

pub handler_cell : (line : List ℕ) (parts : List (Bor (List Token))) (d : Bor (List Token)) (handler : Bool) → length parts ≡ 5
    → handler ≡ is_word (codes "handler") line (get_or parts 1 d).now → handler ≡ is_cell line (map (λ p. p.now) parts)
handler_cell line (p ∷ q ∷ r ∷ s ∷ t ∷ []) d handler len is = is
handler_cell line other d handler len is = absurd (omega arith)

pub no_cell : (line : List ℕ) (parts : List (Bor (List Token))) → (length parts ≡ 4 → ⊥) → (length parts ≡ 5 → ⊥)
    → false ≡ is_cell line (map (λ p. p.now) parts)
no_cell line (p ∷ q ∷ r ∷ s ∷ []) h k = absurd (h refl)
no_cell line (p ∷ q ∷ r ∷ s ∷ t ∷ []) h k = absurd (k refl)
no_cell line other h k = refl
