-- A text that is cut is put together again, and one that is put together is cut.
use Rattle.std.proofs.Common.{◌≡◌, ℕ, Bool, true, false, cond, eqb, List, [], ◌∷◌, ◌++◌, refl, sym, ◌∙◌, ap, subst, arith}
use Rattle.std.proofs.lemmas.Bool.Decides.{nat_tests}
use Rattle.std.specs.Prelude.{Option, Some, None}
use Rattle.std.proofs.lemmas.Bool.{eqb-true}
use Rattle.std.proofs.lemmas.List.Elements.{All-head, All-tail}
use Rattle.uz_hex.specs.Cutting.{cut_at, cut_behind}
use Rattle.uz_hex.proofs.Plain.{Lacks}

behind_some : (b : ℕ) (o : Option (List ℕ × List ℕ)) (p : List ℕ × List ℕ) → cut_behind (b ∷ []) o ≡ Some p → (q : List ℕ × List ℕ)
    × (o ≡ Some q) × (p ≡ (b ∷ q.0, q.1))
behind_some b None p e = absurd cc
behind_some b (Some q) p e = (q, refl, cc)

cut_read_step : (c b : ℕ) (bs : List ℕ) (p : List ℕ × List ℕ) → ((q : List ℕ × List ℕ) → cut_at c bs ≡ Some q → bs ≡ q.0 ++ c ∷ q.1)
    → (t : Bool) → eqb b c ≡ t → cond t (Some ([], bs)) (cut_behind (b ∷ []) (cut_at c bs)) ≡ Some p → b ∷ bs ≡ p.0 ++ c ∷ p.1
cut_read_step c b bs p later true f e =
    let is : ◌≡◌ {A = List ℕ × List ℕ} ([], bs) p = cc in
    subst (λ (q : List ℕ × List ℕ). b ∷ bs ≡ q.0 ++ c ∷ q.1) is (ap (λ x. x ∷ bs) (eqb-true b c f))
cut_read_step c b bs p later false f e =
    let more = behind_some b (cut_at c bs) p e in
    subst (λ (q : List ℕ × List ℕ). b ∷ bs ≡ q.0 ++ c ∷ q.1) (sym more.2) (ap (λ xs. b ∷ xs) (later more.0 more.1))

-- what is cut is put together again
pub cut_read : (c : ℕ) (w : List ℕ) (p : List ℕ × List ℕ) → cut_at c w ≡ Some p → w ≡ p.0 ++ c ∷ p.1
cut_read c [] p e = absurd cc
cut_read c (b ∷ bs) p e = cut_read_step c b bs p (λ q f. cut_read c bs q f) (eqb b c) refl e

same_byte : (c : ℕ) → eqb c c ≡ true
same_byte c = grind (arith, nat_tests)

-- what is put together is cut at the first separator
pub cut_again : (c : ℕ) (front back : List ℕ) → Lacks c front → cut_at c (front ++ c ∷ back) ≡ Some (front, back)
cut_again c [] back h = ap (λ (t : Bool). cond t (Some ([], back)) (cut_behind (c ∷ []) (cut_at c back))) (same_byte c)
cut_again c (b ∷ bs) back h =
    ap (λ (t : Bool). cond t (Some ([], bs ++ c ∷ back)) (cut_behind (b ∷ []) (cut_at c (bs ++ c ∷ back))))
    (All-head (λ x. eqb x c ≡ false) b bs h)
    ∙ ap (cut_behind (b ∷ [])) (cut_again c bs back (All-tail (λ x. eqb x c ≡ false) b bs h))
