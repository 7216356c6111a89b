-- Lists of numbers_from that follow one another.
use Rattle.std.proofs.Common.{◌≡◌, ℕ, suc, ◌+◌, ◌-◌, ◌≤◌, List, [], ◌∷◌, ◌++◌, map, refl, sym, ◌∙◌, ap, append_assoc, arith}
use Rattle.uz_transfer.specs.Exits.{numbers_from}
use Rattle.uz_transfer.specs.declared.step.Exit.{Exit}

numbers_step : (a last : ℕ) → a ≤ last → numbers_from a (suc last - a) ≡ a ∷ numbers_from (a + 1) (suc last - (a + 1))
numbers_step a last h =
    let e : suc last - a ≡ suc (suc last - (a + 1)) = omega arith in
    let s : suc a ≡ a + 1 = omega arith in
    ap (numbers_from a) e ∙ ap (λ n. a ∷ numbers_from n (suc last - (a + 1))) s

-- one more exit is pushed
pub pushed_on : (exits new : List Exit) (all : List Exit) (f : ℕ → Exit) (a last : ℕ) → a ≤ last → exits
    ++ map f (numbers_from a (suc last - a)) ≡ all → new ≡ exits ++ f a ∷ [] → new ++ map f (numbers_from (a + 1) (suc last - (a + 1)))
    ≡ all
pushed_on exits new all f a last h e p =
    ap (λ xs. xs ++ map f (numbers_from (a + 1) (suc last - (a + 1)))) p
    ∙ (rw append_assoc refl ∙ (ap (λ ns. exits ++ map f ns) (sym (numbers_step a last h)) ∙ e))
