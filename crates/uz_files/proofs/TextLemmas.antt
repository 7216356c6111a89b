-- What a sink takes, in pieces.
use Rattle.std.proofs.Common.{◌≡◌, ◌⊎◌, inl, inr, ℕ, List, [], ◌++◌, length, take, subst, sym, ap, ◌∙◌, append_assoc, arith, refl}
use Rattle.std.specs.Prelude.{Option, Some, None, Result, Ok, Err, IsErrOf, OnErr, OnOk}
use Rattle.std.proofs.lemmas.List.{append-nil, take_all}
use Rattle.uz_shelf.specs.declared.errors.WriteError.{WriteError}
use Rattle.uz_shelf.specs.declared.errors.WriteError.TheVariants.{Failed, Memory}
use Rattle.uz_shelf.specs.Text.{TakesAll, TakesPrefix}
use Rattle.uz_files.specs.Answers.{PutsLast}

-- the whole is a prefix
pub takes_prefix : (old : Option (List ℕ)) (piece : List ℕ) (new : Option (List ℕ)) → TakesAll old piece new → TakesPrefix old piece new
takes_prefix old piece new h =
    let all : take (length piece) piece ≡ piece = take_all (length piece) piece (omega arith) in
    (length piece, subst (λ p. TakesAll old p new) (sym all) h)

-- one piece after another
pub takes_both : (old : Option (List ℕ)) (first second : List ℕ) (mid new : Option (List ℕ)) → TakesAll old first mid → TakesAll mid second
    new → TakesAll old (first ++ second) new
takes_both None first second mid new h k = subst (λ m. TakesAll m second new) h k
takes_both (Some old) first second mid new h k =
    let goes : TakesAll (Some (old ++ first)) second new = subst (λ m. TakesAll m second new) h k in
    goes ∙ ap Some (append_assoc old first second)

-- nothing is printed
pub takes_none : (text : Option (List ℕ)) → TakesAll text [] text
takes_none None = refl
takes_none (Some text) = ap Some (sym (append-nil text))

-- a line whose failure isn't told
pub puts_last : {A : Type 0} (r : Result A WriteError) (fault lack : Type 0) (line : List ℕ) (old new : Option (List ℕ))
    → OnOk r (TakesAll old line new) → OnErr r (TakesPrefix old line new) → (IsErrOf r Failed → fault) → (IsErrOf r Memory → lack)
    → PutsLast line (fault ⊎ lack) old new
puts_last (Ok x) fault lack line old new all part faulty lacks = inl all
puts_last (Err Failed) fault lack line old new all part faulty lacks = inr (inl (faulty refl), part)
puts_last (Err Memory) fault lack line old new all part faulty lacks = inr (inr (lacks refl), part)
