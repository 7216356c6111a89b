-- One more piece at the end of a text.
use Rattle.std.proofs.Common.{◌≡◌, ℕ, List, ◌++◌, ◌∙◌, ap, append_assoc}
use Rattle.std.specs.Prelude.{OnOk, Result, Ok, Err}

pub put : (old mid new a b : List ℕ) → mid ≡ old ++ a → new ≡ mid ++ b → new ≡ old ++ (a ++ b)
put old mid new a b e f = f ∙ ap (λ t. t ++ b) e ∙ append_assoc old a b

pub put_last : {T E : Type 0} (r : Result T E) (old mid new a b : List ℕ) → mid ≡ old ++ a → OnOk r (new ≡ mid ++ b)
    → OnOk r (new ≡ old ++ (a ++ b))
put_last (Ok x) old mid new a b e f = put old mid new a b e f
put_last (Err x) old mid new a b e f = tt
