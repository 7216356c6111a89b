-- A step that reads, and then another.
use Rattle.std.proofs.Common.{◌≡◌, ◌⊎◌, inl, inr, refl, ap}
use Rattle.std.specs.Prelude.{Result, Ok, Err}
use Rattle.uz_cert_lines.specs.{Why.◌>>=◌, declared.why.CertWhy.CertWhy}

abbrev pub refusal : (A : Type 0) → CertWhy → Result A CertWhy
refusal A w = Err w

pub bind_ok : {A B : Type 0} (m : Result A CertWhy) (f : A → Result B CertWhy) (b : B)
    → m >>= f ≡ Ok b → (a : A) × (m ≡ Ok a) × (f a ≡ Ok b)
bind_ok (Ok a) f b e = (a, refl, e)
bind_ok (Err w) f b e = absurd cc

pub bind_err : {A B : Type 0} (m : Result A CertWhy) (f : A → Result B CertWhy) (w : CertWhy) → m >>= f ≡ Err w
    → (m ≡ Err w) ⊎ ((a : A) × (m ≡ Ok a) × (f a ≡ Err w))
bind_err (Ok a) f w e = inr (a, refl, e)
bind_err {A} (Err v) f w e = let same : v ≡ w = cc in inl (ap (refusal A) same)
