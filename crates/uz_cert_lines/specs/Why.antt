-- Steps of reading that may end in a fault.
use Rattle.std.specs.Prelude.{Result, Ok, Err}
use Rattle.uz_cert_lines.specs.declared.why.CertWhy.{CertWhy}

infixl 10 ◌>>=◌
abbrev pub ◌>>=◌ : {A B : Type 0} → Result A CertWhy → (A → Result B CertWhy) → Result B CertWhy
(Ok x) >>= f = f x
(Err w) >>= f = Err w
