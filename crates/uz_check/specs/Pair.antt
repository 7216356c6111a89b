-- An image and a certificate.
use Rattle.std.specs.Prelude.{ℕ}
use Rattle.std.specs.Ordering.{nat_cmp}
use Rattle.std.specs.FinMap.{FinMap}
use Rattle.uz_schedule.specs.declared.certificate.Cert.{Cert}

pub record Pair : Type 0 where
  pub image : FinMap nat_cmp ℕ
  pub cert : Cert
