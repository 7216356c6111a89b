-- The names of the whys, as they are printed.
use Rattle.std.specs.Prelude.{ℕ, List, codes}
use Rattle.uz_cert_lines.specs.declared.why.CertWhy.{CertWhy}
use Rattle.uz_cert_lines.specs.declared.why.CertWhy.TheVariants as why

abbrev pub cert_why_name : CertWhy → List ℕ
cert_why_name why.Head = codes "Head"
cert_why_name why.Word = codes "Word"
cert_why_name why.Number = codes "Number"
cert_why_name why.Order = codes "Order"
cert_why_name why.Limit = codes "Limit"
cert_why_name why.Unknown = codes "Unknown"
cert_why_name why.NoEnd = codes "NoEnd"
cert_why_name why.Memory = codes "Memory"
