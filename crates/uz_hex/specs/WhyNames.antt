-- The names of the whys, as they are printed.
use Rattle.std.specs.Prelude.{ℕ, List, codes}
use Rattle.uz_hex.specs.declared.errors.HexWhy.{HexWhy}
use Rattle.uz_hex.specs.declared.errors.HexWhy.TheVariants as why

abbrev pub hex_why_name : HexWhy → List ℕ
hex_why_name why.NoColon = codes "NoColon"
hex_why_name why.BadDigit = codes "BadDigit"
hex_why_name why.Short = codes "Short"
hex_why_name why.Sum = codes "Sum"
hex_why_name why.Kind = codes "Kind"
hex_why_name why.Length = codes "Length"
hex_why_name why.Range = codes "Range"
hex_why_name why.Conflict = codes "Conflict"
hex_why_name why.NoEnd = codes "NoEnd"
hex_why_name why.Memory = codes "Memory"
