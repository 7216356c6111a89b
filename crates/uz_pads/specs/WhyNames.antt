-- The names of the whys, as they are printed.
use Rattle.std.specs.Prelude.{ℕ, List, codes}
use Rattle.uz_pads.specs.declared.errors.PadWhy.{PadWhy}
use Rattle.uz_pads.specs.declared.errors.PadWhy.TheVariants as why

abbrev pub pad_why_name : PadWhy → List ℕ
pad_why_name why.Digits = codes "Digits"
pad_why_name why.Count = codes "Count"
pad_why_name why.Memory = codes "Memory"
