-- The names of the whys, as they are printed.
use Rattle.std.specs.Prelude.{ℕ, List, codes}
use Rattle.avr_text.specs.declared.errors.AsmWhy.{AsmWhy}
use Rattle.avr_text.specs.declared.errors.AsmWhy.TheVariants as why

abbrev pub asm_why_name : AsmWhy → List ℕ
asm_why_name why.Lex = codes "Lex"
asm_why_name why.Mnemonic = codes "Mnemonic"
asm_why_name why.Operand = codes "Operand"
asm_why_name why.Range = codes "Range"
asm_why_name why.Symbol = codes "Symbol"
asm_why_name why.Twice = codes "Twice"
asm_why_name why.Overlap = codes "Overlap"
asm_why_name why.Past = codes "Past"
asm_why_name why.Directive = codes "Directive"
asm_why_name why.Memory = codes "Memory"
