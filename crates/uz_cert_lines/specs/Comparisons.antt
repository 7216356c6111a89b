-- The words of what the flags tell, as they are read: a name, `:`, and numbers with commas between them. Like the instructions that
-- set the flags so, the names are `tst:D`, `cp:D,R`, `cpi:D,K`, `cpw:D,R,H`, `cpiw:D,K,H`, `sub:D,K,LO,HI` and `subw:D,K,LO,HI`.
use Rattle.std.specs.Prelude.{ℕ, nat_le, Bool, true, false, List, codes, bytes_eq, Option, Some, None, Result, Ok, Err, if◌then◌else◌}
use Prim.Native.Char.{code}
use Rattle.uz_hex.specs.Cutting.{cut_at}
use Rattle.uz_schedule.specs.declared.facts.Against.TheVariants.{Register, Constant}
use Rattle.uz_schedule.specs.declared.facts.Compared.{Compared}
use Rattle.uz_schedule.specs.declared.facts.Compared.TheVariants as told
use Rattle.uz_cert_lines.specs.Why.{◌>>=◌}
use Rattle.uz_cert_lines.specs.Values.{one_number, ends}
use Rattle.uz_cert_lines.specs.declared.why.CertWhy.{CertWhy}
use Rattle.uz_cert_lines.specs.declared.why.CertWhy.TheVariants as why

-- numbers below these limits, with a comma between them

abbrev pub two_parts : ℕ → ℕ → Option (List ℕ × List ℕ) → Result (ℕ × ℕ) CertWhy
two_parts a b None = Err why.Word
two_parts a b (Some p) = one_number 0 a p.0 >>= (λ m. one_number 0 b p.1 >>= (λ n. Ok (m, n)))

unfoldable pub two_listed : ℕ → ℕ → List ℕ → Result (ℕ × ℕ) CertWhy
two_listed a b w = two_parts a b (cut_at (code ",") w)

abbrev pub three_parts : ℕ → ℕ → ℕ → Option (List ℕ × List ℕ) → Result (ℕ × (ℕ × ℕ)) CertWhy
three_parts a b c None = Err why.Word
three_parts a b c (Some p) = one_number 0 a p.0 >>= (λ m. two_listed b c p.1 >>= (λ n. Ok (m, n)))

unfoldable pub three_listed : ℕ → ℕ → ℕ → List ℕ → Result (ℕ × (ℕ × ℕ)) CertWhy
three_listed a b c w = three_parts a b c (cut_at (code ",") w)

-- a register below the first limit, and three numbers below the second
abbrev pub four_parts : ℕ → ℕ → Option (List ℕ × List ℕ) → Result (ℕ × (ℕ × (ℕ × ℕ))) CertWhy
four_parts a b None = Err why.Word
four_parts a b (Some p) = one_number 0 a p.0 >>= (λ m. three_listed b b b p.1 >>= (λ n. Ok (m, n)))

unfoldable pub four_listed : ℕ → ℕ → List ℕ → Result (ℕ × (ℕ × (ℕ × ℕ))) CertWhy
four_listed a b w = four_parts a b (cut_at (code ",") w)

-- what follows each name: registers, then a constant, then the ends of a range, which are in order

unfoldable pub value_told : List ℕ → Result Compared CertWhy
value_told w = one_number 0 32 w >>= (λ d. Ok (told.Value d))

unfoldable pub register_told : List ℕ → Result Compared CertWhy
register_told w = two_listed 32 32 w >>= (λ n. Ok (told.Byte n.0 (Register n.1)))

unfoldable pub constant_told : List ℕ → Result Compared CertWhy
constant_told w = two_listed 32 256 w >>= (λ n. Ok (told.Byte n.0 (Constant n.1)))

unfoldable pub registers_told : List ℕ → Result Compared CertWhy
registers_told w = three_listed 31 32 32 w >>= (λ n. Ok (told.Pair n.0 (Register n.1.0) n.1.1))

unfoldable pub constants_told : List ℕ → Result Compared CertWhy
constants_told w = three_listed 31 256 32 w >>= (λ n. Ok (told.Pair n.0 (Constant n.1.0) n.1.1))

abbrev pub in_range : ℕ → ℕ → Compared → Result Compared CertWhy
in_range lo hi compared = if nat_le lo hi then Ok compared else Err why.Order

unfoldable pub result_told : List ℕ → Result Compared CertWhy
result_told w = four_listed 32 256 w >>= (λ n. in_range n.1.1.0 n.1.1.1 (told.Result n.0 n.1.0 (ends n.1.1.0 n.1.1.1)))

unfoldable pub results_told : List ℕ → Result Compared CertWhy
results_told w = four_listed 31 65536 w >>= (λ n. in_range n.1.1.0 n.1.1.1 (told.PairResult n.0 n.1.0 (ends n.1.1.0 n.1.1.1)))

-- the names

unfoldable pub pair_named : List ℕ → List ℕ → Result Compared CertWhy
pair_named name w =
    if bytes_eq name (codes "cpw") then registers_told w
    else (if bytes_eq name (codes "cpiw") then constants_told w
    else (if bytes_eq name (codes "subw") then results_told w
    else Err why.Word))

unfoldable pub comparison_named : List ℕ → List ℕ → Result Compared CertWhy
comparison_named name w =
    if bytes_eq name (codes "tst") then value_told w
    else (if bytes_eq name (codes "cp") then register_told w
    else (if bytes_eq name (codes "cpi") then constant_told w
    else (if bytes_eq name (codes "sub") then result_told w
    else pair_named name w)))

abbrev pub comparison_cut : Option (List ℕ × List ℕ) → Result Compared CertWhy
comparison_cut None = Err why.Word
comparison_cut (Some p) = comparison_named p.0 p.1

unfoldable pub comparison : List ℕ → Result Compared CertWhy
comparison w = comparison_cut (cut_at (code ":") w)

-- nothing is told
abbrev pub is_nothing : Compared → Bool
is_nothing told.Nothing = true
is_nothing (told.Byte d source) = false
is_nothing (told.Pair d low high) = false
is_nothing (told.Result d k old) = false
is_nothing (told.PairResult d k old) = false
is_nothing (told.Value d) = false
