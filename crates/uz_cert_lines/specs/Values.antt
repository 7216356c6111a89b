-- The words of facts, as they are read: what is known of a byte, a pair or a flag.
use Rattle.std.specs.Prelude.{ℕ, ◌<◌, ◌==◌, ◌&&◌, not, nat_lt, Bool, true, false, ⊤, List, [], ◌∷◌, length, codes, bytes_eq, Option, Some}
use Rattle.std.specs.Prelude.{None, Result, Ok, Err, if◌then◌else◌, ◌+◌}
use Prim.Native.Char.{code}
use Rattle.uz_hex.specs.Cutting.{cut_at}
use Rattle.uz_hex.specs.Numbers.{all_digits, is_numeral, number_within}
use Rattle.uz_schedule.specs.Ends.{Ends}
use Rattle.uz_schedule.specs.declared.facts.Fact.{Fact}
use Rattle.uz_schedule.specs.declared.facts.Fact.TheVariants.{Any, Between, Line, Loop, Old, OldFlags}
use Rattle.uz_schedule.specs.declared.facts.PairFact.{PairFact}
use Rattle.uz_schedule.specs.declared.facts.PairFact.TheVariants.{Any as AnyPair, Between as BetweenPair, Line as LinePair}
use Rattle.uz_schedule.specs.declared.facts.PairFact.TheVariants.{Loop as LoopPair}
use Rattle.uz_schedule.specs.declared.facts.Bit.{Bit}
use Rattle.uz_schedule.specs.declared.facts.Bit.TheVariants.{Zero, One, Free, Old as OldBit}
use Rattle.uz_cert_lines.specs.Why.{◌>>=◌}
use Rattle.uz_cert_lines.specs.declared.values.FactForms.{FactForms}
use Rattle.uz_cert_lines.specs.declared.values.Raw.{Raw}
use Rattle.uz_cert_lines.specs.declared.values.Raw.TheVariants as raw
use Rattle.uz_cert_lines.specs.declared.why.CertWhy.{CertWhy}
use Rattle.uz_cert_lines.specs.declared.why.CertWhy.TheVariants as why

-- numbers in words: digits, then spelled as a number, then within the limits

abbrev pub digits : List ℕ → Bool
digits w = nat_lt 0 (length w) && all_digits w

abbrev pub one_or : Bool → Option ℕ → Result ℕ CertWhy
one_or numeral (Some n) = Ok n
one_or true None = Err why.Limit
one_or false None = Err why.Number

unfoldable pub one_number : ℕ → ℕ → List ℕ → Result ℕ CertWhy
one_number low limit w = if digits w then one_or (is_numeral w) (number_within low limit w) else Err why.Word

abbrev pub both : Option ℕ → Option ℕ → Result (ℕ × ℕ) CertWhy
both (Some a) (Some b) = Ok (a, b)
both (Some a) None = Err why.Limit
both None b = Err why.Limit

unfoldable pub two_numbers : ℕ → ℕ → ℕ → List ℕ → List ℕ → Result (ℕ × ℕ) CertWhy
two_numbers low_a low_b limit a b =
    if digits a && digits b
    then (if is_numeral a && is_numeral b then both (number_within low_a limit a) (number_within low_b limit b) else Err why.Number)
    else Err why.Word

-- `*`, of which this follows the `*`
abbrev pub whole : FactForms → List ℕ → Result Raw CertWhy
whole f [] = if (f.low == 0) && nat_lt f.top f.limit then Ok raw.All else Err why.Limit
whole f (c ∷ cs) = Err why.Word

-- `l*A+B` and `c*A+B`
abbrev pub slope : Bool → ℕ × ℕ → Raw
slope true n = raw.Line n.0 n.1
slope false n = raw.Loop n.0 n.1

abbrev pub sloped_parts : Bool → FactForms → Option (List ℕ × List ℕ) → Result Raw CertWhy
sloped_parts is_line f None = Err why.Word
sloped_parts is_line f (Some p) = two_numbers 1 0 f.limit p.0 p.1 >>= (λ n. Ok (slope is_line n))

unfoldable pub sloped_cut : Bool → FactForms → List ℕ → Result Raw CertWhy
sloped_cut is_line f w = sloped_parts is_line f (cut_at (code "+") w)

abbrev pub sloped : Bool → FactForms → List ℕ → Result Raw CertWhy
sloped is_line f [] = Err why.Word
sloped is_line f (c ∷ cs) = if (c == code "*") && f.sloped then sloped_cut is_line f cs else Err why.Word

-- `oR` and `of`, of which this follows the `o`
abbrev pub old : FactForms → List ℕ → Result Raw CertWhy
old f w = if f.old then (if bytes_eq w (codes "f") then Ok raw.OldFlags else one_number 0 32 w >>= (λ r. Ok (raw.Old r))) else Err why.Word

-- `n` and `lo..hi`
abbrev pub range_parts : FactForms → List ℕ → List ℕ → Result Raw CertWhy
range_parts f lo [] = Err why.Word
range_parts f lo (c ∷ hi) = if c == code "." then two_numbers f.low f.low f.limit lo hi >>= (λ n. Ok (raw.Two n.0 n.1)) else Err why.Word

abbrev pub range_cut : FactForms → List ℕ → Option (List ℕ × List ℕ) → Result Raw CertWhy
range_cut f w None = one_number f.low f.limit w >>= (λ n. Ok (raw.One n))
range_cut f w (Some p) = range_parts f p.0 p.1

unfoldable pub range : FactForms → List ℕ → Result Raw CertWhy
range f w = range_cut f w (cut_at (code ".") w)

unfoldable pub raw_of : FactForms → List ℕ → Result Raw CertWhy
raw_of f [] = Err why.Word
raw_of f (c ∷ cs) =
    if c == code "*" then whole f cs
    else (if c == code "l" then sloped true f cs
    else (if c == code "c" then sloped false f cs
    else (if c == code "o" then old f cs
    else range f (c ∷ cs))))

-- what the numbers of a word that is read are below
abbrev pub RawBelow : ℕ → Raw → Type 0
RawBelow limit raw.All = ⊤
RawBelow limit (raw.One n) = n < limit
RawBelow limit (raw.Two a b) = (a < limit) × (b < limit)
RawBelow limit (raw.Line a b) = (a < limit) × (b < limit)
RawBelow limit (raw.Loop a b) = (a < limit) × (b < limit)
RawBelow limit (raw.Old r) = r < 32
RawBelow limit raw.OldFlags = ⊤

-- in `lo..hi` lo is below hi, and it isn't the whole range
abbrev pub is_ordered : ℕ → ℕ → ℕ → Bool
is_ordered top lo hi = nat_lt lo hi && not ((lo == 0) && (hi == top))

abbrev pub ends : ℕ → ℕ → Ends
ends lo hi = record { lo = lo; hi = hi }

abbrev pub fact_of : Raw → Result Fact CertWhy
fact_of raw.All = Ok Any
fact_of (raw.One n) = Ok (Between (ends n n))
fact_of (raw.Two lo hi) = if is_ordered 255 lo hi then Ok (Between (ends lo hi)) else Err why.Order
fact_of (raw.Line a b) = Ok (Line a b)
fact_of (raw.Loop a b) = Ok (Loop a b)
fact_of (raw.Old r) = Ok (Old r)
fact_of raw.OldFlags = Ok OldFlags

abbrev pub pair_of : Raw → Result PairFact CertWhy
pair_of raw.All = Ok AnyPair
pair_of (raw.One n) = Ok (BetweenPair (ends n n))
pair_of (raw.Two lo hi) = if is_ordered 65535 lo hi then Ok (BetweenPair (ends lo hi)) else Err why.Order
pair_of (raw.Line a b) = Ok (LinePair a b)
pair_of (raw.Loop a b) = Ok (LoopPair a b)
pair_of (raw.Old r) = Err why.Word
pair_of raw.OldFlags = Err why.Word

abbrev pub ends_of : Raw → Result Ends CertWhy
ends_of raw.All = Ok (ends 0 255)
ends_of (raw.One n) = Ok (ends n n)
ends_of (raw.Two lo hi) = if is_ordered 255 lo hi then Ok (ends lo hi) else Err why.Order
ends_of (raw.Line a b) = Err why.Word
ends_of (raw.Loop a b) = Err why.Word
ends_of (raw.Old r) = Err why.Word
ends_of raw.OldFlags = Err why.Word

-- a flag's word
abbrev pub bit_of : Bool → List ℕ → Result Bit CertWhy
bit_of old w =
    if bytes_eq w (codes "0") then Ok Zero
    else (if bytes_eq w (codes "1") then Ok One
    else (if bytes_eq w (codes "?") then Ok Free
    else (if bytes_eq w (codes "o") && old then Ok OldBit
    else Err why.Word)))

-- the forms of a range within another
abbrev pub span_forms : Ends → FactForms
span_forms range = record { low = range.lo; limit = range.hi + 1; top = 255; sloped = false; old = false }

unfoldable pub span_of : Ends → List ℕ → Result Ends CertWhy
span_of range w = raw_of (span_forms range) w >>= (λ raw. ends_of raw)
