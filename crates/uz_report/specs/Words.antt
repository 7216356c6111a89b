-- Words that lines are made of.
use Rattle.std.specs.Prelude.{ℕ, List, ◌++◌, Bool, true, false, Option, Some, None, codes, decimal}
use Rattle.uz_report.specs.declared.pulse_kind.PulseKind.{PulseKind}
use Rattle.uz_report.specs.declared.pulse_kind.PulseKind.TheVariants.{Equalizing, Horizontal, Broad, Other}
use Rattle.uz_report.specs.declared.range.Range.{Range}
use Rattle.uz_report.specs.Pulses.{nanoseconds, is_in}

-- how a line of which NTSC says something ends
abbrev pub verdict : Bool → List ℕ
verdict true = codes " ok\n"
verdict false = codes " out\n"

abbrev pub name_of : PulseKind → List ℕ
name_of Equalizing = codes " equalizing"
name_of Horizontal = codes " horizontal"
name_of Broad = codes " broad"
name_of Other = codes " other"

-- clocks, and the nanoseconds that they last
abbrev pub time_words : ℕ → List ℕ
time_words n = decimal n ++ codes " clocks " ++ decimal (nanoseconds n) ++ codes " ns"

abbrev pub range_words : ℕ → ℕ → List ℕ
range_words least most = codes " range " ++ decimal least ++ codes " to " ++ decimal most

-- the range of n clocks, and whether they are in it; what has no range is out
abbrev pub judged : ℕ → Option Range → List ℕ
judged n None = codes " out\n"
judged n (Some r) = range_words r.least r.most ++ verdict (is_in r n)
