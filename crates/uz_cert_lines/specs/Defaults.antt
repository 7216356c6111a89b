-- What is said of registers, pairs and cells where a line says nothing of them.
use Rattle.std.specs.Prelude.{ℕ, ◌==◌, ◌&&◌, Bool, true, false, if◌then◌else◌}
use Rattle.uz_schedule.specs.Ends.{Ends}
use Rattle.uz_schedule.specs.declared.kinds.Kind.{Kind}
use Rattle.uz_schedule.specs.declared.kinds.Kind.TheVariants.{Main, Handler, Alone}
use Rattle.uz_schedule.specs.declared.facts.Fact.{Fact}
use Rattle.uz_schedule.specs.declared.facts.Fact.TheVariants.{Any, Between, Line, Loop, Old, OldFlags}
use Rattle.uz_schedule.specs.declared.facts.PairFact.{PairFact}
use Rattle.uz_schedule.specs.declared.facts.PairFact.TheVariants.{Any as AnyPair, Between as BetweenPair}
use Rattle.uz_schedule.specs.declared.facts.PairFact.TheVariants.{Line as LinePair, Loop as LoopPair}

abbrev pub is_any : Fact → Bool
is_any Any = true
is_any (Between e) = false
is_any (Line a b) = false
is_any (Loop a b) = false
is_any (Old r) = false
is_any OldFlags = false

abbrev pub is_own : ℕ → Fact → Bool
is_own r Any = false
is_own r (Between e) = false
is_own r (Line a b) = false
is_own r (Loop a b) = false
is_own r (Old q) = q == r
is_own r OldFlags = false

-- in handlers a register is by default as it was at the entry
abbrev pub is_default : Kind → ℕ → Fact → Bool
is_default Main r f = is_any f
is_default Handler r f = is_own r f
is_default Alone r f = is_any f

abbrev pub is_any_pair : PairFact → Bool
is_any_pair AnyPair = true
is_any_pair (BetweenPair e) = false
is_any_pair (LinePair a b) = false
is_any_pair (LoopPair a b) = false

-- by default a cell is in its range of the header; any byte is the range 0..255
abbrev pub is_range : Ends → Fact → Bool
is_range range Any = range.lo == 0 && range.hi == 255
is_range range (Between e) = e.lo == range.lo && e.hi == range.hi
is_range range (Line a b) = false
is_range range (Loop a b) = false
is_range range (Old r) = false
is_range range OldFlags = false

-- a range as a fact: the whole range is any byte
abbrev pub range_fact : Ends → Fact
range_fact e = if e.lo == 0 && e.hi == 255 then Any else Between e
