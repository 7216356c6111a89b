-- Well formed certificates: within the limits and orders of their text. The numbers are this project's profile.
use Rattle.std.specs.Prelude.{◌≡◌, ◌⊎◌, ℕ, suc, ◌+◌, ◌-◌, ◌*◌, ◌<◌, ◌≤◌, ◌==◌, ◌&&◌, nat_lt, ℤ, pos, negsuc, ⊤, Bool, true, false, IsTrue}
use Rattle.std.specs.Prelude.{List, [], ◌∷◌, All, length, map, sum_by, slice_index_or, Option, None, Some}
use Rattle.uz_schedule.specs.Ends.{Ends, is_within, whole_byte}
use Rattle.uz_schedule.specs.Limits.{clock_limit, is_top, rises, ScheduleFits}
use Rattle.uz_schedule.specs.Schedule.{scanline}
use Rattle.uz_schedule.specs.Tracked.{tracked, depth_of}
use Rattle.uz_schedule.specs.declared.kinds.Kind.{Kind}
use Rattle.uz_schedule.specs.declared.facts.Against.{Against}
use Rattle.uz_schedule.specs.declared.facts.Against.TheVariants.{Register, Constant}
use Rattle.uz_schedule.specs.declared.facts.Compared.{Compared}
use Rattle.uz_schedule.specs.declared.facts.Compared.TheVariants.{Byte, Nothing, Pair, PairResult, Result, Value}
use Rattle.uz_schedule.specs.declared.kinds.Kind.TheVariants.{Main, Handler, Alone}
use Rattle.uz_schedule.specs.declared.kinds.RuleVersion.{RuleVersion}
use Rattle.uz_schedule.specs.declared.kinds.RuleVersion.TheVariants.{Two, Three}
use Rattle.uz_schedule.specs.declared.facts.Fact.{Fact}
use Rattle.uz_schedule.specs.declared.facts.Fact.TheVariants.{Any, Between, Line, Loop, Old, OldFlags}
use Rattle.uz_schedule.specs.declared.facts.PairFact.{PairFact}
use Rattle.uz_schedule.specs.declared.facts.PairFact.TheVariants.{Any as AnyPair, Between as BetweenPair, Line as LinePair}
use Rattle.uz_schedule.specs.declared.facts.PairFact.TheVariants.{Loop as LoopPair}
use Rattle.uz_schedule.specs.declared.facts.Bit.{Bit}
use Rattle.uz_schedule.specs.declared.facts.Bit.TheVariants.{Zero, One, Free, Old as OldBit}
use Rattle.uz_schedule.specs.declared.header.Cell.{Cell}
use Rattle.uz_schedule.specs.declared.header.Head.{Head}
use Rattle.uz_schedule.specs.declared.states.Rest.{Rest}
use Rattle.uz_schedule.specs.declared.states.Entry.{Entry}
use Rattle.uz_schedule.specs.declared.states.Point.{Point}
use Rattle.uz_schedule.specs.declared.certificate.Cert.{Cert}

-- Ranges

-- a range of numbers from 0 to top
pub record RangeFits (top : ℕ) (e : Ends) : Type 0 where
  pub order : e.lo ≤ e.hi
  pub high : e.hi ≤ top

-- such a range, but not the whole one
pub record PartFits (top : ℕ) (e : Ends) : Type 0 where
  pub range : RangeFits top e
  pub part : (0 < e.lo) ⊎ (e.hi < top)

-- Head

-- a tracked cell lies in RAM, and not on the stack
pub record CellFits (h : Head) (c : Cell) : Type 0 where
  pub low : 256 ≤ c.at
  pub high : c.at ≤ 4351
  pub off_stack : (c.at < h.lo) ⊎ (h.hi < c.at)
  pub range : RangeFits 255 c.range

-- the stack lies in RAM, and holds what main and handler push and a return address
pub record StackFits (h : Head) : Type 0 where
  pub low : 256 ≤ h.lo
  pub order : h.lo ≤ h.hi
  pub high : h.hi ≤ 4351
  pub main : h.main ≤ 32
  pub handler : h.handler ≤ 32
  pub room : h.main + 2 + h.handler ≤ h.hi - h.lo + 1

-- addresses of cells rise
pub record HeadFits (h : Head) : Type 0 where
  pub stack : StackFits h
  pub few : length h.cells.items ≤ 16
  pub cells : All (CellFits h) h.cells.items
  pub rise : IsTrue (rises (map (λ c. c.at) h.cells.items))

-- Rests and entries

-- one range for each cell, within the cell's own
abbrev pub spans_fit : List Cell → List Ends → Bool
spans_fit [] [] = true
spans_fit [] (e ∷ spans) = false
spans_fit (c ∷ cells) [] = false
spans_fit (c ∷ cells) (e ∷ spans) = is_within e c.range && spans_fit cells spans

pub record SpansFit (cells : List Cell) (spans : List Ends) : Type 0 where
  pub ranges : All (RangeFits 255) spans
  pub within : IsTrue (spans_fit cells spans)

-- among this many lines and points
pub record RestFits (h : Head) (lines points : ℕ) (r : Rest) : Type 0 where
  pub line : r.line < lines
  pub clock : r.clock < clock_limit
  pub vector : r.vector < points
  pub cells : SpansFit (tracked h Handler) r.cells.items

-- at most one a line, lines rising
pub record RestsFit (h : Head) (lines points : ℕ) (rests : List Rest) : Type 0 where
  pub few : length rests ≤ lines
  pub each : All (RestFits h lines points) rests
  pub rise : IsTrue (rises (map (λ r. r.line) rests))

-- an entry is main's, at the frame's begin, or alone
abbrev pub EntryKindFits : Kind → Entry → Type 0
EntryKindFits Main e = (e.line ≡ 0) × (e.clock ≡ 0)
EntryKindFits Handler e = ⊥
EntryKindFits Alone e = ⊤

-- the interrupted value of a flag is known in handlers alone
abbrev pub BitFits : Kind → Bit → Type 0
BitFits kind Zero = ⊤
BitFits kind One = ⊤
BitFits kind Free = ⊤
BitFits kind OldBit = kind ≡ Handler

-- 32 registers, 7 flags, and no more slots than the kind may push
pub record EntryFactsFit (h : Head) (e : Entry) : Type 0 where
  pub registers : length e.regs ≡ 32
  pub ranges : All (RangeFits 255) e.regs
  pub flag_count : length e.flags ≡ 7
  pub flags : All (BitFits e.kind) e.flags
  pub slots : length e.stack.items ≤ depth_of h e.kind
  pub stack : All (RangeFits 255) e.stack.items
  pub cells : SpansFit (tracked h e.kind) e.cells.items

pub record EntryFits (h : Head) (lines points : ℕ) (e : Entry) : Type 0 where
  pub kind : EntryKindFits e.kind e
  pub id : e.id < points
  pub pc : e.pc < 32768
  pub line : e.line < lines
  pub clock : e.clock < clock_limit
  pub facts : EntryFactsFit h e

-- Points: where they stand

abbrev pub magnitude : ℤ → ℕ
magnitude (pos n) = n
magnitude (negsuc n) = suc n

-- a box of lines and counts, in a frame of this many lines
pub record BoxFits (lines : ℕ) (p : Point) : Type 0 where
  pub line_order : p.l0 ≤ p.l1
  pub line : p.l1 < lines
  pub count_order : p.c0 ≤ p.c1
  pub count : p.c1 ≤ 255
  pub clock : p.clock < clock_limit
  pub slope : magnitude p.slope < clock_limit

-- line, count, clock, slope and pending are all 0
pub record IsAtBegin (p : Point) : Type 0 where
  pub first_line : p.l0 ≡ 0
  pub last_line : p.l1 ≡ 0
  pub first_count : p.c0 ≡ 0
  pub last_count : p.c1 ≡ 0
  pub clock : p.clock ≡ 0
  pub slope : p.slope ≡ pos 0
  pub pending : p.pending ≡ false

-- OCR1A is the last clock of a line, and TEMP is in a range of bytes
pub record TimerFits (p : Point) : Type 0 where
  pub top : IsTrue (is_top p.top)
  pub temp : RangeFits 255 p.temp

-- nothing is said of OCR1A and TEMP: they have the values that the text leaves out
pub record IsTimerLeftOut (p : Point) : Type 0 where
  pub top : p.top ≡ scanline - 1
  pub temp : p.temp ≡ whole_byte

-- main stands at the frame's begin; only in a handler an interrupt may wait, and the timer is known
abbrev pub PointKindFits : Kind → Point → Type 0
PointKindFits Main p = IsAtBegin p × IsTimerLeftOut p
PointKindFits Handler p = TimerFits p
PointKindFits Alone p = (p.pending ≡ false) × IsTimerLeftOut p

-- Points: what is known

-- a * line + b, or a * count + b, of numbers from 0 to top
pub record SlopeFits (top a b : ℕ) : Type 0 where
  pub some : 1 ≤ a
  pub factor : a ≤ top
  pub offset : b ≤ top

-- of a register or a slot; interrupted values are known in handlers alone
abbrev pub FactFits : Kind → Fact → Type 0
FactFits kind Any = ⊤
FactFits kind (Between e) = PartFits 255 e
FactFits kind (Line a b) = SlopeFits 255 a b
FactFits kind (Loop a b) = SlopeFits 255 a b
FactFits kind (Old r) = (kind ≡ Handler) × (r < 32)
FactFits kind OldFlags = kind ≡ Handler

-- of a cell; no interrupted value is known
abbrev pub CellFactFits : Fact → Type 0
CellFactFits Any = ⊤
CellFactFits (Between e) = PartFits 255 e
CellFactFits (Line a b) = SlopeFits 255 a b
CellFactFits (Loop a b) = SlopeFits 255 a b
CellFactFits (Old r) = ⊥
CellFactFits OldFlags = ⊥

abbrev pub PairFits : PairFact → Type 0
PairFits AnyPair = ⊤
PairFits (BetweenPair e) = PartFits 65535 e
PairFits (LinePair a b) = SlopeFits 65535 a b
PairFits (LoopPair a b) = SlopeFits 65535 a b

-- In the text `z=0` and `z=1` may say the pair Z or the flag Z. They say the pair only where a word for the flag C or the
-- flag Z follows, so a point has no text whose pair Z is exactly 0 or exactly 1 while both flags are left out

abbrev pub is_zero_or_one : PairFact → Bool
is_zero_or_one AnyPair = false
is_zero_or_one (BetweenPair e) = e.lo == e.hi && nat_lt e.hi 2
is_zero_or_one (LinePair a b) = false
is_zero_or_one (LoopPair a b) = false

-- the flag is left out: in handlers it is as it was at the entry, and else nothing is known
abbrev pub is_default_flag : Kind → Bit → Bool
is_default_flag kind Zero = false
is_default_flag kind One = false
is_default_flag Main Free = true
is_default_flag Handler Free = false
is_default_flag Alone Free = true
is_default_flag Main OldBit = false
is_default_flag Handler OldBit = true
is_default_flag Alone OldBit = false

-- of the flags C Z N V S H T in this order, C and Z are left out
abbrev pub is_carry_and_zero_default : Kind → List Bit → Bool
is_carry_and_zero_default kind flags = is_default_flag kind (slice_index_or flags 0 Free) && is_default_flag kind
    (slice_index_or flags 1 Free)

abbrev pub is_without_text : Point → Bool
is_without_text p = is_zero_or_one (slice_index_or p.pairs 2 AnyPair) && is_carry_and_zero_default p.kind p.flags

-- 32 registers, 3 pairs and 7 flags
pub record CoreFits (p : Point) : Type 0 where
  pub register_count : length p.regs ≡ 32
  pub registers : All (FactFits p.kind) p.regs
  pub pair_count : length p.pairs ≡ 3
  pub pairs : All PairFits p.pairs
  pub flag_count : length p.flags ≡ 7
  pub flags : All (BitFits p.kind) p.flags
  pub text : is_without_text p ≡ false

-- no more slots than the kind may push, and a fact for each cell that it tracks
pub record MemoryFits (h : Head) (p : Point) : Type 0 where
  pub slots : length p.stack.items ≤ depth_of h p.kind
  pub stack : All (FactFits p.kind) p.stack.items
  pub cell_count : length p.cells.items ≡ length (tracked h p.kind)
  pub cells : All CellFactFits p.cells.items

-- Points: what the rules of version 3 add

abbrev pub AgainstFits : Against → Type 0
AgainstFits (Register r) = r < 32
AgainstFits (Constant k) = k ≤ 255

-- registers that there are, pairs of two of them, and ranges in order
abbrev pub ComparedFits : Compared → Type 0
ComparedFits Nothing = ⊤
ComparedFits (Byte d source) = (d < 32) × AgainstFits source
ComparedFits (Pair d low high) = (d < 31) × AgainstFits low × (high < 32)
ComparedFits (Result d k old) = (d < 32) × (k ≤ 255) × RangeFits 255 old
ComparedFits (PairResult d k old) = (d < 31) × (k ≤ 65535) × RangeFits 65535 old
ComparedFits (Value d) = d < 32

abbrev pub SplitFits : Option ℕ → Type 0
SplitFits None = ⊤
SplitFits (Some r) = r < 32

-- by the rules of version 2, and outside main, there is none of it
abbrev pub IsWithoutRules : Point → Type 0
IsWithoutRules p = (p.compared ≡ Nothing) × (p.split ≡ None)

abbrev pub RulesFit : RuleVersion → Kind → Point → Type 0
RulesFit Two kind p = IsWithoutRules p
RulesFit Three Main p = ComparedFits p.compared × SplitFits p.split
RulesFit Three Handler p = IsWithoutRules p
RulesFit Three Alone p = IsWithoutRules p

-- the numbers of points, of this many, rising
pub record SuccessorsFit (points : ℕ) (ids : List ℕ) : Type 0 where
  pub few : length ids ≤ 16
  pub there : All (λ id. id < points) ids
  pub rise : IsTrue (rises ids)

pub record PointFits (h : Head) (lines points : ℕ) (p : Point) : Type 0 where
  pub kind : PointKindFits p.kind p
  pub rules : RulesFit h.version p.kind p
  pub pc : p.pc < 32768
  pub box : BoxFits lines p
  pub core : CoreFits p
  pub memory : MemoryFits h p
  pub next : SuccessorsFit points p.next.items

-- how many instances a point has: one for each line and count of its box
abbrev pub instances_of : Point → ℕ
instances_of p = (p.l1 - p.l0 + 1) * (p.c1 - p.c0 + 1)

pub record PointsFit (h : Head) (lines : ℕ) (points : List Point) : Type 0 where
  pub some : 1 ≤ length points
  pub few : length points ≤ 524288
  pub each : All (PointFits h lines (length points)) points
  pub instances : sum_by instances_of points ≤ 16777216

-- The whole certificate

pub record WellFormed (c : Cert) : Type 0 where
  pub head : HeadFits c.head
  pub schedule : ScheduleFits c.schedule
  pub rests : RestsFit c.head (length c.schedule.lines) (length c.points) c.rests
  pub entry : EntryFits c.head (length c.schedule.lines) (length c.points) c.entry
  pub points : PointsFit c.head (length c.schedule.lines) c.points
