-- What the induction takes from the limits of a certificate.
use Rattle.uz_check.proofs.Common.{◌≡◌, ◌⊎◌, ⊤, All, Contains, ◌+◌, ◌-◌, ◌<◌, ◌≤◌, true, false, List, [], ◌∷◌, length, map, Some, Ends}
use Rattle.uz_check.proofs.Common.{ScheduleFits, length_of, level_at, Main, Handler, Alone, Cell, Rest, Point, Instance, Cert, Kind, Head}
use Rattle.uz_check.proofs.Common.{tracked, depth_limit, is_main, all_flags, is_old, depth_of, position_of}
use Rattle.std.proofs.Common.{IsTrue}
use Rattle.uz_schedule.specs.Limits.{rises}

-- one range a cell, each within the cell's own
abbrev pub SpansFit : List Cell → List Ends → Type 0
SpansFit [] [] = ⊤
SpansFit [] (r ∷ spans) = ⊥
SpansFit (c ∷ cells) [] = ⊥
SpansFit (c ∷ cells) (r ∷ spans) = (c.range.lo ≤ r.lo) × (r.hi ≤ c.range.hi) × SpansFit cells spans

-- the stack lies in RAM, with room for main's bytes, an interrupted pc and the handler's bytes. Cells lie in RAM, and none on the stack
pub record HeadLimits (head : Head) : Type 0 where
  pub low : 256 ≤ head.lo
  pub order : head.lo ≤ head.hi
  pub high : head.hi ≤ 4351
  pub room : head.main + 2 + head.handler ≤ head.hi - head.lo + 1
  pub ram : (c : Cell) → Contains head.cells.items c → (256 ≤ c.at) × (c.at ≤ 4351)
  pub off : (c : Cell) → Contains head.cells.items c → (c.at < head.lo) ⊎ (head.hi < c.at)

-- an instance of a certificate
pub record IsPlaced (cert : Cert) (inst : Instance) : Type 0 where
  pub pc : inst.pc < 32768
  pub line : inst.line < length cert.schedule.lines
  pub clock : inst.clock < length_of cert.schedule inst.line
  pub flags : length inst.flags ≡ 7
  pub old : all_flags is_old inst.flags ≡ true → is_main inst.kind ≡ false
  pub slots : depth_of inst ≤ depth_limit cert.head inst.kind
  pub level : level_at cert.schedule (position_of cert.schedule inst) ≡ Some inst.level

pub record PointLimits (cert : Cert) (p : Point) : Type 0 where
  pub pc : p.pc < 32768
  pub lines : p.l1 < length cert.schedule.lines
  pub flags : length p.flags ≡ 7
  pub old : all_flags is_old p.flags ≡ true → is_main p.kind ≡ false
  pub slots : length p.stack.items ≤ depth_limit cert.head p.kind

pub record RestLimits (cert : Cert) (rest : Rest) : Type 0 where
  pub line : rest.line < length cert.schedule.lines
  pub cells : SpansFit (tracked cert.head Handler) rest.cells.items

pub record Limits (cert : Cert) : Type 0 where
  pub schedule : ScheduleFits cert.schedule
  pub head : HeadLimits cert.head
  pub rests : (rest : Rest) → Contains cert.rests rest → RestLimits cert rest
  pub points : All (PointLimits cert) cert.points
  pub entry_cells : SpansFit (tracked cert.head cert.entry.kind) cert.entry.cells.items

-- What a state that meets the entry condition needs besides

-- a range of bytes
pub record IsByteRange (e : Ends) : Type 0 where
  pub order : e.lo ≤ e.hi
  pub byte : e.hi < 256

pub record EntryLimits (cert : Cert) : Type 0 where
  pub pc : cert.entry.pc < 32768
  pub registers : length cert.entry.regs ≡ 32
  pub bytes : All IsByteRange cert.entry.regs
  pub slots : length cert.entry.stack.items ≤ depth_limit cert.head cert.entry.kind
  pub stack : All IsByteRange cert.entry.stack.items
  pub cells : All IsByteRange cert.entry.cells.items
  pub rests : (rest : Rest) → Contains cert.rests rest → All IsByteRange rest.cells.items
  -- addresses of cells rise
  pub rise : IsTrue (rises (map (λ c. c.at) cert.head.cells.items))

-- an entry is main's or of a program that is alone, and a main entry has a rest at a clock of its line
abbrev pub HasRest : Cert → Kind → Type 0
HasRest cert Main = (rest : Rest) × Contains cert.rests rest × (rest.clock < length_of cert.schedule rest.line)
HasRest cert Handler = ⊥
HasRest cert Alone = ⊤
