-- What a well formed certificate's limits give.
use Rattle.uz_check.proofs.Common.{All-contains, and_parts, ◌≡◌, All, Contains, zero, ◌≤◌, true, false, leb, List, [], ◌∷◌, length, refl}
use Rattle.uz_check.proofs.Common.{ap, subst, arith, leb-true, Ends, RestFits, PointFits, WellFormed, Bit, OldBit, Kind, Main, Handler}
use Rattle.uz_check.proofs.Common.{Cell, Head, Rest, Point, Cert, is_main, depth_limit, all_flags, is_old}
use Rattle.std.proofs.lemmas.List.Elements.{All-weaker}
use Rattle.uz_schedule.specs.Ends.{is_within}
use Rattle.uz_schedule.specs.WellFormed.{RangeFits, CellFits, HeadFits, spans_fit, BitFits}
use Rattle.uz_check.proofs.Fits.{SpansFit, HeadLimits, RestLimits, PointLimits, Limits, IsByteRange, EntryLimits}
use Rattle.uz_schedule.specs.Tracked as schedule

bytes : (xs : List Ends) → All (RangeFits 255) xs → All IsByteRange xs
bytes xs h = All-weaker (RangeFits 255) IsByteRange (λ e f. record { order = f.order; byte = omega (arith, f.high) }) xs h

spans_told : (cells : List Cell) (spans : List Ends) → spans_fit cells spans ≡ true → SpansFit cells spans
spans_told [] [] e = tt
spans_told (c ∷ cells) (r ∷ spans) e =
    let both = and_parts (is_within r c.range) (spans_fit cells spans) e in
    let ends = and_parts (leb c.range.lo r.lo) (leb r.hi c.range.hi) both.0 in
    (leb-true c.range.lo r.lo ends.0, leb-true r.hi c.range.hi ends.1, spans_told cells spans both.1)
spans_told cells spans e = absurd cc

depth_same : (head : Head) (kind : Kind) → schedule.depth_of head kind ≡ depth_limit head kind
depth_same head Main = refl
depth_same head kind = refl

old_handler : (kind : Kind) (b : Bit) → is_old b ≡ true → BitFits kind b → is_main kind ≡ false
old_handler kind OldBit e h = ap is_main h
old_handler kind b e h = absurd cc

old_flags : (kind : Kind) (flags : List Bit) → 1 ≤ length flags → All (BitFits kind) flags → all_flags is_old flags ≡ true
    → is_main kind ≡ false
old_flags kind [] some h e = absurd (omega (arith, some))
old_flags kind (b ∷ flags) some h e = old_handler kind b (and_parts (is_old b) (all_flags is_old flags) e).0 (h zero b (omega arith))

head_limits : (h : Head) → HeadFits h → HeadLimits h
head_limits h fits = record {
  low = fits.stack.low;
  order = fits.stack.order;
  high = fits.stack.high;
  room = fits.stack.room;
  ram = λ c has. let cell = All-contains (CellFits h) h.cells.items c fits.cells has in (cell.low, cell.high);
  off = λ c has. (All-contains (CellFits h) h.cells.items c fits.cells has).off_stack;
}

rest_limits : (cert : Cert) → WellFormed cert → (rest : Rest) → Contains cert.rests rest → RestLimits cert rest
rest_limits cert h rest has =
    let fits = All-contains (RestFits cert.head (length cert.schedule.lines) (length cert.points)) cert.rests rest h.rests.each has in
    record {
      line = fits.line;
      cells = spans_told (schedule.tracked cert.head Handler) rest.cells.items fits.cells.within;
    }

point_limits : (cert : Cert) (p : Point) → PointFits cert.head (length cert.schedule.lines) (length cert.points) p → PointLimits cert p
point_limits cert p h = record {
  pc = h.pc;
  lines = h.box.line;
  flags = h.core.flag_count;
  old = old_flags p.kind p.flags (omega (arith, h.core.flag_count)) h.core.flags;
  slots = subst (λ n. length p.stack.items ≤ n) (depth_same cert.head p.kind) h.memory.slots;
}

pub limits_of : (cert : Cert) → WellFormed cert → Limits cert
limits_of cert h = record {
  schedule = h.schedule;
  head = head_limits cert.head h.head;
  rests = rest_limits cert h;
  points = All-weaker (PointFits cert.head (length cert.schedule.lines) (length cert.points)) (PointLimits cert) (point_limits cert)
      cert.points
      h.points.each;
  entry_cells = spans_told (schedule.tracked cert.head cert.entry.kind) cert.entry.cells.items h.entry.facts.cells.within;
}

pub entry_limits : (cert : Cert) → WellFormed cert → EntryLimits cert
entry_limits cert h = record {
  pc = h.entry.pc;
  registers = h.entry.facts.registers;
  bytes = bytes cert.entry.regs h.entry.facts.ranges;
  slots = subst (λ n. length cert.entry.stack.items ≤ n) (depth_same cert.head cert.entry.kind) h.entry.facts.slots;
  stack = bytes cert.entry.stack.items h.entry.facts.stack;
  cells = bytes cert.entry.cells.items h.entry.facts.cells.ranges;
  rests = λ rest has. bytes rest.cells.items (All-contains (RestFits cert.head (length cert.schedule.lines) (length cert.points)) cert.rests
      rest h.rests.each has).cells.ranges;
  rise = h.head.rise;
}
