-- What the text of a certificate says of points, and what a search says of instances. Whatever else these have is as the blank ones have
-- it.
use Rattle.std.specs.Prelude.{◌≡◌}
use Rattle.uz_schedule.specs.Blank.{blank_instance, blank_point}
use Rattle.uz_schedule.specs.declared.states.Instance.{Instance}
use Rattle.uz_schedule.specs.declared.states.Point.{Point}

-- the first, with all that the text says of the second
abbrev pub point_told : Point → Point → Point
point_told base p = record base {
  kind = p.kind;
  pc = p.pc;
  l0 = p.l0;
  l1 = p.l1;
  c0 = p.c0;
  c1 = p.c1;
  clock = p.clock;
  slope = p.slope;
  pending = p.pending;
  top = p.top;
  temp = p.temp;
  regs = p.regs;
  pairs = p.pairs;
  flags = p.flags;
  compared = p.compared;
  stack = p.stack;
  cells = p.cells;
  split = p.split;
  next = p.next;
}

abbrev pub instance_told : Instance → Instance → Instance
instance_told base x = record base {
  kind = x.kind;
  pc = x.pc;
  line = x.line;
  clock = x.clock;
  level = x.level;
  pending = x.pending;
  top = x.top;
  temp = x.temp;
  regs = x.regs;
  pairs = x.pairs;
  flags = x.flags;
  compared = x.compared;
  stack = x.stack;
  cells = x.cells;
}

-- the text says all there is
abbrev pub IsPointTold : Point → Type 0
IsPointTold p = point_told blank_point p ≡ p

abbrev pub IsInstanceTold : Instance → Type 0
IsInstanceTold x = instance_told blank_instance x ≡ x
