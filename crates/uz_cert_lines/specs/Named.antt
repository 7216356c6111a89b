-- The optional items of points that have a name and one value: one table, from which come how they are read and how they are
-- spelled. Each stands where its kind of line has it, in the order of the table, and is left out where it has its default.
use Rattle.std.specs.Prelude.{ℕ, ◌-◌, ◌==◌, ◌&&◌, Bool, true, false, Option, Some, None, ⊤, List, [], ◌∷◌, codes, Result, Ok, Err}
use Rattle.std.specs.Prelude.{if◌then◌else◌}
use Rattle.uz_schedule.specs.Ends.{Ends, whole_byte}
use Rattle.uz_schedule.specs.Limits.{is_top}
use Rattle.uz_schedule.specs.Schedule.{scanline}
use Rattle.uz_schedule.specs.declared.facts.Compared.{Compared}
use Rattle.uz_schedule.specs.declared.facts.Compared.TheVariants.{Nothing}
use Rattle.uz_cert_lines.specs.Why.{◌>>=◌}
use Rattle.uz_cert_lines.specs.Values.{one_number, range, ends_of}
use Rattle.uz_cert_lines.specs.Comparisons.{comparison, is_nothing}
use Rattle.uz_cert_lines.specs.declared.values.FactForms.{FactForms}
use Rattle.uz_cert_lines.specs.declared.items.Shape.{Shape}
use Rattle.uz_schedule.specs.declared.states.Point.{Point}
use Rattle.uz_cert_lines.specs.declared.items.Facts.{Facts}
use Rattle.uz_cert_lines.specs.declared.lines.PointPlace.{PointPlace}
use Rattle.uz_cert_lines.specs.declared.why.CertWhy.{CertWhy}
use Rattle.uz_cert_lines.specs.declared.why.CertWhy.TheVariants as why

-- kinds of value: a number below a limit that passes a test, with its default; a range of bytes, which is any byte by default; what the
-- flags tell, which is nothing by default; and a register, by default none
pub data ValueForm : Type 0 where
  a_number : ℕ → (ℕ → Bool) → ℕ → ValueForm
  a_range : ValueForm
  a_comparison : ValueForm
  a_register : ValueForm

abbrev pub ValueOf : ValueForm → Type 0
ValueOf (a_number limit may usual) = ℕ
ValueOf a_range = Ends
ValueOf a_comparison = Compared
ValueOf a_register = Option ℕ

abbrev pub usual_of : (form : ValueForm) → ValueOf form
usual_of (a_number limit may usual) = usual
usual_of a_range = whole_byte
usual_of a_comparison = Nothing
usual_of a_register = None

abbrev pub is_none : Option ℕ → Bool
is_none None = true
is_none (Some r) = false

abbrev pub is_usual : (form : ValueForm) → ValueOf form → Bool
is_usual (a_number limit may usual) n = n == usual
is_usual a_range e = e.lo == 0 && e.hi == 255
is_usual a_comparison compared = is_nothing compared
is_usual a_register register = is_none register

-- any byte has no spelling as a range
abbrev pub temp_forms : FactForms
temp_forms = record { low = 0; limit = 256; top = 255; sloped = false; old = false }

abbrev pub value_read : (form : ValueForm) → List ℕ → Result (ValueOf form) CertWhy
value_read (a_number limit may usual) w = one_number 0 limit w >>= (λ n. if may n then Ok n else Err why.Limit)
value_read a_range w = range temp_forms w >>= (λ raw. ends_of raw)
value_read a_comparison w = comparison w
value_read a_register w = one_number 0 32 w >>= (λ r. Ok (Some r))

-- an item: its name, what its value may be, and in which lines it stands
pub record NamedItem : Type 0 where
  pub key : List ℕ
  pub form : ValueForm
  pub stands : Shape → Bool

-- top=N: OCR1A is the last clock of a line, by default of a scanline
abbrev pub top_item : NamedItem
top_item = record { key = codes "top"; form = a_number scanline is_top (scanline - 1); stands = λ shape. shape.timed }

-- temp=N and temp=LO..HI: the range of TEMP
abbrev pub temp_item : NamedItem
temp_item = record { key = codes "temp"; form = a_range; stands = λ shape. shape.timed }

-- flags=V: what the flags tell
abbrev pub flags_item : NamedItem
flags_item = record { key = codes "flags"; form = a_comparison; stands = λ shape. shape.compares }

-- split=R: the register by whose values a result is covered
abbrev pub split_item : NamedItem
split_item = record { key = codes "split"; form = a_register; stands = λ shape. shape.compares }

-- in their order
abbrev pub named_items : List NamedItem
named_items = top_item ∷ temp_item ∷ flags_item ∷ split_item ∷ []

-- the place of the first one among all items of a line, and that of successors, which come behind them
abbrev pub named_place : ℕ
named_place = 59

abbrev pub successors_place : ℕ
successors_place = 63

-- a value for each
abbrev pub NamedValues : List NamedItem → Type 0
NamedValues [] = ⊤
NamedValues (i ∷ is) = ValueOf i.form × NamedValues is

abbrev pub named_of : Facts → NamedValues named_items
named_of f = (f.top, (f.temp, (f.compared, (f.split, tt))))

-- others in their stead, and the least place that the next item may have
abbrev pub with_named : Facts → NamedValues named_items → ℕ → Facts
with_named f v least = record f { top = v.0; temp = v.1.0; compared = v.1.1.0; split = v.1.1.1.0; least = least }

abbrev pub values_of : Point → NamedValues named_items
values_of p = (p.top, (p.temp, (p.compared, (p.split, tt))))

-- nothing but the defaults of these items
abbrev pub usual_facts : Facts
usual_facts = record {
  least = 0;
  after = 0;
  regs = [];
  pairs = [];
  flags = [];
  stack = record { items = [] };
  cells = record { items = [] };
  top = scanline - 1;
  temp = whole_byte;
  compared = Nothing;
  split = None;
  next = record { items = [] };
}

-- a point of its place and what is known there
unfoldable pub point_of : PointPlace → Facts → Point
point_of at f = record {
  kind = at.kind;
  pc = at.pc;
  l0 = at.l0;
  l1 = at.l1;
  c0 = at.c0;
  c1 = at.c1;
  clock = at.clock;
  slope = at.slope;
  pending = at.pending;
  regs = f.regs;
  pairs = f.pairs;
  flags = f.flags;
  compared = f.compared;
  split = f.split;
  stack = f.stack;
  cells = f.cells;
  top = f.top;
  temp = f.temp;
  next = f.next;
}
