-- The forms of a certificate's lines.
use Rattle.std.specs.Prelude.{ℕ, ◌+◌, ◌-◌, ◌/◌, ◌≤◌, ◌≡◌, ◌==◌, ⊤, nat_lt, Bool, true, false, IsTrue, List, [], ◌∷◌, map, codes}
use Rattle.std.specs.Prelude.{if◌then◌else◌}
use Rattle.uz_schedule.specs.Ends.{Ends}
use Rattle.uz_schedule.specs.Limits.{clock_limit, most_events, most_lines, is_length}
use Rattle.uz_schedule.specs.Schedule.{scanline, half_line}
use Rattle.uz_schedule.specs.declared.kinds.Response.{Response}
use Rattle.uz_schedule.specs.declared.kinds.Response.TheVariants.{Four, Five}
use Rattle.uz_schedule.specs.declared.kinds.Kind.{Kind}
use Rattle.uz_schedule.specs.declared.kinds.Kind.TheVariants.{Main, Handler, Alone}
use Rattle.uz_schedule.specs.declared.kinds.RuleVersion.{RuleVersion}
use Rattle.uz_schedule.specs.declared.kinds.RuleVersion.TheVariants.{Two, Three}
use Rattle.uz_schedule.specs.declared.kinds.Owner.{Owner}
use Rattle.uz_schedule.specs.declared.kinds.Owner.TheVariants.{Main as MainCell, Handler as HandlerCell}
use Rattle.uz_schedule.specs.declared.facts.Fact.{Fact}
use Rattle.uz_schedule.specs.declared.facts.Fact.TheVariants.{Any, Between, Line, Loop, Old, OldFlags}
use Rattle.uz_schedule.specs.declared.header.Cell.{Cell}
use Rattle.uz_schedule.specs.declared.header.Head.{Head}
use Rattle.uz_schedule.specs.declared.lines.EventKind.TheVariants.{Sync, Pixel, Sound, Leave}
use Rattle.uz_schedule.specs.declared.states.Entry.{Entry}
use Rattle.uz_schedule.specs.declared.states.Point.{Point}
use Rattle.uz_schedule.specs.Tracked.{depth_of}
use Rattle.uz_schedule.specs.WellFormed.{IsTimerLeftOut}
use Rattle.uz_cert_lines.specs.Items.{is_handler}
use Rattle.uz_cert_lines.specs.Named.{point_of}
use Rattle.uz_cert_lines.specs.Values.{ends}
use Rattle.uz_cert_lines.specs.Forms.{LineForm, fixed, number, choice, slope, spans, items, finish}
use Rattle.uz_cert_lines.specs.declared.words.NumberBounds.{NumberBounds}
use Rattle.uz_cert_lines.specs.declared.items.Shape.{Shape}
use Rattle.uz_cert_lines.specs.declared.items.Facts.{Facts}
use Rattle.uz_cert_lines.specs.declared.lines.KindLine.{KindLine}
use Rattle.uz_cert_lines.specs.declared.lines.ParsedLine.TheVariants as parsed
use Rattle.uz_cert_lines.specs.declared.lines.Sizes.{Sizes}
use Rattle.uz_cert_lines.specs.declared.version.Version.{Version}
use Rattle.uz_cert_lines.specs.declared.version.Version.TheVariants.{First, Second, Third}
use Rattle.uz_cert_lines.specs.declared.why.CertWhy.TheVariants as why

-- the first line of each text of a version
abbrev pub head_line : Version → List ℕ
head_line First = codes "uzcert 1"
head_line Second = codes "uzcert 2"
head_line Third = codes "uzcert 3"

-- the rules by which a certificate with a text of a version is judged
abbrev pub rules_of : Version → RuleVersion
rules_of First = Two
rules_of Second = Two
rules_of Third = Three

-- the version of the text of a certificate that is judged by these rules
abbrev pub text_version : RuleVersion → Version
text_version Two = Second
text_version Three = Third

-- a number from low on and below limit
abbrev pub within : ℕ → ℕ → NumberBounds
within low limit = record { low = low; limit = limit; beyond = why.Limit; hole = 0; hole_end = 0; least = 0; other = 4294967295 }

-- the number of one of so many, which are counted from 0
abbrev pub one_of : ℕ → NumberBounds
one_of count = record { low = 0; limit = count; beyond = why.Unknown; hole = 0; hole_end = 0; least = 0; other = 4294967295 }

-- the same, and at least so much to keep the order
abbrev pub rising : ℕ → NumberBounds → NumberBounds
rising least a = record a { least = least }

-- the lesser of two numbers
abbrev pub least_of : ℕ → ℕ → ℕ
least_of a b = if nat_lt a b then a else b

-- how many of each there may be
pub record SizesFit (s : Sizes) : Type 0 where
  pub kinds_some : 1 ≤ s.kinds
  pub kinds_few : s.kinds ≤ most_lines
  pub lines_some : 1 ≤ s.lines
  pub lines_few : s.lines ≤ most_lines
  pub rests_few : s.rests ≤ s.lines
  pub points_some : 1 ≤ s.points
  pub points_few : s.points ≤ 524288
  pub cells_few : s.cells ≤ 16

-- size KINDS LINES RESTS POINTS CELLS
abbrev pub size_form : LineForm
size_form =
    fixed (codes "size") (number (within 1 526) (λ kinds. number (within 1 526) (λ lines. number (within 0 (lines + 1)) (λ rests.
    number (within 1 524289) (λ points. number (within 0 17) (λ cells.
    finish (parsed.Size (record { kinds = kinds; lines = lines; rests = rests; points = points; cells = cells }))))))))

abbrev pub response_of : ℕ → Response
response_of n = if n == 4 then Four else Five

-- irq R
abbrev pub irq_form : LineForm
irq_form = fixed (codes "irq") (number (within 4 6) (λ r. finish (parsed.Irq (response_of r))))

-- stack LO HI MAIN HANDLER: the stack has room for what main and handler push and a return address
abbrev pub stack_form : LineForm
stack_form =
    fixed (codes "stack") (number (within 256 4351) (λ lo. number (within (lo + 1) 4352) (λ hi.
    number (within 0 (least_of 33 (hi - lo))) (λ main. number (within 0 (least_of 33 (hi - lo - main))) (λ handler.
    finish (parsed.Stack (record { lo = lo; hi = hi; main = main; handler = handler })))))))

abbrev pub owner_of : ℕ → Owner
owner_of n = if n == 0 then MainCell else HandlerCell

-- an address of RAM, off the stack
abbrev pub off_stack : ℕ → ℕ → ℕ → NumberBounds
off_stack lo hi least = record (within 256 4352) { hole = lo; hole_end = hi + 1; least = least }

-- cell ADDRESS OWNER LO HI
abbrev pub cell_form : ℕ → ℕ → ℕ → LineForm
cell_form lo hi least =
    fixed (codes "cell") (number (off_stack lo hi least) (λ at. choice (codes "main" ∷ codes "handler" ∷ []) (λ owner.
    number (within 0 256) (λ low. number (within low 256) (λ high.
    finish (parsed.Cell (record { at = at; owner = owner_of owner; range = ends low high })))))))

-- the length of a kind of line: that of half a scanline or of a whole one, and no less than the number of its events
abbrev pub length_for : ℕ → NumberBounds
length_for events =
    record (within (if nat_lt half_line events then scanline else half_line) (scanline + 1)) { hole = half_line + 1; hole_end = scanline }

-- the lengths that a text says: in version 1 each is that of a scanline
abbrev pub IsLengthIn : Version → ℕ → Type 0
IsLengthIn First clocks = clocks ≡ scanline
IsLengthIn Second clocks = IsTrue (is_length clocks)
IsLengthIn Third clocks = IsTrue (is_length clocks)

-- a kind of so many events and of this length
pub record KindLineFits (version : Version) (k : KindLine) : Type 0 where
  pub some : 1 ≤ k.events
  pub few : k.events ≤ k.clocks
  pub clocks : IsLengthIn version k.clocks

abbrev pub kind_after : Version → ℕ → LineForm
kind_after First events = finish (parsed.Kind (record { events = events; clocks = scanline }))
kind_after Second events = number (length_for events) (λ clocks. finish (parsed.Kind (record { events = events; clocks = clocks })))
kind_after Third events = number (length_for events) (λ clocks. finish (parsed.Kind (record { events = events; clocks = clocks })))

-- kind EVENTS LENGTH, and in version 1 kind EVENTS
abbrev pub kind_form : Version → LineForm
kind_form version = fixed (codes "kind") (number (within 1 (most_events + 1)) (λ events. kind_after version events))

-- CLOCK sync V | pixel | sound | leave
abbrev pub event_after : ℕ → ℕ → LineForm
event_after clock n =
    if n == 0 then number (within 0 2) (λ level. finish (parsed.Event (record { clock = clock; kind = Sync level })))
    else (if n == 1 then finish (parsed.Event (record { clock = clock; kind = Pixel }))
    else (if n == 2 then finish (parsed.Event (record { clock = clock; kind = Sound }))
    else finish (parsed.Event (record { clock = clock; kind = Leave }))))

-- in a kind of line of so many clocks
abbrev pub event_form : ℕ → ℕ → LineForm
event_form clocks least =
    number (rising least (within 0 clocks)) (λ clock.
    choice (codes "sync" ∷ codes "pixel" ∷ codes "sound" ∷ codes "leave" ∷ []) (λ n. event_after clock n))

-- fall CLOCK
abbrev pub fall_form : LineForm
fall_form = fixed (codes "fall") (number (within 1 clock_limit) (λ clock. finish (parsed.Fall clock)))

-- run COUNT KIND, of at most so many lines, and not the kind of the run before
abbrev pub run_form : ℕ → ℕ → ℕ → LineForm
run_form kinds left before =
    fixed (codes "run") (number (within 1 (left + 1)) (λ count. number (record (one_of kinds) { other = before }) (λ kind.
    finish (parsed.Run (record { count = count; kind = kind })))))

-- rest LINE CLOCK VECTOR SPANS
abbrev pub rest_form : ℕ → ℕ → List Cell → ℕ → LineForm
rest_form lines points cells least =
    fixed (codes "rest") (number (rising least (within 0 lines)) (λ line. number (within 0 clock_limit) (λ clock.
    number (one_of points) (λ vector.
    spans cells (λ es. finish (parsed.Rest (record { line = line; clock = clock; vector = vector; cells = record { items = es } })))))))

-- the line and the clock of a main entry are 0, and all from L0 to SLOPE of a main point
abbrev pub none_in_main : Kind → ℕ → ℕ
none_in_main Main limit = 1
none_in_main Handler limit = limit
none_in_main Alone limit = limit

abbrev pub shape_of : Head → Kind → Bool → ℕ → Shape
shape_of h kind plain points = record { kind = kind; plain = plain; timed = false; compares = false; points = points; depth = depth_of h kind }

-- a range that a fact of an entry says
abbrev pub span_of_fact : Fact → Ends
span_of_fact Any = ends 0 255
span_of_fact (Between e) = e
span_of_fact (Line a b) = ends 0 255
span_of_fact (Loop a b) = ends 0 255
span_of_fact (Old r) = ends 0 255
span_of_fact OldFlags = ends 0 255

abbrev pub spans_of_facts : List Fact → List Ends
spans_of_facts facts = map span_of_fact facts

unfoldable pub entry_of : Kind → ℕ → ℕ → ℕ → ℕ → Facts → Entry
entry_of kind id pc line clock f = record {
  kind = kind;
  id = id;
  pc = pc;
  line = line;
  clock = clock;
  regs = spans_of_facts f.regs;
  flags = f.flags;
  stack = record { items = spans_of_facts f.stack.items };
  cells = record { items = spans_of_facts f.cells.items };
}

abbrev pub entry_kind : ℕ → Kind
entry_kind n = if n == 0 then Main else Alone

-- entry KIND ID PC LINE CLOCK ITEMS
abbrev pub entry_form : Head → ℕ → ℕ → LineForm
entry_form h lines points =
    fixed (codes "entry") (choice (codes "main" ∷ codes "alone" ∷ []) (λ n. number (one_of points) (λ id. number (within 0 32768) (λ pc.
    number (within 0 (none_in_main (entry_kind n) lines)) (λ line. number (within 0 (none_in_main (entry_kind n) clock_limit)) (λ clock.
    items (shape_of h (entry_kind n) true points) h.cells.items (λ f. parsed.Entry (entry_of (entry_kind n) id pc line clock f))))))))

abbrev pub point_kind : ℕ → Kind
point_kind n = if n == 0 then Main else (if n == 1 then Handler else Alone)

-- only a handler point may be pending
abbrev pub pending_limit : Kind → ℕ
pending_limit Main = 1
pending_limit Handler = 2
pending_limit Alone = 1

-- a count at which a box of so many lines stays within what is left of the instances
abbrev pub count_limit : Kind → ℕ → ℕ → ℕ → ℕ → ℕ
count_limit kind left l0 l1 c0 = least_of (none_in_main kind 256) (c0 + left / (l1 - l0 + 1))

-- the items of the timer stand in the handler's points, from version 2 on
abbrev pub is_timed : Version → Kind → Bool
is_timed First kind = false
is_timed Second kind = is_handler kind
is_timed Third kind = is_handler kind

-- what the flags tell, and a register of a cover, stand in main's points, by the rules of version 3
abbrev pub is_compared : RuleVersion → Kind → Bool
is_compared Two kind = false
is_compared Three Main = true
is_compared Three Handler = false
is_compared Three Alone = false

abbrev pub point_shape : Version → Head → Kind → ℕ → Shape
point_shape version h kind points =
    record (shape_of h kind false points) { timed = is_timed version kind; compares = is_compared h.version kind }

-- the points that a text says: in version 1 nothing is said of the timer
abbrev pub IsPointIn : Version → Point → Type 0
IsPointIn First p = IsTimerLeftOut p
IsPointIn Second p = ⊤
IsPointIn Third p = ⊤

-- point KIND PC L0 L1 C0 C1 CLOCK SLOPE PENDING ITEMS
unfoldable pub point_after : Version → Head → ℕ → ℕ → ℕ → Kind → LineForm
point_after version h lines points left kind =
    number (within 0 32768) (λ pc. number (within 0 (none_in_main kind lines)) (λ l0. number (within l0 (none_in_main kind lines)) (λ l1.
    number (within 0 (none_in_main kind 256)) (λ c0. number (within c0 (count_limit kind left l0 l1 c0)) (λ c1.
    number (within 0 (none_in_main kind clock_limit)) (λ clock. slope (none_in_main kind clock_limit) (λ s.
    number (within 0 (pending_limit kind)) (λ pending.
    items (point_shape version h kind points) h.cells.items (λ f. parsed.Point (point_of (record {
      kind = kind;
      pc = pc;
      l0 = l0;
      l1 = l1;
      c0 = c0;
      c1 = c1;
      clock = clock;
      slope = s;
      pending = pending == 1;
    }) f))))))))))

abbrev pub point_form : Version → Head → ℕ → ℕ → ℕ → LineForm
point_form version h lines points left =
    fixed (codes "point") (choice (codes "main" ∷ codes "handler" ∷ codes "alone" ∷ []) (λ n.
    point_after version h lines points left (point_kind n)))

-- end
abbrev pub end_form : LineForm
end_form = fixed (codes "end") (finish parsed.End)
