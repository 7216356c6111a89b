-- What the lines of a certificate's text say so far, and what the next line has to be.
use Rattle.std.specs.Prelude.{◌+◌, ◌-◌, ◌==◌, nat_lt, Bool, true, false, [], ◌∷◌, ◌++◌, length, replicate, Option, Some, None}
use Rattle.std.specs.Prelude.{if◌then◌else◌}
use Rattle.uz_schedule.specs.Schedule.{scanline}
use Rattle.uz_schedule.specs.WellFormed.{instances_of}
use Rattle.uz_schedule.specs.declared.kinds.Response.TheVariants.{Four}
use Rattle.uz_schedule.specs.declared.lines.Event.{Event}
use Rattle.uz_schedule.specs.declared.states.Entry.{Entry}
use Rattle.uz_cert_lines.specs.Forms.{LineForm}
use Rattle.uz_cert_lines.specs.Lines.{size_form, irq_form, stack_form, cell_form, kind_form, event_form, fall_form, run_form, rest_form}
use Rattle.uz_cert_lines.specs.Lines.{entry_form, point_form, end_form, rules_of}
use Rattle.uz_cert_lines.specs.declared.lines.ParsedLine.{ParsedLine}
use Rattle.uz_cert_lines.specs.declared.lines.ParsedLine.TheVariants as parsed
use Rattle.uz_cert_lines.specs.declared.version.Version.{Version}
use Rattle.uz_cert.specs.declared.expected_line.ExpectedLine.{ExpectedLine}
use Rattle.uz_cert.specs.declared.expected_line.ExpectedLine.TheVariants as expected
use Rattle.uz_cert.specs.declared.draft.Draft.{Draft}

-- before the lines that say them, sizes and stack are within their limits
abbrev pub first_draft : Version → Draft
first_draft version = record {
  version = version;
  read = 1;
  sizes = record { kinds = 1; lines = 1; rests = 0; points = 1; cells = 0 };
  head = record { irq = Four; lo = 256; hi = 4351; main = 0; handler = 0; cells = record { items = [] }; version = rules_of version };
  cell_least = 0;
  kinds = [];
  lengths = [];
  owed = 0;
  clocks = scanline;
  events = [];
  event_least = 0;
  fall = 0;
  lines = [];
  run_kind = 4294967295;
  rests = [];
  rest_least = 0;
  entry = None;
  points = [];
  left = 16777216;
  ended = false;
}

-- The order of lines: the second line says the sizes, the third the response and the fourth the stack. Then come the cells,
-- the kinds of line, each with its events, the fall, runs until each line of the frame has its kind, the rests, the
-- entry, the points and the end

abbrev pub lacks : Option Entry → Bool
lacks None = true
lacks (Some e) = false

abbrev pub expected_in_states : Draft → Option ExpectedLine
expected_in_states d =
    if nat_lt (length d.rests) d.sizes.rests then Some expected.Rest
    else (if lacks d.entry then Some expected.Entry
    else (if nat_lt (length d.points) d.sizes.points then Some expected.Point
    else (if d.ended then None else Some expected.End)))

abbrev pub expected_in_schedule : Draft → Option ExpectedLine
expected_in_schedule d =
    if nat_lt 0 d.owed then Some expected.Event
    else (if nat_lt (length d.kinds) d.sizes.kinds then Some expected.Kind
    else (if d.fall == 0 then Some expected.Fall
    else (if nat_lt (length d.lines) d.sizes.lines then Some expected.Run
    else expected_in_states d)))

unfoldable pub expected_line : Draft → Option ExpectedLine
expected_line d =
    if d.read == 1 then Some expected.Size
    else (if d.read == 2 then Some expected.Irq
    else (if d.read == 3 then Some expected.Stack
    else (if nat_lt (length d.head.cells.items) d.sizes.cells then Some expected.Cell
    else expected_in_schedule d)))

-- the form of the line that is due
unfoldable pub form_of : Draft → ExpectedLine → LineForm
form_of d expected.Size = size_form
form_of d expected.Irq = irq_form
form_of d expected.Stack = stack_form
form_of d expected.Cell = cell_form d.head.lo d.head.hi d.cell_least
form_of d expected.Kind = kind_form d.version
form_of d expected.Event = event_form d.clocks d.event_least
form_of d expected.Fall = fall_form
form_of d expected.Run = run_form d.sizes.kinds (d.sizes.lines - length d.lines) d.run_kind
form_of d expected.Rest = rest_form d.sizes.lines d.sizes.points d.head.cells.items d.rest_least
form_of d expected.Entry = entry_form d.head d.sizes.lines d.sizes.points
form_of d expected.Point = point_form d.version d.head d.sizes.lines d.sizes.points d.left
form_of d expected.End = end_form

-- What a line adds

-- a kind of line has all its events
abbrev pub kind_closed : Draft → Draft
kind_closed d =
    if d.owed == 0
    then record d {
      kinds = d.kinds ++ d.events ∷ [];
      lengths = d.lengths ++ d.clocks ∷ [];
      clocks = scanline;
      events = [];
      event_least = 0;
    }
    else d

abbrev pub with_event : Draft → Event → Draft
with_event d e = kind_closed (record d { owed = d.owed - 1; events = d.events ++ e ∷ []; event_least = e.clock + 1 })

abbrev pub with_said : Draft → ParsedLine → Draft
with_said d (parsed.Size s) = record d { sizes = s }
with_said d (parsed.Irq r) = record d { head = record d.head { irq = r } }
with_said d (parsed.Stack s) = record d { head = record d.head { lo = s.lo; hi = s.hi; main = s.main; handler = s.handler } }
with_said d (parsed.Cell c) = record d {
  head = record d.head { cells = record { items = d.head.cells.items ++ c ∷ [] } };
  cell_least = c.at + 1;
}
with_said d (parsed.Kind k) = record d { owed = k.events; clocks = k.clocks }
with_said d (parsed.Event e) = with_event d e
with_said d (parsed.Fall clock) = record d { fall = clock }
with_said d (parsed.Run r) = record d { lines = d.lines ++ replicate r.count r.kind; run_kind = r.kind }
with_said d (parsed.Rest r) = record d { rests = d.rests ++ r ∷ []; rest_least = r.line + 1 }
with_said d (parsed.Entry e) = record d { entry = Some e }
with_said d (parsed.Point p) = record d { points = d.points ++ p ∷ []; left = d.left - instances_of p }
with_said d parsed.End = record d { ended = true }

-- one more line is read, and says this
unfoldable pub draft_after : Draft → ParsedLine → Draft
draft_after d s = record (with_said d s) { read = d.read + 1 }
