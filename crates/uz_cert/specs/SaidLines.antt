-- The words of a line that says this, and the kind of line that it is.
use Rattle.std.specs.Prelude.{ℕ, List, [], ◌∷◌, codes, decimal}
use Rattle.uz_schedule.specs.declared.header.Head.{Head}
use Rattle.uz_cert_lines.specs.declared.lines.ParsedLine.{ParsedLine}
use Rattle.uz_cert_lines.specs.declared.lines.ParsedLine.TheVariants as parsed
use Rattle.uz_cert_lines.specs.declared.version.Version.{Version}
use Rattle.uz_cert_writer.specs.Spelling.{cell_words, kind_words, event_words, run_words, rest_words, entry_words, point_words}
use Rattle.uz_cert_laws.specs.LineWords.{sizes_words, response_words, stack_line_words}
use Rattle.uz_cert.specs.declared.expected_line.ExpectedLine.{ExpectedLine}
use Rattle.uz_cert.specs.declared.expected_line.ExpectedLine.TheVariants as expected

abbrev pub said_words : Version → Head → ParsedLine → List (List ℕ)
said_words v h (parsed.Size s) = sizes_words s
said_words v h (parsed.Irq r) = response_words r
said_words v h (parsed.Stack s) = stack_line_words s
said_words v h (parsed.Cell c) = cell_words c
said_words v h (parsed.Kind k) = kind_words v k.events k.clocks
said_words v h (parsed.Event e) = event_words e
said_words v h (parsed.Fall clock) = codes "fall" ∷ decimal clock ∷ []
said_words v h (parsed.Run r) = run_words (r.count, r.kind)
said_words v h (parsed.Rest r) = rest_words r
said_words v h (parsed.Entry e) = entry_words h.cells.items e
said_words v h (parsed.Point p) = point_words h.cells.items p
said_words v h parsed.End = codes "end" ∷ []

abbrev pub expected_as : ParsedLine → ExpectedLine
expected_as (parsed.Size s) = expected.Size
expected_as (parsed.Irq r) = expected.Irq
expected_as (parsed.Stack s) = expected.Stack
expected_as (parsed.Cell c) = expected.Cell
expected_as (parsed.Kind n) = expected.Kind
expected_as (parsed.Event e) = expected.Event
expected_as (parsed.Fall k) = expected.Fall
expected_as (parsed.Run r) = expected.Run
expected_as (parsed.Rest r) = expected.Rest
expected_as (parsed.Entry e) = expected.Entry
expected_as (parsed.Point p) = expected.Point
expected_as parsed.End = expected.End
