-- Words and lines joined, as they are put one after another at the end of a text.
use Rattle.std.specs.Prelude.{ℕ, ◌+◌, ◌==◌, List, [], ◌∷◌, ◌++◌, codes, decimal, map, if◌then◌else◌}
use Prim.Native.Char.{code}
use Rattle.uz_schedule.specs.declared.header.Cell.{Cell}
use Rattle.uz_schedule.specs.declared.lines.Schedule.{Schedule}
use Rattle.uz_schedule.specs.declared.states.Entry.{Entry}
use Rattle.uz_schedule.specs.declared.states.Point.{Point}
use Rattle.uz_schedule.specs.declared.states.Rest.{Rest}
use Rattle.uz_schedule.specs.declared.certificate.Cert.{Cert}
use Rattle.uz_cert_writer.specs.Spelling.{line_of, kind_word, signed_word, truth_word, register_items, pair_items, flag_items, slot_items}
use Rattle.uz_cert_lines.specs.Named.{NamedItem, named_items, NamedValues, values_of}
use Rattle.uz_cert_writer.specs.Spelling.{cell_items, value_items, successor_items, range_facts, ends_word, size_words, irq_words, stack_words, cell_words}
use Rattle.uz_cert_writer.specs.Spelling.{fall_words}
use Rattle.uz_cert_lines.specs.Lines.{head_line, text_version}
use Rattle.uz_cert_lines.specs.declared.version.Version.TheVariants.{Second}
use Rattle.uz_cert_writer.specs.Spelling.{kinds_then, runs_of, run_words, rest_words, entry_words, point_words}

-- each word with a space (32) before it
abbrev pub spaced : List (List ℕ) → List ℕ
spaced [] = []
spaced (w ∷ ws) = code " " ∷ (w ++ spaced ws)

-- each line with an LF (10) after it
abbrev pub ended : List (List ℕ) → List ℕ
ended [] = []
ended (l ∷ ls) = l ++ (code "\n" ∷ ended ls)

-- the line of these words, with its LF
abbrev pub line_end : List (List ℕ) → List ℕ
line_end words = line_of words ++ (code "\n" ∷ [])

-- the lines of runs
abbrev pub run_lines : List (ℕ × ℕ) → List (List ℕ)
run_lines runs = map (λ r. line_of (run_words r)) runs

-- so many lines of a kind before these runs
abbrev pub run_on : ℕ → ℕ → List (ℕ × ℕ) → List (ℕ × ℕ)
run_on count kind [] = (count, kind) ∷ []
run_on count kind (r ∷ rs) = if r.1 == kind then (r.0 + count, kind) ∷ rs else (count, kind) ∷ r ∷ rs

-- the line of a rest
abbrev pub rest_text : Rest → List ℕ
rest_text r =
    codes "rest" ++ (spaced (decimal r.line ∷ decimal r.clock ∷ decimal r.vector ∷ []) ++ (spaced (map (ends_word 255) r.cells.items)
    ++ code "\n" ∷ []))

-- an entry's words between `entry` and its items
abbrev pub entry_place : Entry → List (List ℕ)
entry_place e = kind_word e.kind ∷ decimal e.id ∷ decimal e.pc ∷ decimal e.line ∷ decimal e.clock ∷ []

-- an entry's items
abbrev pub entry_facts : List Cell → Entry → List ℕ
entry_facts cells e =
    spaced (register_items e.kind 0 (range_facts e.regs)) ++ (spaced (flag_items e.kind (codes "cznvsht") e.flags)
    ++ (spaced (slot_items (range_facts e.stack.items)) ++ spaced (cell_items e.kind 0 cells (range_facts e.cells.items))))

-- the line of an entry
abbrev pub entry_text : List Cell → Entry → List ℕ
entry_text cells e = codes "entry" ++ (spaced (entry_place e) ++ (entry_facts cells e ++ code "\n" ∷ []))

-- a point's words from its kind to its clock
abbrev pub point_box : Point → List (List ℕ)
point_box p = kind_word p.kind ∷ decimal p.pc ∷ decimal p.l0 ∷ decimal p.l1 ∷ decimal p.c0 ∷ decimal p.c1 ∷ decimal p.clock ∷ []

-- its slope, and whether an interrupt waits
abbrev pub point_steps : Point → List (List ℕ)
point_steps p = signed_word p.slope ∷ truth_word p.pending ∷ []

-- a point's words between `point` and its items
abbrev pub point_place : Point → List (List ℕ)
point_place p = point_box p ++ point_steps p

-- a point's items of registers, pairs and flags
abbrev pub core_text : Point → List ℕ
core_text p =
    spaced (register_items p.kind 0 p.regs)
    ++ (spaced (pair_items (codes "xyz") p.pairs) ++ spaced (flag_items p.kind (codes "cznvsht") p.flags))

-- a point's items of slots and cells
abbrev pub memory_text : List Cell → Point → List ℕ
memory_text cells p = spaced (slot_items p.stack.items) ++ spaced (cell_items p.kind 0 cells p.cells.items)

-- items of one value, and what follows them
abbrev pub listed_text : (is : List NamedItem) → NamedValues is → List ℕ → List ℕ
listed_text [] v later = later
listed_text (i ∷ is) v later = spaced (value_items i v.0) ++ listed_text is v.1 later

-- a point's items of one value, and successors
abbrev pub onward_text : Point → List ℕ
onward_text p = listed_text named_items (values_of p) (spaced (successor_items p.next.items))

-- the line of a point
abbrev pub point_text : List Cell → Point → List ℕ
point_text cells p =
    codes "point" ++ (spaced (point_place p) ++ (core_text p ++ (memory_text cells p ++ (onward_text p ++ code "\n" ∷ []))))

-- the lines up to those of the cells
abbrev pub head_text : Cert → List ℕ
head_text c =
    line_end (head_line (text_version c.head.version) ∷ []) ++ (line_end (size_words c) ++ (line_end (irq_words c.head) ++ (line_end (stack_words c.head)
    ++ ended (map (λ m. line_of (cell_words m)) c.head.cells.items))))

-- the lines of the schedule, which are the same from version 2 on
abbrev pub schedule_text : Schedule → List ℕ
schedule_text s = ended (kinds_then Second s.kinds s.lengths []) ++ (line_end (fall_words s) ++ ended (run_lines (runs_of s.lines)))

-- the lines from the rests on
abbrev pub state_text : Cert → List ℕ
state_text c =
    ended (map (λ r. line_of (rest_words r)) c.rests) ++ (line_end (entry_words c.head.cells.items c.entry)
    ++ (ended (map (λ p. line_of (point_words c.head.cells.items p)) c.points) ++ codes "end\n"))
