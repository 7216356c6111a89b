-- A frame of scanlines by positions alone: clock k of line l is position `scanline` * l + k, and positions are taken modulo as
-- many clocks a line. This is how certificates of version 1 are read, whose lines have no length of their own.
use Rattle.std.specs.Prelude.{◌≡◌, All, Contains, ℕ, ◌+◌, ◌-◌, ◌*◌, ◌/◌, ◌%◌, ◌<◌, ◌≤◌, true, pos, ◌+ℤ◌, ◌*ℤ◌, length, Option, Some, None}
use Rattle.std.specs.Prelude.{unwrap_or, option_and_then, slice_get, if◌then◌else◌}
use Rattle.uz_schedule.specs.Instances.{is_in_box, clock_below, instance_of, entry_instance_at, handler_entry}
use Rattle.uz_schedule.specs.Schedule.{scanline, next_line, event_in_kind, events_of, sync_of, last_level, response_clocks}
use Rattle.uz_schedule.specs.declared.certificate.Cert.{Cert}
use Rattle.uz_schedule.specs.declared.kinds.Kind.TheVariants.{Main}
use Rattle.uz_schedule.specs.declared.lines.EventKind.{EventKind}
use Rattle.uz_schedule.specs.declared.lines.EventKind.TheVariants.{Leave}
use Rattle.uz_schedule.specs.declared.lines.Schedule.{Schedule}
use Rattle.uz_schedule.specs.declared.states.Instance.{Instance}
use Rattle.uz_schedule.specs.declared.states.Point.{Point}
use Rattle.uz_schedule.specs.declared.states.Rest.{Rest}
use Rattle.uz_rules.specs.Inside.{inside}

-- each kind of line has the clocks of a scanline
abbrev pub AreScanlines : Schedule → Type 0
AreScanlines s = All (λ n. n ≡ scanline) s.lengths

-- The schedule

abbrev pub position : ℕ → ℕ → ℕ
position l k = scanline * l + k

abbrev pub frame_clocks : Schedule → ℕ
frame_clocks s = scanline * length s.lines

-- the event at a position, that of the clock of its line
abbrev pub event_by_position : Schedule → ℕ → Option EventKind
event_by_position s p = event_in_kind (events_of s (p % frame_clocks s / scanline)) (p % frame_clocks s % scanline)

-- the level at a position: the last one set at it or before it, round the frame
abbrev pub level_by_position : Schedule → ℕ → Option ℕ
level_by_position s p = last_level (λ q. sync_of (event_by_position s q)) (frame_clocks s) (p % frame_clocks s + frame_clocks s)

-- Instances

abbrev pub instance_by_level : Schedule → Point → ℕ → ℕ → ℕ → Option Instance
instance_by_level s p l c clock = option_and_then (λ level. Some (instance_of p l c clock level)) (level_by_position s (position l clock))

-- of a point at line l and count c: where they are in its box, the clock is one of a scanline, and there is a level
abbrev pub instance_by_point : Schedule → Point → ℕ → ℕ → Option Instance
instance_by_point s p l c =
    if is_in_box p l c
    then option_and_then (instance_by_level s p l c) (clock_below scanline (pos p.clock +ℤ p.slope *ℤ pos c))
    else None

abbrev pub instance_by_position : Cert → ℕ → ℕ → ℕ → Option Instance
instance_by_position cert id l c = option_and_then (λ p. instance_by_point cert.schedule p l c) (slice_get cert.points id)

-- an instance lies in one of a point's
pub record LiesByPosition (cert : Cert) (id : ℕ) (inst : Instance) : Type 0 where
  pub line : ℕ
  pub count : ℕ
  pub point_instance : Instance
  pub is : instance_by_position cert id line count ≡ Some point_instance
  pub inside : inside inst point_instance ≡ true

-- The rules of the frame

abbrev pub level_or_zero_by_position : Schedule → ℕ → ℕ
level_or_zero_by_position s p = unwrap_or (level_by_position s p) 0

abbrev pub entry_by_position : Cert → Instance
entry_by_position cert =
    entry_instance_at cert.entry (level_or_zero_by_position cert.schedule (position cert.entry.line cert.entry.clock))

-- the handler's first state where its interrupt is taken at clock c of the line after the rest's: OCR1A is the last clock of a
-- scanline
abbrev pub rest_by_position : Cert → Rest → ℕ → Instance
rest_by_position cert rest c =
    handler_entry rest.cells.items (next_line cert.schedule rest.line) (c + response_clocks cert.head.irq)
    (level_or_zero_by_position cert.schedule (position (next_line cert.schedule rest.line) (c + response_clocks cert.head.irq)))
    (scanline - 1)

-- The handler's return stands at the rest's clock, and no event after it on its line; nothing stands on the next line up to
-- the latest end of an interrupt's entry; and the handler's first state lies in the vector's point, whatever the latency
pub record RestByPosition (cert : Cert) (rest : Rest) : Type 0 where
  pub leave : event_by_position cert.schedule (position rest.line rest.clock) ≡ Some Leave
  pub quiet : (k : ℕ) → rest.clock < k → k < scanline → event_by_position cert.schedule (position rest.line k) ≡ None
  pub quiet_next : (k : ℕ) → k ≤ response_clocks cert.head.irq + 3
      → event_by_position cert.schedule (position (next_line cert.schedule rest.line) k) ≡ None
  pub vector : (c : ℕ) → c ≤ 3 → LiesByPosition cert rest.vector (rest_by_position cert rest c)

-- a main entry has a rest, and the entry's state lies in its point
pub record EntryByPosition (cert : Cert) : Type 0 where
  pub rest : cert.entry.kind ≡ Main → (rest : Rest) × Contains cert.rests rest
  pub lies : LiesByPosition cert cert.entry.id (entry_by_position cert)
