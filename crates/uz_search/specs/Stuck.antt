-- Why a trail is refused at its last instance.
use Rattle.std.specs.Prelude.{◌≡◌, ◌≢◌, ◌⊎◌, ℕ, ◌<◌, ◌≤◌, true, false, Option, Some, Ok, Err}
use Rattle.avr_table.specs.declared.Instr.{Instr}
use Rattle.uz_schedule.specs.declared.kinds.Kind.TheVariants.{Main}
use Rattle.uz_schedule.specs.declared.lines.EventKind.{EventKind}
use Rattle.uz_schedule.specs.declared.lines.EventKind.TheVariants.{Sync}
use Rattle.uz_schedule.specs.declared.states.Instance.{Instance}
use Rattle.uz_transfer.specs.declared.fail.Fail.{Fail}
use Rattle.uz_transfer.specs.declared.fail.Fail.TheVariants.{Edge, Restore}
use Rattle.uz_transfer.specs.Step.{IsReadAt}
use Rattle.uz_rules.specs.declared.next.Next.{Next}
use Rattle.uz_rules.specs.Inside.{restored}
use Rattle.uz_rules.specs.Local.{row_emits_in_main}
use Rattle.uz_search.specs.declared.program.Program.{Program}
use Rattle.uz_search.specs.Following.{Among, Flash, After, clock_on, most_clocks, shown_at}

-- it is main, and stores what is seen outside
pub record EmitsInMain (image : Flash) (x : Instance) : Type 0 where
  pub row : Option Instr
  pub reads : IsReadAt image x.pc row
  pub emits : row_emits_in_main row x ≡ true

-- it is a return that isn't restored
pub record IsUnrestored (next : Next) : Type 0 where
  pub back : next.back ≡ true
  pub end : Instance
  pub ends : Among next.out.items end
  pub kept : restored end ≡ false

-- what is shown at clock q of a line breaks its steadiness: an event before the fall, sync 0 at another clock, or anything but sync 0 at
-- the fall
abbrev pub IsUnsteady : ℕ → ℕ → Option EventKind → Type 0
IsUnsteady fall q shown =
    ((e : EventKind) × (shown ≡ Some e) × (q < fall))
    ⊎ (((shown ≡ Some (Sync 0)) × (q ≢ fall))
    ⊎ ((q ≡ fall) × (shown ≢ Some (Sync 0))))

-- outside main it passes such a clock
pub record PassesUnsteady (p : Program) (x : Instance) (next : Next) : Type 0 where
  pub apart : x.kind ≢ Main
  pub clocks : ℕ
  pub some : 1 ≤ clocks
  pub few : clocks ≤ most_clocks p x next.out.items
  pub unsteady : IsUnsteady p.schedule.fall (clock_on p x clocks) (shown_at next.emit clocks)

-- why an instance that has results is refused
abbrev pub StuckWith : Flash → Program → Instance → Next → Fail → Type 0
StuckWith image p x next why =
    ((why ≡ Edge) × (EmitsInMain image x ⊎ PassesUnsteady p x next))
    ⊎ ((why ≡ Restore) × IsUnrestored next)

-- a trail that ends in this instance is refused
abbrev pub IsStuck : Flash → Program → Instance → Fail → Type 0
IsStuck image p x why = After image p x (Err why) ⊎ ((next : Next) × After image p x (Ok next) × StuckWith image p x next why)
