-- The registers by whose values the results of main's points are covered.
use Rattle.std.specs.Prelude.{◌≡◌, ◌<◌, ℕ, List, [], Option, Some, None, slice_get, if◌then◌else◌}
use Rattle.uz_schedule.specs.declared.kinds.RuleVersion.TheVariants.{Three}
use Rattle.uz_schedule.specs.declared.states.Point.{Point}
use Rattle.uz_transfer.specs.Kinds.{is_main}
use Rattle.uz_search.specs.Pieces.{split_in}
use Rattle.uz_search.specs.declared.program.Program.{Program}
use Rattle.uz_search.specs.declared.splitting.Split.{Split}

-- of main's points alone there is one
abbrev pub split_for : List Split → Point → Option ℕ
split_for splits point = if is_main point.kind then split_in splits point.pc else None

abbrev pub with_split : List Split → Point → Point
with_split splits point = record point { split = split_for splits point }

-- nothing is split
abbrev pub IsWhole : Program → Type 0
IsWhole p = p.splits ≡ []

-- only version 3 of the rules knows of splits, and they are of registers
abbrev pub SplitsFit : Program → Type 0
SplitsFit p = (pc r : ℕ) → split_in p.splits pc ≡ Some r → (r < 32) × (p.head.version ≡ Three)

-- each of these is of a register
abbrev pub AreRegisters : List Split → Type 0
AreRegisters splits = (i : ℕ) (s : Split) → slice_get splits i ≡ Some s → s.register < 32
