-- What holds of a draft where a kind of line is due, and where none is.
use Rattle.uz_cert.proofs.Common.{◌≡◌, ℕ, ◌<◌, ◌≤◌, true, false, eqb, length, arith, Some, None, Entry, lacks}
use Rattle.uz_cert.proofs.Common.{expected_line, Draft, ◌≢◌, Bool, refl, Option, IsAfterCells, ExpectedLine}
use Rattle.uz_cert.specs.{Kept.IsBody}
use Rattle.std.proofs.{lemmas.Bool.Decides.nat_tests}
use Rattle.uz_cert.specs.declared.expected_line.ExpectedLine.TheVariants as expected

-- after all runs
pub record InStates (d : Draft) : Type 0 where
  pub after : IsAfterCells d
  pub none_owed : d.owed ≡ 0
  pub kinds : d.sizes.kinds ≤ length d.kinds
  pub fall : d.fall ≢ 0
  pub lines : d.sizes.lines ≤ length d.lines

-- what holds where this is due
abbrev pub IsExpected : Draft → ExpectedLine → Type 0
IsExpected d expected.Size = d.read ≡ 1
IsExpected d expected.Irq = d.read ≡ 2
IsExpected d expected.Stack = d.read ≡ 3
IsExpected d expected.Cell = IsBody d × (length d.head.cells.items < d.sizes.cells)
IsExpected d expected.Event = IsAfterCells d × (1 ≤ d.owed)
IsExpected d expected.Kind = IsAfterCells d × (d.owed ≡ 0) × (length d.kinds < d.sizes.kinds)
IsExpected d expected.Fall = IsAfterCells d × (d.owed ≡ 0) × (d.sizes.kinds ≤ length d.kinds) × (d.fall ≡ 0)
IsExpected d expected.Run = IsAfterCells d × (d.fall ≢ 0) × (length d.lines < d.sizes.lines)
IsExpected d expected.Rest = InStates d × (length d.rests < d.sizes.rests)
IsExpected d expected.Entry = InStates d × (d.sizes.rests ≤ length d.rests) × (lacks d.entry ≡ true)
IsExpected d expected.Point = InStates d × (d.sizes.rests ≤ length d.rests) × (lacks d.entry ≡ false) × (length d.points < d.sizes.points)
IsExpected d expected.End = InStates d × (d.sizes.points ≤ length d.points) × (d.ended ≡ false)

pub record IsWhole (d : Draft) : Type 0 where
  pub states : InStates d
  pub rests : d.sizes.rests ≤ length d.rests
  pub entry : lacks d.entry ≡ false
  pub points : d.sizes.points ≤ length d.points
  pub ended : d.ended ≡ true

-- due after all runs
abbrev is_late : Option ExpectedLine → Bool
is_late None = true
is_late (Some expected.Rest) = true
is_late (Some expected.Entry) = true
is_late (Some expected.Point) = true
is_late (Some expected.End) = true
is_late (Some early) = false

in_states : (d : Draft) (x : Option ExpectedLine) → 1 ≤ d.read → expected_line d ≡ x → is_late x ≡ true → InStates d
unfolding expected_line
in_states d x some e late = record {
  after = grind (arith, nat_tests);
  none_owed = grind (arith, nat_tests);
  kinds = grind (arith, nat_tests);
  fall = grind (arith, nat_tests);
  lines = grind (arith, nat_tests);
}

pub is_expected : (d : Draft) (expected : ExpectedLine) → 1 ≤ d.read → expected_line d ≡ Some expected → IsExpected d expected
unfolding expected_line
is_expected d expected.Size some e = grind (arith, nat_tests)
is_expected d expected.Irq some e = grind (arith, nat_tests)
is_expected d expected.Stack some e = grind (arith, nat_tests)
is_expected d expected.Cell some e = grind (arith, nat_tests)
is_expected d expected.Event some e = grind (arith, nat_tests)
is_expected d expected.Kind some e = grind (arith, nat_tests)
is_expected d expected.Fall some e = grind (arith, nat_tests)
is_expected d expected.Run some e = grind (arith, nat_tests)
is_expected d expected.Rest some e = (in_states d (Some expected.Rest) some e refl, grind (arith, nat_tests))
is_expected d expected.Entry some e = (in_states d (Some expected.Entry) some e refl, grind (arith, nat_tests), grind (arith, nat_tests))
is_expected d expected.Point some e = (in_states d (Some expected.Point) some e refl, grind (arith, nat_tests), grind (arith, nat_tests), grind (arith, nat_tests))
is_expected d expected.End some e = (in_states d (Some expected.End) some e refl, grind (arith, nat_tests), grind (arith, nat_tests))

pub is_whole : (d : Draft) → 1 ≤ d.read → expected_line d ≡ None → IsWhole d
unfolding expected_line
is_whole d some e = record {
  states = in_states d None some e refl;
  rests = grind (arith, nat_tests);
  entry = grind (arith, nat_tests);
  points = grind (arith, nat_tests);
  ended = grind (arith, nat_tests);
}

-- how far a text was read

abbrev pub PastCells : Draft → Type 0
PastCells d = d.sizes.cells ≡ length d.head.cells.items

abbrev pub PastKinds : Draft → Type 0
PastKinds d = PastCells d × (d.owed ≡ 0) × (d.sizes.kinds ≡ length d.kinds)

abbrev pub PastFall : Draft → Type 0
PastFall d = PastKinds d × (1 ≤ d.fall)

abbrev pub PastRuns : Draft → Type 0
PastRuns d = PastFall d × (d.sizes.lines ≡ length d.lines)

abbrev pub PastRests : Draft → Type 0
PastRests d = PastRuns d × (d.sizes.rests ≡ length d.rests)

abbrev pub PastEntry : Draft → Entry → Type 0
PastEntry d e = PastRests d × (d.entry ≡ Some e)

abbrev pub PastPoints : Draft → Entry → Type 0
PastPoints d e = PastEntry d e × (d.sizes.points ≡ length d.points)

-- tests

pub not_equal : (a b : ℕ) → b < a → eqb a b ≡ false
not_equal a b h = grind (arith, nat_tests)

pub equal : (a b : ℕ) → a ≡ b → eqb a b ≡ true
equal a b h = grind (arith, nat_tests)

-- the lines of the head

pub due_size : (d : Draft) → d.read ≡ 1 → expected_line d ≡ Some expected.Size
unfolding expected_line
due_size d h = grind (arith, nat_tests)

pub due_irq : (d : Draft) → d.read ≡ 2 → expected_line d ≡ Some expected.Irq
unfolding expected_line
due_irq d h = grind (arith, nat_tests)

pub due_stack : (d : Draft) → d.read ≡ 3 → expected_line d ≡ Some expected.Stack
unfolding expected_line
due_stack d h = grind (arith, nat_tests)

pub due_cell : (d : Draft) → 4 ≤ d.read → length d.head.cells.items < d.sizes.cells → expected_line d ≡ Some expected.Cell
unfolding expected_line
due_cell d b room = grind (arith, nat_tests)

pub due_event : (d : Draft) → 4 ≤ d.read → PastCells d → 1 ≤ d.owed → expected_line d ≡ Some expected.Event
unfolding expected_line
due_event d b p h = grind (arith, nat_tests)

pub due_kind : (d : Draft) → 4 ≤ d.read → PastCells d → d.owed ≡ 0 → length d.kinds < d.sizes.kinds → expected_line d ≡ Some expected.Kind
unfolding expected_line
due_kind d b p o room = grind (arith, nat_tests)

pub due_fall : (d : Draft) → 4 ≤ d.read → PastKinds d → d.fall ≡ 0 → expected_line d ≡ Some expected.Fall
unfolding expected_line
due_fall d b p h = grind (arith, nat_tests)

pub due_run : (d : Draft) → 4 ≤ d.read → PastFall d → length d.lines < d.sizes.lines → expected_line d ≡ Some expected.Run
unfolding expected_line
due_run d b p room = grind (arith, nat_tests)

pub due_rest : (d : Draft) → 4 ≤ d.read → PastRuns d → length d.rests < d.sizes.rests → expected_line d ≡ Some expected.Rest
unfolding expected_line
due_rest d b p room = grind (arith, nat_tests)

pub due_entry : (d : Draft) → 4 ≤ d.read → PastRests d → d.entry ≡ None → expected_line d ≡ Some expected.Entry
unfolding expected_line
due_entry d b p h = grind (arith, nat_tests)

pub due_point : (d : Draft) (e : Entry) → 4 ≤ d.read → PastEntry d e → length d.points < d.sizes.points → expected_line d ≡ Some expected.Point
unfolding expected_line
due_point d e b p room = grind (arith, nat_tests)

pub due_end : (d : Draft) (e : Entry) → 4 ≤ d.read → PastPoints d e → d.ended ≡ false → expected_line d ≡ Some expected.End
unfolding expected_line
due_end d e b p h = grind (arith, nat_tests)

pub due_none : (d : Draft) (e : Entry) → 4 ≤ d.read → PastPoints d e → d.ended ≡ true → expected_line d ≡ None
unfolding expected_line
due_none d e b p h = grind (arith, nat_tests)
