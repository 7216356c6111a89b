-- The tests by which a search looks at what an instance passes.
use Rattle.std.specs.Prelude.{ℕ, zero, suc, ◌&&◌, not, Bool, true, false, nat_eq, nat_lt, Option, Some, None, if◌then◌else◌}
use Rattle.uz_schedule.specs.declared.lines.EventKind.{EventKind}
use Rattle.uz_schedule.specs.declared.lines.EventKind.TheVariants.{Sync, Pixel, Sound, Leave}
use Rattle.uz_schedule.specs.declared.states.Instance.{Instance}
use Rattle.uz_search.specs.declared.program.Program.{Program}
use Rattle.uz_search.specs.Following.{clock_on, shown_at}

abbrev pub is_fall : EventKind → Bool
is_fall (Sync level) = nat_eq level 0
is_fall Pixel = false
is_fall Sound = false
is_fall Leave = false

-- at clock q of a line sync 0 is shown exactly at the fall, and nothing before it
abbrev pub is_clear_at : ℕ → ℕ → Option EventKind → Bool
is_clear_at fall q None = not (nat_eq q fall)
is_clear_at fall q (Some e) = if is_fall e then nat_eq q fall else nat_lt fall q

-- so at each of this many clocks on
unfoldable pub is_clear_way : Program → Instance → Option (ℕ × EventKind) → ℕ → Bool
is_clear_way p x emit zero = true
is_clear_way p x emit (suc k) = is_clear_way p x emit k && is_clear_at p.schedule.fall (clock_on p x (suc k)) (shown_at emit (suc k))
