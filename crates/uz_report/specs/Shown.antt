-- What else a line shows: pixels, sounds and returns, when they come, and how far apart pixels are.
use Rattle.std.specs.Prelude.{ℕ, zero, suc, ◌+◌, ◌-◌, ◌==◌, Bool, true, false, List, [], ◌∷◌, ◌++◌, length, map, filter, slice_index_or}
use Rattle.std.specs.Prelude.{Option, Some, None, if◌then◌else◌}
use Rattle.std.specs.List.{count_by}
use Rattle.uz_schedule.specs.declared.lines.Event.{Event}
use Rattle.uz_schedule.specs.declared.lines.EventKind.{EventKind}
use Rattle.uz_schedule.specs.declared.lines.EventKind.TheVariants.{Sync, Pixel, Sound, Leave}
use Rattle.uz_report.specs.declared.shown.Shown.{Shown}
use Rattle.uz_report.specs.declared.shown.Shown.TheVariants.{Pixels, Sounds, Returns}

abbrev pub is_pixel : EventKind → Bool
is_pixel (Sync v) = false
is_pixel Pixel = true
is_pixel Sound = false
is_pixel Leave = false

abbrev pub is_sound : EventKind → Bool
is_sound (Sync v) = false
is_sound Pixel = false
is_sound Sound = true
is_sound Leave = false

abbrev pub is_return : EventKind → Bool
is_return (Sync v) = false
is_return Pixel = false
is_return Sound = false
is_return Leave = true

abbrev pub shows : Shown → EventKind → Bool
shows Pixels kind = is_pixel kind
shows Sounds kind = is_sound kind
shows Returns kind = is_return kind

-- the clocks at which these come
abbrev pub clocks_of : Shown → List Event → List ℕ
clocks_of what events = map (λ e. e.clock) (filter (λ e. shows what e.kind) events)

-- from each clock to the next one of a list: one fewer than there are clocks, and none round the line
abbrev pub distances_below : List ℕ → ℕ → List ℕ
distances_below clocks zero = []
distances_below clocks (suc i) = distances_below clocks i ++ (slice_index_or clocks (i + 1) 0 - slice_index_or clocks i 0) ∷ []

abbrev pub distances : List ℕ → List ℕ
distances clocks = distances_below clocks (length clocks - 1)

-- how often a distance comes
abbrev pub times : ℕ → List ℕ → ℕ
times distance all = count_by (λ d. d == distance) all

-- the first of these clocks that doesn't come this distance after the one before it
abbrev pub odd_after : ℕ → ℕ → List ℕ → Option ℕ
odd_after distance before [] = None
odd_after distance before (clock ∷ clocks) = if clock - before == distance then odd_after distance clock clocks else Some clock

-- the first clock whose distance from the one before it isn't that of the second from the first
abbrev pub odd_in : List ℕ → Option ℕ
odd_in [] = None
odd_in (first ∷ []) = None
odd_in (first ∷ second ∷ clocks) = odd_after (second - first) second clocks
