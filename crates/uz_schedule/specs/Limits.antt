-- The limits and orders that the parts of a schedule keep. The numbers are this project's profile: those of the
-- certificate's text.
use Rattle.std.specs.Prelude.{ℕ, ◌<◌, ◌≤◌, ◌+◌, ◌-◌, ◌&&◌, ◌||◌, ◌==◌, nat_le, nat_lt, Bool, true, false, IsTrue, List, [], ◌∷◌, All, map}
use Rattle.std.specs.Prelude.{length, ⊤}
use Rattle.uz_schedule.specs.Schedule.{scanline, half_line}
use Rattle.uz_schedule.specs.declared.lines.Schedule.{Schedule}
use Rattle.uz_schedule.specs.declared.lines.Event.{Event}
use Rattle.uz_schedule.specs.declared.lines.EventKind.{EventKind}
use Rattle.uz_schedule.specs.declared.lines.EventKind.TheVariants.{Sync, Pixel, Sound, Leave}

-- each clock of a text is below this: that of the longest line
abbrev pub clock_limit : ℕ
clock_limit = scanline

-- at most this many events stand in a line: one at each clock of the longest one
abbrev pub most_events : ℕ
most_events = scanline

-- at most this many kinds of line, and this many lines
abbrev pub most_lines : ℕ
most_lines = 525

-- the first number is at least this, and each later one is above the one before it
abbrev pub rises_from : ℕ → List ℕ → Bool
rises_from least [] = true
rises_from least (x ∷ xs) = nat_le least x && rises_from (x + 1) xs

-- each number is above the one before it
abbrev pub rises : List ℕ → Bool
rises xs = rises_from 0 xs

-- a sync event sets the level 0 or 1
abbrev pub KindFits : EventKind → Type 0
KindFits (Sync level) = level ≤ 1
KindFits Pixel = ⊤
KindFits Sound = ⊤
KindFits Leave = ⊤

pub record EventFits (e : Event) : Type 0 where
  pub clock : e.clock < clock_limit
  pub kind : KindFits e.kind

-- the events of a kind of line, clocks rising
pub record EventsFit (events : List Event) : Type 0 where
  pub some : 1 ≤ length events
  pub few : length events ≤ most_events
  pub each : All EventFits events
  pub rise : IsTrue (rises (map (λ e. e.clock) events))

-- the kinds of line
pub record KindsFit (kinds : List (List Event)) : Type 0 where
  pub some : 1 ≤ length kinds
  pub few : length kinds ≤ most_lines
  pub each : All EventsFit kinds

-- the lines of a frame, each of one of this many kinds
pub record LinesFit (kinds : ℕ) (lines : List ℕ) : Type 0 where
  pub some : 1 ≤ length lines
  pub few : length lines ≤ most_lines
  pub there : All (λ kind. kind < kinds) lines

-- a kind of line has the clocks of a scanline, or of half of one
abbrev pub is_length : ℕ → Bool
is_length n = n == half_line || n == scanline

-- the last clock of a line: a handler that keeps time has OCR1A there
abbrev pub is_top : ℕ → Bool
is_top n = n == half_line - 1 || n == scanline - 1

-- each event stands at a clock of a line of this length
abbrev pub clocks_below : List Event → ℕ → Bool
clocks_below [] n = true
clocks_below (e ∷ events) n = nat_lt e.clock n && clocks_below events n

-- one length for each kind, and clocks of events below the length of their kind
abbrev pub lengths_fit : List (List Event) → List ℕ → Bool
lengths_fit [] [] = true
lengths_fit [] (n ∷ lengths) = false
lengths_fit (events ∷ kinds) [] = false
lengths_fit (events ∷ kinds) (n ∷ lengths) = (is_length n && clocks_below events n) && lengths_fit kinds lengths

-- the fall of sync isn't at clock 0
pub record ScheduleFits (s : Schedule) : Type 0 where
  pub kinds : KindsFit s.kinds
  pub lengths : IsTrue (lengths_fit s.kinds s.lengths)
  pub lines : LinesFit (length s.kinds) s.lines
  pub fall_some : 1 ≤ s.fall
  pub fall_in_line : s.fall < clock_limit
