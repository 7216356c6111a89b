-- What a window onto a run shows of its turns.
use Rattle.std.specs.Prelude.{◌≡◌, ℕ, ◌+◌, ◌<◌, ◌≤◌, Bool, true, false, if◌then◌else◌, List, ◌++◌, length, slice_index_or, Option, None, Some}
use Rattle.uz_core.specs.declared.machine.Edge.{Edge}
use Rattle.uz_core.specs.PadLine.{PadHistory}
use Rattle.uz_core.specs.Space.{history_wiring}
use Rattle.uz_core.specs.Turn.{State, Turn, is_entry}
use Rattle.uz_core.specs.declared.step.Why.{Why}
use Rattle.uz_console.specs.declared.console.Console.{Console}
use Rattle.uz_console.specs.Consoles.{StandsFor, clock_of}
use Rattle.uz_console.specs.Turns.{Halts}
use Rattle.uz_proposal.specs.declared.extents.Extent.{Extent}
use Rattle.uz_proposal.specs.declared.glance.Glance.{Glance}
use Rattle.uz_proposal.specs.declared.window.Window.{Window}
use Rattle.uz_proposal.specs.Extents.{RAM_BEGIN, after_store, extent_of}
use Rattle.uz_proposal.specs.Depths.{deeper, handler_depth, handler_top}
use Rattle.uz_proposal.specs.Matches.{clocks_left, matches_in}
use Rattle.uz_proposal.specs.Moments.{Moment, Leads, after_edges, bytes_stored, edges_of, is_handling, matches_of, store_by}
use Rattle.uz_proposal.specs.Stores.{StoresOf}

-- for each address of RAM, the extent of what main or the handler stores there
pub record AreExtents (first who : Bool) (turns : List Moment) (extents : List (Option Extent)) : Type 0 where
  pub size : length extents ≡ 4096
  pub each : (k : ℕ) → k < 4096 → slice_index_or extents k None ≡ extent_of (bytes_stored first who (RAM_BEGIN + k) turns)

-- A window's lists and extents are those of the turns, the newest first; `first` says whether the handler ran before them
pub record Tells (first : Bool) (turns : List Moment) (window : Window) : Type 0 where
  pub edges : window.edges.items ≡ edges_of turns
  pub matches : window.matches.items ≡ matches_of turns
  pub main : AreExtents first false turns window.main.items
  pub handler : AreExtents first true turns window.handler.items
  pub handling : window.handling ≡ is_handling first turns
  pub top : window.top ≡ handler_top turns
  pub depth : window.depth ≡ handler_depth first turns

-- The end of what is watched: the clock has come to the limit, or the next turn begins before it, and there is none
abbrev pub IsEnd : ℕ → State PadHistory → Option Why → Type 0
IsEnd limit last None = limit ≤ last.clock
IsEnd limit last (Some why) = (last.clock < limit) × Halts last why

-- Turns that begin before the limit, from a state that the console stood for to one that it stands for, and what they show
pub record IsWatched (limit : ℕ) (first : Bool) (s : State PadHistory) (console : Console) (window : Window) (stop : Option Why) : Type 0 where
  pub turns : List Moment
  pub last : State PadHistory
  pub leads : Leads limit s turns last
  pub stands : StandsFor console last
  pub tells : Tells first turns window
  pub ends : IsEnd limit last stop

-- The same on the way
pub record IsWatchedSoFar (limit : ℕ) (first : Bool) (s : State PadHistory) (console : Console) (window : Window) : Type 0 where
  pub turns : List Moment
  pub last : State PadHistory
  pub leads : Leads limit s turns last
  pub stands : StandsFor console last
  pub tells : Tells first turns window

-- what is read of a state before its turn
pub record IsGlance (s : State PadHistory) (glance : Glance) : Type 0 where
  pub clock : glance.clock ≡ s.clock
  pub left : glance.left ≡ clocks_left s.space.timer
  pub store : StoresOf s glance.store
  pub entering : glance.entering ≡ is_entry s

-- SP behind a turn, which was an entry or not; the window knows already whether the handler runs behind it
pub record Stands (was is : Window) (entering : Bool) (sp : ℕ) : Type 0 where
  pub edges : is.edges ≡ was.edges
  pub matches : is.matches ≡ was.matches
  pub main : is.main ≡ was.main
  pub handler : is.handler ≡ was.handler
  pub handling : is.handling ≡ was.handling
  pub top : is.top ≡ (if entering then sp else was.top)
  pub depth : is.depth ≡ deeper was.handling (if entering then sp else was.top) sp was.depth

-- one more turn, which ends at a clock, leaves an SP and shows some edges
pub record TakesTurn (was is : Window) (glance : Glance) (ended sp : ℕ) (shown : List Edge) : Type 0 where
  pub edges : is.edges.items ≡ was.edges.items ++ shown
  pub matches : is.matches.items ≡ was.matches.items ++ matches_in glance.clock ended glance.left
  pub main : is.main.items ≡ after_store was.main.items (store_by false was.handling glance.store)
  pub handler : is.handler.items ≡ after_store was.handler.items (store_by true was.handling glance.store)
  pub handling : is.handling ≡ after_edges was.handling shown
  pub top : is.top ≡ (if glance.entering then sp else was.top)
  pub depth : is.depth ≡ deeper (after_edges was.handling shown) (if glance.entering then sp else was.top) sp was.depth

-- One turn of a state: it is made, and its window takes it; or there is none
abbrev pub IsSeen : State PadHistory → Console → Window → Window → Option Why → Type 0
IsSeen s console was is None =
    (m : Moment) × (glance : Glance) × (m.before ≡ s) × Turn history_wiring s m.edges m.after × StandsFor console m.after
    × IsGlance s glance × (glance.store ≡ m.store) × TakesTurn was is glance m.after.clock m.after.core.sp m.edges
IsSeen s console was is (Some why) = Halts s why × StandsFor console s × (is ≡ was)

-- a turn takes time
abbrev pub MovesOn : Console → Console → Option Why → Type 0
MovesOn old new None = clock_of old < clock_of new
MovesOn old new (Some why) = clock_of new ≡ clock_of old
