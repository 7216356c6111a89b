-- Main at one place of a run: which registers are the same at all its visits.
use Rattle.std.specs.Prelude.{◌≡◌, ℕ, ◌+◌, ◌<◌, ◌≤◌, Bool, true, false, not, ◌&&◌, if◌then◌else◌, nat_eq, nat_lt, List, [], ◌∷◌}
use Rattle.std.specs.Prelude.{slice_index_or, Option, None, Some, ◌⊎◌}
use Rattle.uz_core.specs.Core.{Core, register}
use Rattle.uz_core.specs.PadLine.{PadHistory}
use Rattle.uz_core.specs.Run.{HasNoTurn, TurnBefore}
use Rattle.uz_core.specs.Space.{history_wiring}
use Rattle.uz_core.specs.Turn.{State, Turn, is_entry}
use Rattle.uz_console.specs.declared.console.Console.{Console}
use Rattle.uz_console.specs.Consoles.{StandsFor, clock_of}
use Rattle.uz_proposal.specs.declared.visits.Registers.{Registers}
use Rattle.uz_proposal.specs.Moments.{Moment, after_edges, is_handling}

-- Turns from a state to another that begin before the limit, the newest first. What they store isn't asked
abbrev pub Passes : ℕ → State PadHistory → List Moment → State PadHistory → Type 0
Passes limit first [] last = last ≡ first
Passes limit first (m ∷ earlier) last = (m.after ≡ last) × TurnBefore limit m.before m.edges m.after × Passes limit first earlier m.before

-- a place: a pc, and SP there
abbrev pub is_place : ℕ → ℕ → Core → Bool
is_place pc sp core = nat_eq core.pc pc && nat_eq core.sp sp

-- whether main is there before a turn: the handler doesn't run, and isn't entered
abbrev pub is_visit : Bool → ℕ → ℕ → State PadHistory → Bool
is_visit handling pc sp s = not handling && not (is_entry s) && is_place pc sp s.core

abbrev pub with_core : Bool → Core → List Core → List Core
with_core true core cores = core ∷ cores
with_core false core cores = cores

-- The cores of main's visits in those turns, the newest first; `first` says whether the handler ran before them
abbrev pub visits : Bool → ℕ → ℕ → List Moment → List Core
visits first pc sp [] = []
visits first pc sp (m ∷ earlier) =
    with_core (is_visit (is_handling first earlier) pc sp m.before) m.before.core (visits first pc sp earlier)

-- a register at the first visit: the last one of the list
abbrev pub first_of : Core → List Core → Core
first_of core [] = core
first_of core (c ∷ earlier) = first_of c earlier

abbrev pub first_value : List Core → ℕ → ℕ
first_value [] n = 0
first_value (core ∷ earlier) n = register (first_of core earlier) n

-- whether a register has at each visit its value at the first one
abbrev pub is_still : Bool → ℕ → ℕ → Bool
is_still same first now = same && nat_eq first now

abbrev pub is_constant : List Core → ℕ → Bool
is_constant [] n = true
is_constant (core ∷ earlier) n = is_still (is_constant earlier n) (first_value (core ∷ earlier) n) (register core n)

-- how many there are, as far as 32 bits count
abbrev pub one_more : ℕ → ℕ
one_more n = if nat_lt n 4294967295 then n + 1 else n

abbrev pub count_of : List Core → ℕ
count_of [] = 0
count_of (core ∷ earlier) = one_more (count_of earlier)

-- what is told of visits
pub record TellsVisits (cores : List Core) (seen : Registers) : Type 0 where
  pub count : seen.visits ≡ count_of cores
  pub values : (n : ℕ) → n < 32 → slice_index_or seen.values n 0 ≡ first_value cores n
  pub same : (n : ℕ) → n < 32 → slice_index_or seen.same n false ≡ is_constant cores n

-- The visits in turns that begin before the limit, from a state to one that the console stands for, and that end at the limit or
-- where there is no turn
pub record IsVisited (limit : ℕ) (first : Bool) (pc sp : ℕ) (s : State PadHistory) (console : Console) (seen : Registers) : Type 0 where
  pub turns : List Moment
  pub last : State PadHistory
  pub leads : Passes limit s turns last
  pub stands : StandsFor console last
  pub tells : TellsVisits (visits first pc sp turns) seen
  pub ends : limit ≤ last.clock ⊎ HasNoTurn last

-- the same on the way
pub record IsVisitedSoFar (limit : ℕ) (first : Bool) (pc sp : ℕ) (s : State PadHistory) (console : Console) (runs : Bool) (seen : Registers)
    : Type 0 where
  pub turns : List Moment
  pub last : State PadHistory
  pub leads : Passes limit s turns last
  pub stands : StandsFor console last
  pub tells : TellsVisits (visits first pc sp turns) seen
  pub handling : runs ≡ is_handling first turns

-- the registers of a core
abbrev pub AreRegisters : Core → List ℕ → Type 0
AreRegisters core values = (n : ℕ) → n < 32 → slice_index_or values n 0 ≡ register core n

-- which registers are still the same
abbrev pub AreStill : List Bool → List ℕ → List ℕ → List Bool → Type 0
AreStill same first now still = (n : ℕ) → n < 32
    → slice_index_or still n false ≡ is_still (slice_index_or same n false) (slice_index_or first n 0) (slice_index_or now n 0)

-- one more visit, with the registers there
pub record VisitIsAdded (was : Registers) (now : List ℕ) (seen : Registers) : Type 0 where
  pub count : seen.visits ≡ one_more was.visits
  pub values : seen.values ≡ (if nat_eq was.visits 0 then now else was.values)
  pub same : AreStill was.same seen.values now seen.same

-- one more visit, if it is one, with the core there
pub record IsLook (here : Bool) (core : Core) (was seen : Registers) : Type 0 where
  pub count : seen.visits ≡ (if here then one_more was.visits else was.visits)
  pub values : (n : ℕ) → n < 32 → slice_index_or seen.values n 0
      ≡ (if here && nat_eq was.visits 0 then register core n else slice_index_or was.values n 0)
  pub same : (n : ℕ) → n < 32 → slice_index_or seen.same n false
      ≡ (if here then is_still (slice_index_or was.same n false) (slice_index_or seen.values n 0) (register core n)
      else slice_index_or was.same n false)

-- no visit more
pub record KeepsVisits (was seen : Registers) : Type 0 where
  pub count : seen.visits ≡ was.visits
  pub values : seen.values ≡ was.values
  pub same : seen.same ≡ was.same

-- one turn of a state, with what is seen before it: Some tells whether the handler runs behind it, None that there is none
abbrev pub IsVisitTurn : Bool → State PadHistory → Console → Bool → Registers → Registers → Option Bool → Type 0
IsVisitTurn here s console handling was seen (Some runs) =
    (m : Moment) × (m.before ≡ s) × Turn history_wiring s m.edges m.after × StandsFor console m.after × IsLook here s.core was seen
    × (runs ≡ after_edges handling m.edges)
IsVisitTurn here s console handling was seen None = HasNoTurn s × StandsFor console s × (seen ≡ was)

-- a turn takes time
abbrev pub MovesBy : Console → Console → Option Bool → Type 0
MovesBy old new (Some runs) = clock_of old < clock_of new
MovesBy old new None = clock_of new ≡ clock_of old
