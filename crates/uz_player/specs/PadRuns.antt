-- Runs over pads with other histories.
use Rattle.std.specs.Prelude.{◌≡◌, ℕ, ◌+◌, ◌-◌, ◌≤◌, nat_le, ◌&&◌, if◌then◌else◌, List, [], ◌∷◌, ◌++◌, take, replicate, length, slice_index_or, Option}
use Rattle.std.specs.Prelude.{Some, None}
use Rattle.uz_core.specs.declared.machine.Edge.{Edge}
use Rattle.uz_core.specs.PadLine.{PadHistory, changes_of, changes_since_latch, latches}
use Rattle.uz_core.specs.Run.{MachineTurn, Run}
use Rattle.uz_core.specs.Turn.{State}

-- the pair that latch number n finds, counted from 1; latch 0 is none
abbrev pub pair_of_latch : ℕ → List (ℕ × ℕ) → Option (ℕ × ℕ)
pair_of_latch n pairs = if nat_le 1 n && nat_le n (length pairs) then Some (slice_index_or pairs (n - 1) (0, 0)) else None

-- the state with other pads
abbrev pub with_history : PadHistory → State PadHistory → State PadHistory
with_history pads s =
    record s { space = record { bytes = s.space.bytes; timer = s.space.timer; pads = pads } }

-- PORTA has one value, and changed alike since the last latch
pub record SamePresent (a b : PadHistory) : Type 0 where
  pub value : ℕ
  pub before : List ℕ
  pub others : List ℕ
  pub a_is : a.levels ≡ value ∷ before
  pub b_is : b.levels ≡ value ∷ others
  pub since : changes_since_latch (changes_of a.levels) ≡ changes_since_latch (changes_of b.levels)

-- the last latch found the same pair in both, and so does each later one up to number n of the first
abbrev pub FindTheSame : ℕ → PadHistory → PadHistory → Type 0
FindTheSame n a b = (i j : ℕ) → i + latches b.levels ≡ j + latches a.levels → latches a.levels ≤ i → i ≤ n
    → pair_of_latch i a.pairs ≡ pair_of_latch j b.pairs

-- a run is one over other pads, whose PORTA takes the same values
pub record RunsAlike (turns : ℕ) (s : State PadHistory) (edges : List Edge) (last : State PadHistory) (pads : PadHistory) : Type 0 where
  pub after : PadHistory
  pub run : Run MachineTurn turns (with_history pads s) edges (with_history after last)
  pub present : SamePresent last.space.pads after
  pub pairs : after.pairs ≡ pads.pairs
  pub came : List ℕ
  pub takes : last.space.pads.levels ≡ came ++ s.space.pads.levels
  pub others_take : after.levels ≡ came ++ pads.levels

-- Calls one after another

-- the state whose pads find these pairs at the latches to come
abbrev pub with_pairs_ahead : List (ℕ × ℕ) → State PadHistory → State PadHistory
with_pairs_ahead ahead s = with_history (record {
  pairs = take (latches s.space.pads.levels) s.space.pads.pairs ++ ahead;
  levels = s.space.pads.levels;
}) s

-- In each call a pair is held, up to 65,536 latches; so many find it
abbrev pub InCalls : List ((ℕ × ℕ) × ℕ) → State PadHistory → List Edge → State PadHistory → Type 0
InCalls [] s edges last = (edges ≡ []) × (last ≡ s)
InCalls ((pair, times) ∷ calls) s edges last =
    (turns : ℕ) × (first : List Edge) × (mid : State PadHistory) × (rest : List Edge)
    × Run MachineTurn turns (with_pairs_ahead (replicate 65536 pair) s) first mid × (times ≤ 65536)
    × (latches mid.space.pads.levels ≡ latches s.space.pads.levels + times) × InCalls calls mid rest last × (edges ≡ first ++ rest)

-- the pairs that the latches of calls found, as a pad file records them
abbrev pub recorded : List ((ℕ × ℕ) × ℕ) → List (ℕ × ℕ)
recorded [] = []
recorded ((pair, times) ∷ calls) = replicate times pair ++ recorded calls

-- PORTA has had a value, and no latch found the list at its end
pub record IsReady (s : State PadHistory) : Type 0 where
  pub value : ℕ
  pub before : List ℕ
  pub levels : s.space.pads.levels ≡ value ∷ before
  pub few : latches s.space.pads.levels ≤ length s.space.pads.pairs

-- calls are one run over the pairs that they recorded, and whatever follows
abbrev pub AreOneRun : List ((ℕ × ℕ) × ℕ) → State PadHistory → List Edge → State PadHistory → Type 0
AreOneRun calls s edges last = (more : List (ℕ × ℕ)) → (turns : ℕ)
    × Run MachineTurn turns (with_pairs_ahead (recorded calls ++ more) s) edges (with_pairs_ahead more last)
