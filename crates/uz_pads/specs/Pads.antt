-- What a value of the pads stands for, and what becomes of it.
use Rattle.std.specs.Prelude.{◌≡◌, ℕ, ◌+◌, ◌-◌, ◌*◌, not, if◌then◌else◌, List, [], ◌∷◌, length, map, min, slice_index_or, nat_le, nat_lt, ◌++◌, take, replicate}
use Rattle.std.specs.Prelude.{Option, Some, None, Result, is_ok}
use Rattle.uz_core.specs.Arithmetic.{bit_value, bit_is_set}
use Rattle.uz_core.specs.PadLine.{PadHistory, is_fall, is_rise, latches, moves}
use Rattle.uz_core.specs.Space.{PadWiring}
use Rattle.uz_pads.specs.declared.pads.Pad.{Pad}
use Rattle.uz_pads.specs.declared.pads.Pads.{Pads}
use Rattle.uz_pads.specs.declared.pads.PadState.{PadState}

-- a list of pads as the machine's list of pairs
abbrev pub pairs_of : List Pad → List (ℕ × ℕ)
pairs_of list = map (λ pad. (pad.one, pad.two)) list

-- the latest of PORTA's values
abbrev pub latest : List ℕ → ℕ
latest [] = 0
latest (value ∷ older) = value

-- PORTA has had a value
abbrev pub IsBegun : List ℕ → Type 0
IsBegun [] = ⊥
IsBegun (value ∷ older) = Unit {0}

abbrev pub no_pad : Pad
no_pad = record { one = 0; two = 0 }

-- the pair that latch number n loads, counted from 1; latch 0 is none
abbrev pub latched_pad : ℕ → List Pad → Option Pad
latched_pad n list = if nat_le 1 n then (if nat_le n (length list) then Some (slice_index_or list (n - 1) no_pad) else None) else None

-- what changes of pads, beside their list
abbrev pub pad_state_of : Pads → PadState
pad_state_of p = record { level = p.level; next = p.next; current = p.current; moves = p.moves }

abbrev pub list_of : Pads → List Pad
list_of p = p.list

-- the pads with the same list in another state
abbrev pub with_pad_state : PadState → Pads → Pads
with_pad_state state p = record p { level = state.level; next = state.next; current = state.current; moves = state.moves }

-- A list of pads in a state stands for a list of pairs and the whole list of PORTA's values: the state has the pair that
-- was latched last, and counts latches up to the list's length and moves up to 12
pub record StateStandsFor (list : List Pad) (state : PadState) (history : PadHistory) : Type 0 where
  pub pairs : history.pairs ≡ pairs_of list
  pub begun : IsBegun history.levels
  pub level : state.level ≡ latest history.levels
  pub next : state.next ≡ min (latches history.levels) (length list)
  pub current : state.current ≡ latched_pad (latches history.levels) list
  pub moves : state.moves ≡ min (moves history.levels) 12

-- pads stand for what their list in their state stands for
abbrev pub StandsFor : Pads → PadHistory → Type 0
StandsFor p history = StateStandsFor (list_of p) (pad_state_of p) history

-- Held buttons

-- the list up to the pair that was latched last, and then a pair so many times
abbrev pub held_list : Pad → ℕ → Pads → List Pad
held_list pad times p = take p.next p.list ++ replicate times pad

-- The next latches, so many of them, find this pair, and those after them none. What was latched stays
abbrev pub holding : Pad → ℕ → PadHistory → PadHistory
holding pad times history = record history { pairs = take (latches history.levels) history.pairs ++ replicate times (pad.one, pad.two) }

-- so many times, or none where memory ran out
abbrev pub times_held : {E : Type 0} → Result (Unit {0}) E → ℕ → ℕ
times_held result times = if is_ok result then times else 0

-- so many pairs of the list aren't latched yet
abbrev pub pads_left : Pads → ℕ
pads_left p = length p.list - p.next

-- The pads by themselves

-- a latch
abbrev pub pads_loaded : Pads → Pads
pads_loaded p =
    if nat_lt p.next (length p.list)
    then record p { current = Some (slice_index_or p.list p.next no_pad); next = p.next + 1 }
    else record p { current = None }

-- PORTA takes a value
abbrev pub pads_after : ℕ → Pads → Pads
pads_after value p =
    let rise = bit_value (is_rise 3 (p.level, value)) in
    if is_fall 2 (p.level, value)
    then record (pads_loaded p) { level = value; moves = rise }
    else record p { level = value; moves = if nat_lt p.moves 12 then p.moves + rise else p.moves }

-- the level of a line that shows a bit of a word
abbrev pub shown_bit : ℕ → ℕ → ℕ
shown_bit word at = bit_value (not (bit_is_set word at))

abbrev pub data_lines_of : Option Pad → ℕ → ℕ
data_lines_of None at = 3
data_lines_of (Some pad) at = if nat_lt at 12 then shown_bit pad.one at + shown_bit pad.two at * 2 else 3

abbrev pub pads_lines : Pads → ℕ
pads_lines p = data_lines_of p.current p.moves

-- how these pads hang on PORTA
abbrev pub pads_wiring : PadWiring Pads
pads_wiring = record { lines = pads_lines; with_level = pads_after }
