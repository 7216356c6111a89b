-- The lines of the two game pads, as the Uzebox kernel documentation wires them: PORTA bit 2 latches the pads,
-- PORTA bit 3 moves to the next button, and the data lines are PINA bits 0 and 1. A pressed button reads 0.
--
-- This project's profile: the pads answer from a list of pairs of words, one pair a latch. Both lines read 1
-- before the first latch, after 12 moves, and past the list's end.
use Rattle.std.specs.Prelude.{ℕ, ◌+◌, ◌-◌, ◌*◌, Bool, not, ◌&&◌, if◌then◌else◌, nat_lt, nat_le, List, [], ◌∷◌, length, count_by}
use Rattle.std.specs.Prelude.{slice_index, map}
use Rattle.uz_core.specs.Arithmetic.{bit_value, bit_is_set}

-- All that PORTA's values make of the pads: the words of each pair, for player 1 and player 2, and the values
-- that PORTA has had, the latest first and the one from reset, 0, last
pub record PadHistory : Type 0 where
  pub pairs : List (ℕ × ℕ)
  pub levels : List ℕ

-- the changes of PORTA, each from an old value to a new one, the latest first
abbrev pub changes_of : List ℕ → List (ℕ × ℕ)
changes_of [] = []
changes_of (new ∷ []) = []
changes_of (new ∷ old ∷ older) = (old, new) ∷ changes_of (old ∷ older)

-- whether a change takes bit k from 1 to 0
abbrev pub is_fall : ℕ → ℕ × ℕ → Bool
is_fall k (old, new) = bit_is_set old k && not (bit_is_set new k)

-- whether a change takes bit k from 0 to 1
abbrev pub is_rise : ℕ → ℕ × ℕ → Bool
is_rise k (old, new) = not (bit_is_set old k) && bit_is_set new k

-- the changes since the last latch, which is a fall of bit 2, with that change itself; all of them where there is none
abbrev pub changes_since_latch : List (ℕ × ℕ) → List (ℕ × ℕ)
changes_since_latch [] = []
changes_since_latch (c ∷ cs) = if is_fall 2 c then c ∷ [] else c ∷ changes_since_latch cs

-- how many latches there were
abbrev pub latches : List ℕ → ℕ
latches levels = count_by (is_fall 2) (changes_of levels)

-- how many moves there were since the last latch: rises of bit 3, and one at once with the latch counts
abbrev pub moves : List ℕ → ℕ
moves levels = count_by (is_rise 3) (changes_since_latch (changes_of levels))

-- A player's line: false exactly where there was a latch, the list has a word for it, there were fewer than 12 moves,
-- and the button is pressed. Latch n loads word n, counted from 1, and bit m of a word is the button after m moves
abbrev pub line_level : List ℕ → List ℕ → Bool
line_level words levels =
    let n = latches levels in
    let m = moves levels in
    not (nat_le 1 n && nat_le n (length words) && nat_lt m 12 && bit_is_set (slice_index words (n - 1)) m)

-- both lines: player 1's in bit 0, player 2's in bit 1
abbrev pub pad_lines : PadHistory → ℕ
pad_lines h = bit_value (line_level (map (λ pair. pair.0) h.pairs) h.levels) + bit_value
    (line_level (map (λ pair. pair.1) h.pairs) h.levels) * 2

-- PORTA takes a value
abbrev pub with_level : ℕ → PadHistory → PadHistory
with_level value h = record h { levels = value ∷ h.levels }
