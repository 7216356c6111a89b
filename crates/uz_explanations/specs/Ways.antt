-- The way of a trail, and the two ways of trails that differ.
use Rattle.std.specs.Prelude.{ℕ, ◌+◌, ◌-◌, Bool, if◌then◌else◌, List, [], ◌∷◌, ◌++◌, Option, Some, None, codes, decimal, drop, length, map}
use Rattle.std.specs.Prelude.{max, slice_get, take}
use Rattle.std.specs.Ordering.{nat_cmp}
use Rattle.std.specs.FinMap.{FinMap}
use Rattle.avr_table.specs.Rows.{clocks_of, words_of}
use Rattle.avr_table.specs.declared.Instr.{Instr}
use Rattle.avr_table.specs.declared.Outcome.{Outcome}
use Rattle.uz_core.specs.Effects.{effect_of}
use Rattle.uz_core.specs.declared.machine.Effect.{Effect}
use Rattle.uz_schedule.specs.declared.lines.EventKind.{EventKind}
use Rattle.uz_schedule.specs.declared.lines.EventKind.TheVariants.{Leave, Pixel, Sound, Sync}
use Rattle.uz_schedule.specs.declared.states.Instance.{Instance}
use Rattle.uz_schedule.specs.contracts.states.InstancePartialEq as instances
use Rattle.avr_asm.specs.declared.labels.Label.{Label}
use Rattle.uz_transfer.specs.Emission.{emission}
use Rattle.uz_transfer.specs.Exits.{outcomes}
use Rattle.uz_transfer.specs.Kinds.{is_main}
use Rattle.uz_transfer.specs.Step.{following_of}
use Rattle.uz_explanations.specs.Beginnings.{common}
use Rattle.uz_explanations.specs.Known.{known_line}
use Rattle.uz_explanations.specs.Readings.{Reading}
use Rattle.uz_explanations.specs.TrailLines.{trail_line}
use Rattle.uz_explanations.specs.Turns.{turned_lines}

-- the last instance, with what is known of what it reads
abbrev pub last_text : FinMap nat_cmp ℕ → Reading → List Label → Option Instance → List ℕ
last_text image read labels None = []
last_text image read labels (Some x) = trail_line image labels (read x.pc) x ++ known_line (read x.pc) x

-- a trail: the lines of all instances but the last one, in which turns that come again are one line, and the last one
abbrev pub way_text : FinMap nat_cmp ℕ → Reading → List Label → List Instance → List ℕ
way_text image read labels trail =
    turned_lines image read labels (take (length trail - 1) trail) ++ last_text image read labels (slice_get trail (length trail - 1))

-- What the last instruction of a way shows

-- the greatest of numbers, 0 of none
abbrev pub most : List ℕ → ℕ
most [] = 0
most (n ∷ ns) = max n (most ns)

-- the clocks to the last exit of an effect, with the words and, by outcome, the clocks of its row
abbrev pub clocks_out : FinMap nat_cmp ℕ → Effect → ℕ → (Outcome → ℕ) → Instance → ℕ
clocks_out image e words clocks x = most (map clocks (outcomes image (following_of words x) e x))

-- The clock of its line at which the instruction ends, by the last of its exits. Past the end of the line the clocks count on: on a line of
-- 1820 clocks, 1821 is clock 1 of the next one
abbrev pub end_clock : FinMap nat_cmp ℕ → Instr → Instance → ℕ
end_clock image i x = x.clock + clocks_out image (effect_of i) (words_of i) (clocks_of i) x

-- an event in a certificate's words
abbrev pub event_text : EventKind → List ℕ
event_text (Sync level) = codes "sync " ++ decimal level
event_text Pixel = codes "pixel"
event_text Sound = codes "sound"
event_text Leave = codes "leave"

abbrev pub clock_line : List ℕ → ℕ → List ℕ
clock_line words clock = (words ++ decimal clock) ++ codes "\n"

abbrev pub event_line : Option EventKind → ℕ → List ℕ
event_line None clock = clock_line (codes "shows nothing to clock ") clock
event_line (Some event) clock = (codes "shows " ++ event_text event) ++ clock_line (codes " at clock ") clock

-- an event acts when its instruction ends. Where it isn't decided there is no line: an instance of a split is never such a one
abbrev pub shows_line : Option (Option EventKind) → ℕ → List ℕ
shows_line None clock = []
shows_line (Some shown) clock = event_line shown clock

-- what an instance shows whose words are read so; main shows nothing
abbrev pub shown_line : FinMap nat_cmp ℕ → Option Instr → Instance → List ℕ
shown_line image None x = []
shown_line image (Some i) x = if is_main x.kind then [] else shows_line (emission (effect_of i) x) (end_clock image i x)

abbrev pub last_shown : FinMap nat_cmp ℕ → Reading → Option Instance → List ℕ
last_shown image read None = []
last_shown image read (Some x) = shown_line image (read x.pc) x

-- The two ways

-- whether two instances are one, by the derived comparison
abbrev pub same_instance : Instance → Instance → Bool
same_instance x y = (instances.TheImpl.ghosts).eq x y

-- how many instances two trails share: those that both begin with
abbrev pub shared : List Instance → List Instance → ℕ
shared first second = common same_instance first second

-- a trail from the last of so many instances on, or from its start on if they are none
abbrev pub from_last : ℕ → List Instance → List Instance
from_last count trail = drop (count - 1) trail

-- one of two ways: the way of its trail, and behind it what its last instance shows
abbrev pub split_way : FinMap nat_cmp ℕ → Reading → List Label → List Instance → List ℕ
split_way image read labels trail = way_text image read labels trail ++ last_shown image read (slice_get trail (length trail - 1))

-- two trails, each from the last instance on that both share
abbrev pub both_ways : FinMap nat_cmp ℕ → Reading → List Label → List Instance → List Instance → List ℕ
both_ways image read labels first second =
    codes "way 1\n" ++ split_way image read labels (from_last (shared first second) first) ++ codes "way 2\n"
    ++ split_way image read labels (from_last (shared first second) second)
