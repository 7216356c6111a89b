-- The lines of a trail, in which turns of a loop that come again are one line: stretches of the trail whose program counters are those of
-- the stretch before.
use Rattle.std.specs.Prelude.{ℕ, zero, suc, ◌-◌, ◌/◌, ◌%◌, Bool, ◌&&◌, if◌then◌else◌, List, [], ◌∷◌, ◌++◌, codes, drop, nat_eq}
use Rattle.std.specs.Prelude.{nat_le}
use Rattle.std.specs.Ordering.{nat_cmp}
use Rattle.std.specs.FinMap.{FinMap}
use Rattle.uz_schedule.specs.declared.states.Instance.{Instance}
use Rattle.avr_asm.specs.declared.labels.Label.{Label}
use Rattle.uz_explanations.specs.Beginnings.{common}
use Rattle.uz_explanations.specs.Numbers.{come, counted}
use Rattle.uz_explanations.specs.Readings.{Reading}
use Rattle.uz_explanations.specs.TrailLines.{trail_line}

abbrev pub same_pc : Instance → Instance → Bool
same_pc x y = nat_eq x.pc y.pc

-- how many instances from place i on have the program counter of the one n places before
abbrev pub repeated : List Instance → ℕ → ℕ → ℕ
repeated trail i n = common same_pc (drop i trail) (drop (i - n) trail)

-- whether the n instances before place i come again there
abbrev pub comes_again : List Instance → ℕ → ℕ → Bool
comes_again trail i n = nat_le n i && nat_le n (repeated trail i n)

-- the length of the shortest stretch that comes again at place i, of n instances or more; `left` lengths are tried. 0 if none comes again
unfoldable pub stretch_from : List Instance → ℕ → ℕ → ℕ → ℕ
stretch_from trail i n zero = 0
stretch_from trail i n (suc left) = if comes_again trail i n then n else stretch_from trail i (suc n) left

-- stretches of at most 64 instances are found
abbrev pub stretch : List Instance → ℕ → ℕ
stretch trail i = stretch_from trail i 1 64

-- the last n instances come so many times more
unfoldable pub turns_line : ℕ → ℕ → List ℕ
turns_line n times =
    (codes "; the last " ++ counted n (codes " instruction")) ++ (come n ++ counted times (codes " time")) ++ codes " more\n"

-- The lines of the instances from place i on, of which the first `skip` stand in a line before
unfoldable pub lines_from : FinMap nat_cmp ℕ → Reading → List Label → List Instance → ℕ → ℕ → List Instance → List ℕ
lines_from image read labels trail i skip [] = []
lines_from image read labels trail i (suc skip) (x ∷ rest) = lines_from image read labels trail (suc i) skip rest
lines_from image read labels trail i zero (x ∷ rest) =
    if nat_eq (stretch trail i) 0
    then trail_line image labels (read x.pc) x ++ lines_from image read labels trail (suc i) 0 rest
    else turns_line (stretch trail i) (repeated trail i (stretch trail i) / stretch trail i)
    ++ lines_from image read labels trail (suc i)
    (repeated trail i (stretch trail i) - repeated trail i (stretch trail i) % stretch trail i - 1) rest

abbrev pub turned_lines : FinMap nat_cmp ℕ → Reading → List Label → List Instance → List ℕ
turned_lines image read labels trail = lines_from image read labels trail 0 0 trail
