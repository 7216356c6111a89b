-- What is told of lines that make no frame.
use Rattle.std.specs.Prelude.{ℕ, Bool, if◌then◌else◌, nat_eq, List, [], ◌∷◌, ◌++◌, codes, decimal}
use Rattle.uz_proposal.specs.declared.no_hints.NoFrame.{NoFrame}
use Rattle.uz_proposal.specs.Text.{numbered}

-- the clocks between two falls of sync, 0 where there are no two
abbrev pub distance_word : ℕ → List ℕ
distance_word clocks = if nat_eq clocks 0 then [] else numbered (codes " ") clocks

abbrev pub apart_words : List ℕ → List ℕ
apart_words [] = []
apart_words (clocks ∷ later) = distance_word clocks ++ apart_words later

abbrev pub short_line : Bool → List ℕ
short_line short = if short then codes "run longer: fewer than two frames\n" else []

-- how many lines there are, the clocks between the last falls of sync, and whether the run is too short
abbrev pub no_frame_lines : NoFrame → List ℕ
no_frame_lines found =
    numbered (codes "lines ") found.lines ++ codes "\nfalls" ++ apart_words found.apart ++ codes "\n" ++ short_line found.short
