-- The lines of the program counters with most instances.
use Rattle.std.specs.Prelude.{ℕ, List, ◌++◌, codes, flat_map}
use Rattle.uz_hex.specs.Hexadecimals.{hex_word}
use Rattle.uz_schedule.specs.declared.states.Instance.{Instance}
use Rattle.uz_explanations.specs.declared.ranking.Crowd.{Crowd}
use Rattle.uz_explanations.specs.Counting.{counts, crowd}
use Rattle.uz_explanations.specs.Numbers.{counted}
use Rattle.uz_explanations.specs.Ranking.{greatest}
use Rattle.uz_explanations.specs.Differing.{differing}

abbrev pub place_text : ℕ → List ℕ
place_text pc = codes "pc 0x" ++ hex_word pc

abbrev pub head_line : Crowd → List ℕ
head_line c = place_text c.pc ++ (codes " " ++ counted c.count (codes " instance")) ++ codes "\n"

-- of a program counter: how many instances it has, and in which parts these differ
unfoldable pub crowd_lines : List Instance → Crowd → List ℕ
crowd_lines instances c = head_line c ++ differing (crowd c.pc instances)

-- of the program counters with most instances
unfoldable pub crowds_text : List Instance → List ℕ
crowds_text instances = flat_map (crowd_lines instances) (greatest (counts instances))
