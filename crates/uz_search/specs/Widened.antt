-- The facts of a program at a program counter, and what they make of an instance that comes by.
use Rattle.std.specs.Prelude.{List, [], Option, Some, None, ℕ}
use Rattle.std.specs.Ordering.{nat_cmp}
use Rattle.std.specs.BTreeMap.{get}
use Rattle.uz_schedule.specs.declared.states.Instance.{Instance}
use Rattle.uz_search.specs.declared.widening.Widening.{Widening}
use Rattle.uz_search.specs.Loosened.{loosened}
use Rattle.uz_search.specs.Widenings.{widened_all}
use Rattle.uz_search.specs.declared.program.Program.{Program}

-- the facts at a program counter, in the order of their hints
abbrev pub facts_in : Option (List Widening) → List Widening
facts_in None = []
facts_in (Some facts) = facts

abbrev pub facts_at : Program → ℕ → List Widening
facts_at p pc = facts_in (get nat_cmp p.facts pc)

-- an instance that comes to its program counter, loosened, and widened by the facts there
unfoldable pub widened : Program → Instance → Instance
widened p x = widened_all (facts_at p x.pc) (loosened x)
