-- What is told of a refusal besides its line.
use Rattle.std.specs.Prelude.{ℕ, List, []}
use Rattle.std.specs.Ordering.{nat_cmp}
use Rattle.std.specs.FinMap.{FinMap}
use Rattle.uz_search.specs.declared.found.NotFound.{NotFound}
use Rattle.uz_search.specs.declared.found.NotFound.TheVariants.{Stuck, Split, Full, Hint, NoRest, Memory}
use Rattle.avr_asm.specs.declared.labels.Label.{Label}
use Rattle.uz_explanations.specs.Crowds.{crowds_text}
use Rattle.uz_explanations.specs.Readings.{Reading}
use Rattle.uz_explanations.specs.Ways.{way_text, both_ways}

-- the way to an instance that is refused, two ways, or the places with most instances; `read` is the reading of the flash
abbrev pub explanation : FinMap nat_cmp ℕ → Reading → List Label → NotFound → List ℕ
explanation image read labels (Stuck trail why) = way_text image read labels trail
explanation image read labels (Split first second) = both_ways image read labels first second
explanation image read labels (Full instances) = crowds_text instances
explanation image read labels (Hint index) = []
explanation image read labels (NoRest count) = []
explanation image read labels Memory = []
