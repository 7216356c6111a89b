-- What a fact says along a dimension: at a line or a count n, whatever the count or the line m is across it.
use Rattle.std.specs.Prelude.{ℕ}
use Rattle.uz_schedule.specs.Instances.{val_of}
use Rattle.uz_schedule.specs.declared.facts.Fact.{Fact}
use Rattle.uz_schedule.specs.declared.facts.Val.{Val}
use Rattle.uz_join.specs.declared.dimension.Dimension.{Dimension}
use Rattle.uz_join.specs.declared.dimension.Dimension.TheVariants.{Lines, Counts}

abbrev pub val_along : Dimension → ℕ → ℕ → Fact → Val
val_along Lines n m f = val_of n m f
val_along Counts n m f = val_of m n f
