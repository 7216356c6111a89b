-- Which refusals other rules may not have.
use Rattle.std.specs.Prelude.{Bool, true, false}
use Rattle.uz_search.specs.declared.found.NotFound.{NotFound}
use Rattle.uz_search.specs.declared.found.NotFound.TheVariants.{Stuck, Split, Full, Hint, NoRest, Memory}

-- neither a hint nor memory
abbrev pub is_by_rules : NotFound → Bool
is_by_rules (Stuck trail why) = true
is_by_rules (Split first second) = true
is_by_rules (Full instances) = true
is_by_rules (Hint index) = false
is_by_rules (NoRest count) = true
is_by_rules Memory = false
