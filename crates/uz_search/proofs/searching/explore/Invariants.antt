use Rattle.uz_search.proofs.Common.{◌<◌, ◌-◌, IsSearchOf}
use Rattle.uz_search.proofs.searching.explore.Given as goal

abbrev pub invariant-work : goal.invariant-work
invariant-work l = record {
  so_far : IsSearchOf l.image l.program l.found l.done;
  few : l.done < l.limit;
}

abbrev pub decreases-work : goal.decreases-work
decreases-work l = l.limit - l.done
