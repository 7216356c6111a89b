use Rattle.uz_timer.proofs.Counting.{one_clock_counts, clocks_add}
use Rattle.uz_timer.proofs.laws.division_counts.Goals as goal

pub returns-clause-one : goal.returns-clause-one
returns-clause-one c = one_clock_counts

pub returns-clause-more : goal.returns-clause-more
returns-clause-more c = clocks_add
