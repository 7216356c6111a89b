use Rattle.uz_search.proofs.Common.{◌≡◌, drop, split_in}
use Rattle.uz_search.proofs.splitting.split_in.Given as goal

abbrev pub invariant-each : goal.invariant-each
invariant-each l = split_in (drop l.split-index l.splits) l.pc ≡ split_in l.splits l.pc
