use Rattle.std.proofs.Common.{◌≡◌, []}
use Rattle.core_cases.proofs.looping.run.Given as goal

-- nothing is held between steps
abbrev pub invariant-loop : goal.invariant-loop
invariant-loop l = l.memory.held.items ≡ []
