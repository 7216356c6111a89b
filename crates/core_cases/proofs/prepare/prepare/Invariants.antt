use Rattle.std.proofs.Common.{◌≡◌, []}
use Rattle.core_cases.proofs.prepare.prepare.Given as goal

-- nothing is held between instructions
abbrev pub invariant-loop-d : goal.invariant-loop-d
invariant-loop-d l = l.space.held.items ≡ []

abbrev pub invariant-loop-d-2 : goal.invariant-loop-d-2
invariant-loop-d-2 l = l.space.held.items ≡ []

abbrev pub invariant-loop-k : goal.invariant-loop-k
invariant-loop-k l = l.space.held.items ≡ []
