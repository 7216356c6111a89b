use Rattle.std.proofs.Common.{◌≡◌, drop}
use Rattle.std.specs.Prelude.{◌==◌, find}
use Rattle.uz_shelf.proofs.fail.first_of_number.Given as goal

-- what is left answers for all
abbrev pub invariant-loop-fail : goal.invariant-loop-fail
invariant-loop-fail l = find (λ f. f.call == l.call) (drop l.fail-index l.fails) ≡ find (λ f. f.call == l.call) l.fails
