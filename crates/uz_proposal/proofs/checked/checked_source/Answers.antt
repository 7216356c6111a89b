use Rattle.std.proofs.Common.{subst, length, ◌≤◌}
use Rattle.uz_proposal.specs.Sources.{PutsOutNothing, most_bytes}
use Rattle.uz_proposal.proofs.checked.checked_source.Goals as goal

pub returns-then-branch-clause-silent : goal.returns-then-branch-clause-silent
returns-then-branch-clause-silent c = subst PutsOutNothing c.as_slice.ensures.value (c.in_ok-puts_out_nothing.ensures.nothing c.if-branch.true)

pub returns-then-branch-clause-short : goal.returns-then-branch-clause-short
returns-then-branch-clause-short c =
    subst (λ text. length text ≤ most_bytes) c.as_slice.ensures.value (c.in_ok-puts_out_nothing.ensures.short c.if-branch.true)
