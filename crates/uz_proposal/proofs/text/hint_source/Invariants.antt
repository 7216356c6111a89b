use Rattle.std.proofs.Common.{◌≡◌, ◌++◌, drop}
use Rattle.uz_proposal.specs.Text.{source_of}
use Rattle.uz_proposal.proofs.text.hint_source.Given as goal

-- what is written, and what is left
abbrev pub invariant-loop-remarked : goal.invariant-loop-remarked
invariant-loop-remarked l = l.text.items ++ source_of (drop l.remarked-index l.hints) ≡ source_of l.hints
