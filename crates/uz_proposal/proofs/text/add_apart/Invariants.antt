use Rattle.std.proofs.Common.{◌≡◌, ◌++◌, drop}
use Rattle.uz_proposal.specs.NoFrames.{apart_words}
use Rattle.uz_proposal.proofs.text.add_apart.Given as goal

-- what is written, and what is left
abbrev pub invariant-loop-clocks : goal.invariant-loop-clocks
invariant-loop-clocks l = l.text.items ++ apart_words (drop l.clocks-index l.apart) ≡ l.initial.text.items ++ apart_words l.apart
