use Rattle.std.proofs.Common.{◌≡◌, ◌++◌, drop}
use Rattle.std.specs.Prelude.{flat_map}
use Rattle.uz_explanations.specs.Crowds.{crowd_lines}
use Rattle.uz_explanations.proofs.crowds.add_crowds.Given as goal

-- what is written, and what is left
abbrev pub invariant-loop-crowd : goal.invariant-loop-crowd
invariant-loop-crowd l = l.text.items ++ flat_map (crowd_lines l.instances) (drop l.crowd-index l.crowds)
    ≡ l.initial.text.items ++ flat_map (crowd_lines l.instances) l.crowds
