use Rattle.std.proofs.Common.{◌≡◌, ◌++◌, ℕ, List, []}
use Rattle.uz_schedule.specs.declared.states.Instance.{Instance}
use Rattle.uz_explanations.specs.Differing.{parts_text}
use Rattle.uz_explanations.specs.Seen.{AreOf}
use Rattle.uz_explanations.proofs.differing.add_class.Given as goal

-- the lines of the parts so far
abbrev pub invariant-loop-number : goal.invariant-loop-number
invariant-loop-number g l = (all : List Instance) (n : ℕ) → AreOf l.class n g.T.Said.value [] all l.seen
    → l.text.items ≡ l.initial.text.items ++ parts_text l.class l.number all
