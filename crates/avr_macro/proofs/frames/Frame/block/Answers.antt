use Rattle.std.proofs.Common.{◌+◌, refl, ap, ◌∙◌, List, ℕ}
use Rattle.std.specs.List.{slice_range}
use Rattle.avr_macro.proofs.Slices.{inner_part}
use Rattle.avr_macro.proofs.Levels.{same_level}
use Rattle.avr_macro.proofs.frames.Frame.block.Goals as goal

pub returns : goal.returns
returns c =
    let part = ap (λ (t : List (List ℕ)). slice_range t (c.args.self.now.at + 1 + c.args.from) (c.args.self.now.at + 1 + c.args.to))
    c.in_ok-body.ensures ∙ inner_part _ _ _ _ _ c.requires.order c.requires.left in
    same_level _ _ _ _ _ _ _ _ _ _ _ part part refl
