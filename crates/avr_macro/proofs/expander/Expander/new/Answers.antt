use Rattle.std.proofs.Common.{List, [], ◌∷◌, ◌++◌, ◌∙◌, ap}
use Rattle.avr_macro.specs.declared.frames.Frame.{Frame}
use Rattle.avr_macro.specs.States.{Level}
use Rattle.avr_macro.proofs.Levels.{begun, last_frame}
use Rattle.avr_macro.proofs.expander.Expander.new.Goals as goal

pub returns : goal.returns
returns c =
    let file = c.in_ok-file.file in
    let pushed = c.in_ok-push.ensures.items ∙ ap (λ (frames : List Frame). frames ++ file ∷ []) c.new-frames.ensures.items in
    let levels = last_frame [] _ file pushed ∙ ap (λ (level : Level). level ∷ []) c.in_ok-file.ensures in
    begun _ _ _ _ _ c.args.bytes.now levels c.new.ensures c.in_ok-predefined.ensures c.new-2.ensures.items c.new-3.ensures.items
