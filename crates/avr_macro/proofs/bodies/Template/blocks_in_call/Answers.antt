use Rattle.std.proofs.Common.{sym, subst, ◌∙◌, ap, Some}
use Rattle.avr_macro.specs.declared.bodies.Text.{Text}
use Rattle.avr_macro.specs.AtSigns.{filled}
use Rattle.avr_macro.specs.Kinds.{AreBlocks}
use Rattle.avr_macro.proofs.Filled.{same_blocks}
use Rattle.avr_macro.proofs.bodies.Template.blocks_in_call.Goals as goal

pub returns-then-keeps_directives : goal.returns-then-keeps_directives
returns-then-keeps_directives c =
    let text = c.args.self.now.text.value in
    let kept = c.in_ok-blocks.ensures ∙ ap (λ (t : Text). t.blocks.value) c.as_ref.ensures in
    subst (AreBlocks (filled (Some c.args.substitution.now) text.lines)) (sym kept)
    (same_blocks _ _ _ (c.keeps_directives.ensures c.if-keeps_directives.true) text.all_blocks)
