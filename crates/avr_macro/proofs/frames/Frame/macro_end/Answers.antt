use Rattle.std.proofs.Common.{◌∙◌}
use Rattle.avr_macro.proofs.BlockEnds.{are_told, ends_within, macros_apart}
use Rattle.avr_macro.proofs.frames.Frame.macro_end.Goals as goal

pub returns-clause-place : goal.returns-clause-place
returns-clause-place c =
    c.end_of.ensures ∙ (are_told _ _ macros_apart _ _ _ _ _ _ c.requires.left c.args.self.now.within c.requires.begins
    c.macro_closing-closing.ensures c.as_ref.ensures c.closing_after.ensures).place

pub returns-clause-within : goal.returns-clause-within
returns-clause-within c =
    ends_within _ _ _ _ c.end_of.ensures (are_told _ _ macros_apart _ _ _ _ _ _ c.requires.left c.args.self.now.within c.requires.begins
    c.macro_closing-closing.ensures c.as_ref.ensures c.closing_after.ensures).within
