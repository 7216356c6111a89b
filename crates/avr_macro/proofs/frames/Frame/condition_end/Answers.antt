use Rattle.avr_macro.proofs.BlockEnds.{are_told, ifs_apart}
use Rattle.avr_macro.proofs.frames.Frame.condition_end.Goals as goal

pub returns-clause-place : goal.returns-clause-place
returns-clause-place c =
    (are_told _ _ ifs_apart _ _ _ _ _ _ c.requires.left c.args.self.now.within c.requires.begins
    c.condition_closing-closing.ensures c.as_ref.ensures c.closing_after.ensures).place

pub returns-clause-within : goal.returns-clause-within
returns-clause-within c =
    (are_told _ _ ifs_apart _ _ _ _ _ _ c.requires.left c.args.self.now.within c.requires.begins
    c.condition_closing-closing.ensures c.as_ref.ensures c.closing_after.ensures).within

pub returns-clause-parted : goal.returns-clause-parted
returns-clause-parted c =
    (are_told _ _ ifs_apart _ _ _ _ _ _ c.requires.left c.args.self.now.within c.requires.begins
    c.condition_closing-closing.ensures c.as_ref.ensures c.closing_after.ensures).parted

pub returns-clause-inside : goal.returns-clause-inside
returns-clause-inside c =
    (are_told _ _ ifs_apart _ _ _ _ _ _ c.requires.left c.args.self.now.within c.requires.begins
    c.condition_closing-closing.ensures c.as_ref.ensures c.closing_after.ensures).inside
