use Rattle.uz_files.specs.Formats.{SpellsPads}
use Rattle.uz_files.proofs.ReadingLemmas.{says_seen}
use Rattle.uz_files.proofs.RunFileLemmas.{preface_without_pads, starts}
use Rattle.uz_files.proofs.reset.reset_console.Goals as goal

pub returns-in-Err-clause-fails : goal.returns-in-Err-clause-fails
returns-in-Err-clause-fails g c =
    preface_without_pads (g.H.Shelf.files c.args.shelf.now) (g.H.Shelf.files c.read_file.new.shelf)
    (g.H.Shelf.load_faults c.args.shelf.now) (g.H.Shelf.load_faults c.read_file.new.shelf)
    (g.H.Shelf.load_faults c.read_file-2.new.shelf)
    c.args.hex.now c.args.pads.now c.in_ok-image.image c.in-Err.failure
    c.read_file.ensures.files c.read_file.ensures.load_faults c.in_ok-image.ensures.said c.in-Err.ensures.fails

pub returns-clause-starts : goal.returns-clause-starts
returns-clause-starts g c =
    starts _ _ c.args.hex.now c.args.pads.now c.args.irq c.in_ok-image.image c.in-Ok.list.items _
    c.read_file.ensures.files c.in_ok-image.ensures.said (says_seen _ _ _ SpellsPads (λ pads. pads.items) c.in-Ok.list c.in-Ok.ensures.said) (λ limit. c.in_ok-reset.ensures.run limit)
