use Rattle.uz_shelf.specs.Faults.{Rose}
use Rattle.uz_certificate_commands.specs.HintedValues.{hints_seen}
use Rattle.uz_certificate_commands.proofs.HintedLemmas.{hints_fail, image_fails, spelled_after}
use Rattle.uz_certificate_commands.proofs.hinted.read_hinted.Goals as goal

pub returns-in-Err-clause-fails : goal.returns-in-Err-clause-fails
returns-in-Err-clause-fails g c =
    image_fails (g.H.Shelf.files c.args.shelf.now) (Rose (g.H.Shelf.load_faults c.args.shelf.now)
    (g.H.Shelf.load_faults c.read_file.new.shelf)) c.args.hex.now c.args.hints.now c.in-Err.failure c.in-Err.ensures.fails

pub returns-in-Err-read_hints-clause-fails : goal.returns-in-Err-read_hints-clause-fails
returns-in-Err-read_hints-clause-fails g c =
    hints_fail (g.H.Shelf.files c.args.shelf.now) (g.H.Shelf.files c.read_file.new.shelf) (g.H.Shelf.load_faults c.args.shelf.now)
    (g.H.Shelf.load_faults c.read_file.new.shelf) (g.H.Shelf.load_faults c.read_hints.new.shelf) c.args.hex.now c.args.hints.now
    c.in-Ok.image c.in-Err-read_hints.failure c.read_file.ensures.files c.read_file.ensures.load_faults c.in-Ok.ensures.said
    c.in-Err-read_hints.ensures.fails

pub returns-clause-spelled : goal.returns-clause-spelled
returns-clause-spelled g c =
    spelled_after (g.H.Shelf.files c.args.shelf.now) (g.H.Shelf.files c.read_file.new.shelf) c.args.hex.now c.args.hints.now c.in-Ok.image
    (hints_seen c.in-Ok-read_hints.hints) c.read_file.ensures.files c.in-Ok.ensures.said c.in-Ok-read_hints.ensures.fits
