use Rattle.uz_files.specs.Formats.{SpellsPads}
use Rattle.uz_files.proofs.ReadingLemmas.{says_seen}
use Rattle.uz_certificate_commands.proofs.PlayLemmas.{play_starts, preface_of_certificate, preface_of_pads}
use Rattle.uz_certificate_commands.proofs.play_command.start_play.Goals as goal

pub returns-in-Err-clause-fails : goal.returns-in-Err-clause-fails
returns-in-Err-clause-fails g c =
    preface_of_certificate (g.H.Shelf.files c.args.shelf.now) (g.H.Shelf.files c.read_file.new.shelf)
    (g.H.Shelf.load_faults c.args.shelf.now) (g.H.Shelf.load_faults c.read_file.new.shelf)
    (g.H.Shelf.load_faults c.read_file-2.new.shelf)
    c.args.hex.now c.args.cert.now c.args.pads.now c.in_ok-image.image c.in-Err.failure
    c.read_file.ensures.files c.read_file.ensures.load_faults c.in_ok-image.ensures.said c.in-Err.ensures.fails

pub returns-in-Err-read_file-clause-fails : goal.returns-in-Err-read_file-clause-fails
returns-in-Err-read_file-clause-fails g c =
    preface_of_pads (g.H.Shelf.files c.args.shelf.now) (g.H.Shelf.files c.read_file.new.shelf)
    (g.H.Shelf.files c.read_file-2.new.shelf)
    (g.H.Shelf.load_faults c.args.shelf.now) (g.H.Shelf.load_faults c.read_file.new.shelf)
    (g.H.Shelf.load_faults c.read_file-2.new.shelf) (g.H.Shelf.load_faults c.read_file-3.new.shelf)
    c.args.hex.now c.args.cert.now c.args.pads.now c.in_ok-image.image c.in-Ok.certificate c.in-Err-read_file.failure
    c.read_file.ensures.files c.read_file-2.ensures.files c.read_file.ensures.load_faults c.read_file-2.ensures.load_faults
    c.in_ok-image.ensures.said c.in-Ok.ensures.said c.in-Err-read_file.ensures.fails

pub returns-clause-starts : goal.returns-clause-starts
returns-clause-starts g c =
    play_starts (g.H.Shelf.files c.args.shelf.now) (g.H.Shelf.files c.read_file.new.shelf) (g.H.Shelf.files c.read_file-2.new.shelf)
    c.args.hex.now c.args.cert.now c.args.pads.now c.in_ok-image.image c.in-Ok.certificate c.in-Ok-read_file.list.items
    c.in_ok-check_and_reset.field-0
    c.read_file.ensures.files c.read_file-2.ensures.files c.in-Ok.ensures.well_formed c.in_ok-image.ensures.said c.in-Ok.ensures.said
    (says_seen _ _ _ SpellsPads (λ pads. pads.items) c.in-Ok-read_file.list c.in-Ok-read_file.ensures.said) c.in_ok-check_and_reset.ensures
