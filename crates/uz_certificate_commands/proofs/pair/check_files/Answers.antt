use Rattle.uz_certificate_commands.proofs.PairLemmas.{are_checked, preface_without_certificate}
use Rattle.uz_certificate_commands.proofs.pair.check_files.Goals as goal

pub returns-in-Err-clause-fails : goal.returns-in-Err-clause-fails
returns-in-Err-clause-fails g c =
    preface_without_certificate (g.H.Shelf.files c.args.shelf.now) (g.H.Shelf.files c.read_file.new.shelf)
    (g.H.Shelf.load_faults c.args.shelf.now) (g.H.Shelf.load_faults c.read_file.new.shelf)
    (g.H.Shelf.load_faults c.read_file-2.new.shelf)
    c.args.hex.now c.args.cert.now c.in_ok-image.image c.in-Err.failure
    c.read_file.ensures.files c.read_file.ensures.load_faults c.in_ok-image.ensures.said c.in-Err.ensures.fails

pub returns-clause-checked : goal.returns-clause-checked
returns-clause-checked g c =
    are_checked _ _ c.args.hex.now c.args.cert.now c.in_ok-image.image c.in-Ok.certificate _
    c.read_file.ensures.files c.in_ok-image.ensures.said c.in-Ok.ensures.said c.in_ok-check_pair.ensures
