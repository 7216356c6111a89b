use Rattle.std.proofs.Common.{◌∙◌}
use Rattle.uz_files.specs.Formats.{SpellsPads}
use Rattle.uz_files.proofs.ReadingLemmas.{says_seen}
use Rattle.uz_files.proofs.RunFileLemmas.{preface_without_pads}
use Rattle.uz_program_commands.proofs.DebugLemmas.{starts_debug}
use Rattle.uz_program_commands.proofs.debug_command.reset_debugger.Goals as goal

pub returns-in-Err-clause-fails : goal.returns-in-Err-clause-fails
returns-in-Err-clause-fails g c =
    preface_without_pads (g.H.Shelf.files c.args.shelf.now) (g.H.Shelf.files c.read_file.new.shelf)
    (g.H.Shelf.load_faults c.args.shelf.now) (g.H.Shelf.load_faults c.read_file.new.shelf)
    (g.H.Shelf.load_faults c.read_file-2.new.shelf)
    c.args.hex.now c.args.pads.now c.in_ok-image.image c.in-Err.failure
    c.read_file.ensures.files c.read_file.ensures.load_faults c.in_ok-image.ensures.said c.in-Err.ensures.fails

pub returns-clause-starts : goal.returns-clause-starts
returns-clause-starts g c =
    starts_debug _ _ c.args.hex.now c.args.pads.now c.args.irq c.in_ok-image.image c.in-Ok.list.items _
    c.read_file.ensures.files c.in_ok-image.ensures.said
    (says_seen _ _ _ SpellsPads (λ pads. pads.items) c.in-Ok.list c.in-Ok.ensures.said) c.in_ok-new.ensures

pub returns-in-Err-clause-files : goal.returns-in-Err-clause-files
returns-in-Err-clause-files g c = c.read_file-2.ensures.files ∙ c.read_file.ensures.files

pub returns-clause-files : goal.returns-clause-files
returns-clause-files g c = c.read_file-2.ensures.files ∙ c.read_file.ensures.files
