use Rattle.avr_asm.specs.Assembly.{seen_built}
use Rattle.avr_asm.specs.Relation.{IsAssembly}
use Rattle.uz_files.proofs.ReadingLemmas.{says_seen}
use Rattle.uz_certificate_commands.proofs.CertifyLemmas.{found_in}
use Rattle.uz_certificate_commands.proofs.certify_command.prepare.Goals as goal

pub returns-clause-found : goal.returns-clause-found
returns-clause-found g c = found_in (g.H.Shelf.files c.args.shelf.now) c.args.source.now c.args.irq c.in_ok-built.built
    c.search_built.result (says_seen _ _ _ IsAssembly seen_built c.in_ok-built.built c.in_ok-built.ensures.said) c.search_built.ensures.found
