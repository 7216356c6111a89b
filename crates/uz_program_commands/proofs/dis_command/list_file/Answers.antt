use Rattle.uz_program_commands.proofs.DisLemmas.{dis_listed}
use Rattle.uz_program_commands.proofs.dis_command.list_file.Goals as goal

pub returns-clause-gives : goal.returns-clause-gives
returns-clause-gives g c = dis_listed _ _ c.args.hex.now c.in_ok-image.image c.in_ok-listing.field-0.items c.in_ok-image.ensures.said
    c.in_ok-listing.ensures
