use Rattle.uz_certificate_commands.specs.HintedValues.{hints_seen}
use Rattle.uz_certificate_commands.proofs.WhyLemmas.{way_told}
use Rattle.uz_certificate_commands.proofs.why_command.way_to.Goals as goal

pub returns : goal.returns
returns c =
    way_told c.args.read.now.image (hints_seen c.args.read.now.hints) c.args.why.now c.args.map.now.labels c.explain.result
    c.flash_has_one_reading.ensures.exists c.requires c.explain.ensures
