use Rattle.std.proofs.Common.{rules}
use Rattle.uz_certificate_commands.specs.HintedValues.{hints_seen}
use Rattle.uz_certificate_commands.proofs.WhyLemmas.{refusal_lines}
use Rattle.uz_certificate_commands.proofs.why_command.refusal_text.Goals as goal

pub returns : goal.returns
returns c =
    refusal_lines c.args.irq c.args.read.now.image (hints_seen c.args.read.now.hints) c.args.why.now c.in_ok-way.way.items
    c.in_ok-hint.hint.items _ c.in_ok-way.ensures c.in_ok-hint.ensures (search rules)
