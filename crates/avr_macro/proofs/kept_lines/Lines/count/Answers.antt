use Rattle.avr_macro.proofs.Kept.{count_lines}
use Rattle.avr_macro.proofs.kept_lines.Lines.count.Goals as goal

pub returns : goal.returns
returns c = cc (c.as_slice.ensures.value, count_lines c.self.inside.text.items c.self.inside.ends.items 0, c.self.view_is)
