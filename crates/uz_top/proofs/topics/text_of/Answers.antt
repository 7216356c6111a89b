use Rattle.std.proofs.Common.{ap, sym}
use Rattle.uz_top.specs.Topics.{text_of}
use Rattle.uz_top.proofs.topics.text_of.Goals as goal

pub returns-in-check : goal.returns-in-check
returns-in-check c = sym (ap text_of c.in-check.is)

pub returns-in-play : goal.returns-in-play
returns-in-play c = sym (ap text_of c.in-play.is)

pub returns-in-expand : goal.returns-in-expand
returns-in-expand c = sym (ap text_of c.in-expand.is)
