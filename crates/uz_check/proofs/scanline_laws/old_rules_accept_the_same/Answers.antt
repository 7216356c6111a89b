use Rattle.uz_check.proofs.OldRules.{accepts_told, accepts_back}
use Rattle.uz_check.proofs.scanline_laws.old_rules_accept_the_same.Goals as goal

pub returns : goal.returns
returns c = λ image cert formed old. (
  accepts_back c.lies_in_point_tells.ensures image cert formed old,
  accepts_told c.lies_in_point_tells.ensures image cert formed old,
)
