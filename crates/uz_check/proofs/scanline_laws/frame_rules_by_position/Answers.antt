use Rattle.uz_check.proofs.FrameRules.{rest_is, entry_is}
use Rattle.uz_check.proofs.scanline_laws.frame_rules_by_position.Goals as goal

pub returns : goal.returns
returns c = record { rests = rest_is c.lies_in_point_tells.ensures; entry = entry_is c.lies_in_point_tells.ensures }
