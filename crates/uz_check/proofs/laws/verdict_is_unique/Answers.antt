use Rattle.uz_check.proofs.OneVerdict.{one_refusal, accepted_none}
use Rattle.uz_check.proofs.laws.verdict_is_unique.Goals as goal

pub returns : goal.returns
returns c = record { one = one_refusal c.local_is_unique.ensures; none = accepted_none }
