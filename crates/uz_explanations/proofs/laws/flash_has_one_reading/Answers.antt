use Rattle.std.proofs.Common.{None, arith}
use Rattle.uz_explanations.proofs.ReadingLemmas.{one_more_read, whole_reading, same_answer}
use Rattle.uz_explanations.proofs.laws.flash_has_one_reading.Goals as goal

pub loop-pc-init : goal.loop-pc-init
loop-pc-init c = (λ at. None, λ at h. absurd (omega (arith, h)))

pub loop-pc-preserved : goal.loop-pc-preserved
loop-pc-preserved c = one_more_read c.args.image.now c.loop-pc.pc c.row_at.result c.loop-pc.invariant c.row_at.ensures.reads

pub returns-clause-exists : goal.returns-clause-exists
returns-clause-exists c = whole_reading c.args.image.now c.loop-pc.pc (omega (arith, c.loop-pc-test.false)) c.loop-pc.invariant

pub returns-clause-one : goal.returns-clause-one
returns-clause-one c read other pc is are = same_answer _ _ (c.at_most_one.ensures _ _) (read pc) (other pc) (is pc) (are pc)
