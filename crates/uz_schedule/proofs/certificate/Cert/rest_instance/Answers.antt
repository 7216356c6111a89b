use Rattle.std.proofs.Common.{arith}
use Rattle.uz_schedule.proofs.Starts.{length_within}
use Rattle.uz_schedule.proofs.certificate.Cert.rest_instance.Goals as goal

-- a line has clocks
pub overflow_sub-length : goal.overflow_sub-length
overflow_sub-length c = omega (arith, c.length.ensures, (length_within c.args.self.now.schedule c.requires.fits c.args.rest.now.line).0)
