use Rattle.std.proofs.Common.{arith}
use Rattle.uz_program_commands.proofs.LineLemmas.{clock_digits_most}
use Rattle.uz_program_commands.proofs.trace_lines.write_clock.Goals as goal

pub write_digits-requires : goal.write_digits-requires
write_digits-requires c = (omega (arith, clock_digits_most c.args.clock c.ranges.clock.fits), omega arith)

pub returns-clause-least : goal.returns-clause-least
returns-clause-least c = omega (arith, clock_digits_most c.args.clock c.ranges.clock.fits)
