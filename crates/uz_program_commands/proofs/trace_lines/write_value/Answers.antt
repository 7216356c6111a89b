use Rattle.std.proofs.Common.{arith}
use Rattle.uz_program_commands.proofs.LineLemmas.{word_digits_most}
use Rattle.uz_program_commands.proofs.trace_lines.write_value.Goals as goal

pub write_digits-digits-requires : goal.write_digits-digits-requires
write_digits-digits-requires c =
    let most = word_digits_most c.from.result (omega (arith, c.ranges.value.fits)) in
    (omega arith, omega arith)

pub write_piece-requires : goal.write_piece-requires
write_piece-requires c =
    let most = word_digits_most c.from.result (omega (arith, c.ranges.value.fits)) in
    (omega arith, omega arith)

pub returns-clause-least : goal.returns-clause-least
returns-clause-least c =
    let most = word_digits_most c.from.result (omega (arith, c.ranges.value.fits)) in
    omega arith
