use Rattle.uz_cert_lines.proofs.Fields.{address_fits, byte_fits, kind_clock_fits, count_fits, kind_line_fits}
use Rattle.uz_cert_lines.proofs.lines.point_after.Goals as goal

pub overflow_cast-place : goal.overflow_cast-place
overflow_cast-place c = address_fits c.in_ok-pc.pc c.in_ok-pc.ensures.below

pub overflow_cast-place-2 : goal.overflow_cast-place-2
overflow_cast-place-2 c = kind_line_fits c.in_ok-l0.l0 c.args.lines c.requires.lines c.in_ok-l0.ensures.below

pub overflow_cast-place-3 : goal.overflow_cast-place-3
overflow_cast-place-3 c = kind_line_fits c.in_ok-l1.l1 c.args.lines c.requires.lines c.in_ok-l1.ensures.below

pub overflow_cast-place-4 : goal.overflow_cast-place-4
overflow_cast-place-4 c = count_fits c.in_ok-c0.c0 c.in_ok-c0.ensures.below

pub overflow_cast-place-5 : goal.overflow_cast-place-5
overflow_cast-place-5 c = byte_fits c.in_ok-c1.c1 c.in_ok-c1.ensures.few

pub overflow_cast-place-6 : goal.overflow_cast-place-6
overflow_cast-place-6 c = kind_clock_fits c.in_ok-clock.clock c.in_ok-clock.ensures.below
