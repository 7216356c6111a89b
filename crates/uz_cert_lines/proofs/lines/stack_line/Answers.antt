use Rattle.uz_cert_lines.proofs.Fields.{depth_fits, high_fits, in_order, low_fits, next_fits}
use Rattle.uz_cert_lines.proofs.lines.stack_line.Goals as goal

pub overflow_add-lo : goal.overflow_add-lo
overflow_add-lo c = next_fits c.in_ok-lo.lo c.in_ok-lo.ensures.below

pub overflow_sub-hi : goal.overflow_sub-hi
overflow_sub-hi c = in_order c.in_ok-lo.lo c.in_ok-hi.hi c.in_ok-hi.ensures.low

pub overflow_sub-hi-2 : goal.overflow_sub-hi-2
overflow_sub-hi-2 c = in_order c.in_ok-lo.lo c.in_ok-hi.hi c.in_ok-hi.ensures.low

pub overflow_sub-hi-3 : goal.overflow_sub-hi-3
overflow_sub-hi-3 c = c.in_ok-main.ensures.room

pub overflow_cast-lo : goal.overflow_cast-lo
overflow_cast-lo c = low_fits c.in_ok-lo.lo c.in_ok-lo.ensures.below

pub overflow_cast-hi : goal.overflow_cast-hi
overflow_cast-hi c = high_fits c.in_ok-hi.hi c.in_ok-hi.ensures.below

pub overflow_cast-main : goal.overflow_cast-main
overflow_cast-main c = depth_fits c.in_ok-main.main c.in_ok-main.ensures.few

pub overflow_cast-handler : goal.overflow_cast-handler
overflow_cast-handler c = depth_fits c.in_ok-handler.handler c.in_ok-handler.ensures.few
