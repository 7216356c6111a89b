use Rattle.std.proofs.Common.{take, []}
use Rattle.uz_schedule.specs.Lines.{order_of}
use Rattle.uz_schedule.specs.Schedule.{response_clocks}
use Rattle.uz_paths.specs.Linked.{ArePoints}
use Rattle.uz_paths.proofs.numbers.vectors_of.Given as goal

-- those so far have their vectors
abbrev pub invariant-loop-rest : goal.invariant-loop-rest
invariant-loop-rest l = ArePoints (response_clocks l.response) (order_of l.schedule) (take l.rest-index l.rests) [] [] l.rest-index
    l.points.items
