use Rattle.std.proofs.Common.{take}
use Rattle.uz_schedule.specs.Lines.{order_of}
use Rattle.uz_schedule.specs.Schedule.{response_clocks}
use Rattle.uz_paths.specs.Numbers.{AreNumbers}
use Rattle.uz_paths.specs.Plan.{AreCounted}
use Rattle.uz_paths.proofs.numbers.numbers_of.Given as goal

-- those so far have their numbers
abbrev pub invariant-loop-at : goal.invariant-loop-at
invariant-loop-at l = record {
  numbered : AreNumbers (response_clocks l.response) (order_of l.schedule) l.rests (take l.at-index l.nodes) l.of.items l.count;
  counted : AreCounted (response_clocks l.response) (order_of l.schedule) l.rests l.nodes l.of.items;
}
