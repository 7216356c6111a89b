use Rattle.std.proofs.Common.{◌≡◌, [], length}
use Rattle.uz_schedule.specs.Schedule.{response_clocks}
use Rattle.uz_search.specs.Following.{order_of_program}
use Rattle.uz_paths.specs.Plan.{AreMade}
use Rattle.uz_paths.specs.Linking.{VectorsLeadBy}
use Rattle.uz_paths.proofs.linking.Linking.link_vectors.Given as goal

-- the vectors so far name what follows them
abbrev pub invariant-loop-k : goal.invariant-loop-k
invariant-loop-k l = record {
  size : length l.points ≡ length l.rests;
  made : AreMade (response_clocks l.self.program.now.head.irq) (order_of_program l.self.program.now) l.rests [] [] l.self.count l.points;
  named : VectorsLeadBy l.self l.schedule l.rests l.k l.points;
}
