use Rattle.std.proofs.Common.{ltb, rules}
use Rattle.std.proofs.lemmas.List.Sorted.{IsPartitionPoint-from_clause, IsPartitionedBy-ltb}
use Rattle.uz_schedule.proofs.line_events.first_from.Goals as goal

pub returns-clause-place : goal.returns-clause-place
returns-clause-place c =
    let parted = IsPartitionedBy-ltb (λ e. e.clock) c.args.events.now c.args.clock c.requires in
    IsPartitionPoint-from_clause (λ e. ltb e.clock c.args.clock) _ _ c.partition_point.ensures.partitioned parted (λ a r q k. search rules)
