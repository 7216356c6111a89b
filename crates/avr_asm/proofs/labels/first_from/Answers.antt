use Rattle.std.proofs.Common.{ltb, rules}
use Rattle.std.proofs.lemmas.List.Sorted.{IsPartitionPoint-from_clause, IsPartitionedBy-ltb}
use Rattle.avr_asm.proofs.labels.first_from.Goals as goal

pub returns-clause-place : goal.returns-clause-place
returns-clause-place c =
    let parted = IsPartitionedBy-ltb (λ l. l.address) c.args.labels.now c.args.address c.requires in
    IsPartitionPoint-from_clause (λ l. ltb l.address c.args.address) _ _ c.partition_point.ensures.partitioned parted (λ a r q k. search rules)
