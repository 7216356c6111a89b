use Rattle.std.proofs.Common.{ltb, rules}
use Rattle.std.proofs.lemmas.List.Sorted.{IsPartitionPoint-from_clause, IsPartitionedBy-ltb}
use Rattle.avr_macro.proofs.ends.first_from.Goals as goal

pub returns-clause-place : goal.returns-clause-place
returns-clause-place c =
    let parted = IsPartitionedBy-ltb (λ b. b.line) c.args.blocks.now c.args.line c.requires in
    IsPartitionPoint-from_clause (λ b. ltb b.line c.args.line) _ _ c.partition_point.ensures.partitioned parted (λ a r q k. search rules)
