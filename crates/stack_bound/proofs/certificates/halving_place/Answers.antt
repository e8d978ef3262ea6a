use Rattle.std.proofs.Common.{rules}
use Rattle.std.proofs.lemmas.List.Sorted.{IsPartitionPoint-from_clause}
use Rattle.stack_bound.specs.Order.{is_before}
use Rattle.stack_bound.proofs.OrderLemmas.{blocks_partitioned}
use Rattle.stack_bound.proofs.certificates.halving_place.Goals as goal

pub returns : goal.returns
returns c =
    IsPartitionPoint-from_clause (λ b. is_before b.block c.args.block) _ _ c.partition_point.ensures.partitioned
    (blocks_partitioned c.args.block c.args.list.now c.requires) (λ a r q k. search rules)
