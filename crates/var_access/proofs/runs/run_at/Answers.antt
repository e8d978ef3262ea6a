use Rattle.std.proofs.Common.{◌∙◌, rules, arith, leb}
use Rattle.std.proofs.lemmas.List.Sorted.{IsPartitionPoint-from_clause, IsPartitionedBy-leb}
use Rattle.var_access.proofs.RunLemmas.{rise, none_by, last_by, begins_early}
use Rattle.var_access.proofs.runs.run_at.Goals as goal

pub returns-then-behind-eq0-clause-found : goal.returns-then-behind-eq0-clause-found
returns-then-behind-eq0-clause-found c =
    let parted = IsPartitionedBy-leb (λ r. r.first) _ c.args.i (rise 0 c.args.runs.now c.requires.follow) in
    none_by c.args.runs.now c.args.i c.partition_point-behind.result
    (IsPartitionPoint-from_clause (λ r. leb r.first c.args.i) _ _ c.partition_point-behind.ensures.partitioned parted (λ a r q k. search rules))
    c.if-behind-eq0.true

pub returns-clause-found : goal.returns-clause-found
returns-clause-found c =
    let parted = IsPartitionedBy-leb (λ r. r.first) _ c.args.i (rise 0 c.args.runs.now c.requires.follow) in
    c.run_in_place.ensures ∙ last_by c.args.runs.now c.args.i c.partition_point-behind.result
    (IsPartitionPoint-from_clause (λ r. leb r.first c.args.i) _ _ c.partition_point-behind.ensures.partitioned parted (λ a r q k. search rules))
    (omega (arith, c.if-behind-eq0.false)) c.partition_point-behind.ensures.bound

pub returns-clause-begins : goal.returns-clause-begins
returns-clause-begins c = begins_early c.args.runs.now c.args.i _ (returns-clause-found c)
