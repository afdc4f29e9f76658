-- A binary search for the first that isn't below.
use Rattle.std.proofs.Common.{rules, ltb}
use Rattle.std.proofs.lemmas.List.Sorted.{IsPartitionedBy-ltb, IsPartitionPoint-from_clause}
use Rattle.ob_base.specs.declared.id.RecId.{RecId}
use Rattle.ob_effect.proofs.RisingParts.{first-below, named, none-below, not_falling}
use Rattle.ob_effect.proofs.ids.count_below.Goals as goal

pub returns-clause-below : goal.returns-clause-below
returns-clause-below c =
    let point = IsPartitionPoint-from_clause (λ (other : RecId). ltb other.0 c.args.id.0) c.args.ids.now c.partition_point.result c.partition_point.ensures.partitioned
    (IsPartitionedBy-ltb named c.args.ids.now c.args.id.0 (not_falling c.args.ids.now c.requires)) (λ a r q k. search rules) in
    first-below c.args.ids.now c.args.id c.partition_point.result c.partition_point.ensures.bound point.0

pub returns-clause-rest : goal.returns-clause-rest
returns-clause-rest c =
    let point = IsPartitionPoint-from_clause (λ (other : RecId). ltb other.0 c.args.id.0) c.args.ids.now c.partition_point.result c.partition_point.ensures.partitioned
    (IsPartitionedBy-ltb named c.args.ids.now c.args.id.0 (not_falling c.args.ids.now c.requires)) (λ a r q k. search rules) in
    none-below c.args.ids.now c.args.id c.partition_point.result point.1
