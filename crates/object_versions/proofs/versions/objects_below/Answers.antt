use Rattle.std.proofs.Common.{rules, nat_lt}
use Rattle.std.proofs.lemmas.List.Sorted.{IsPartitionPoint-from_clause}
use Rattle.xt_messages.specs.declared.file.ObjectVersion.{ObjectVersion}
use Rattle.object_versions.proofs.HeadRows.{objects_partitioned, below_taken}
use Rattle.object_versions.proofs.versions.objects_below.Goals as goal

pub returns-clause-below : goal.returns-clause-below
returns-clause-below c =
    let facts = c.partition_point.ensures in
    let parts = IsPartitionPoint-from_clause (λ (y : ObjectVersion). nat_lt y.object c.args.from) c.args.versions.now c.partition_point.result facts.partitioned
    (objects_partitioned c.args.versions.now c.args.from c.requires) (λ a r f' k. search rules)
    in
    below_taken c.args.versions.now c.args.from c.partition_point.result facts.bound parts
