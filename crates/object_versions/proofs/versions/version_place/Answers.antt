use Rattle.std.proofs.Common.{rules, arith, nat_lt}
use Rattle.std.proofs.lemmas.List.Sorted.{IsPartitionPoint-from_clause}
use Rattle.xt_messages.specs.declared.file.ObjectVersion.{ObjectVersion}
use Rattle.object_versions.proofs.HeadRows.{objects_partitioned, version_found, version_between, version_at_end}
use Rattle.object_versions.proofs.versions.version_place.Goals as goal

pub returns-then-place-versions : goal.returns-then-place-versions
returns-then-place-versions c =
    let facts = c.partition_point-place.ensures in
    let parts = IsPartitionPoint-from_clause (λ (y : ObjectVersion). nat_lt y.object c.args.object) c.args.versions.now c.partition_point-place.result facts.partitioned
    (objects_partitioned c.args.versions.now c.args.object c.requires) (λ a r f' k. search rules)
    in
    version_at_end c.args.versions.now c.args.object c.partition_point-place.result c.requires facts.bound parts c.if-place-versions.true

pub returns-then-versions-place : goal.returns-then-versions-place
returns-then-versions-place c =
    let facts = c.partition_point-place.ensures in
    let parts = IsPartitionPoint-from_clause (λ (y : ObjectVersion). nat_lt y.object c.args.object) c.args.versions.now c.partition_point-place.result facts.partitioned
    (objects_partitioned c.args.versions.now c.args.object c.requires) (λ a r f' k. search rules)
    in
    version_between c.args.versions.now c.args.object c.partition_point-place.result c.requires facts.bound parts _ c.if-versions-place.true

pub returns : goal.returns
returns c =
    let facts = c.partition_point-place.ensures in
    let parts = IsPartitionPoint-from_clause (λ (y : ObjectVersion). nat_lt y.object c.args.object) c.args.versions.now c.partition_point-place.result facts.partitioned
    (objects_partitioned c.args.versions.now c.args.object c.requires) (λ a r f' k. search rules)
    in
    version_found c.args.versions.now c.args.object c.partition_point-place.result c.requires facts.bound parts _ (omega arith) c.if-versions-place.false
