use Rattle.std.proofs.Common.{◌∙◌, sym, rules, arith}
use Rattle.std.proofs.lemmas.List.Sorted.{IsPartitionPoint-from_clause}
use Rattle.xt_messages.specs.declared.file.ObjectVersion.{ObjectVersion}
use Rattle.xt_protocol.specs.Stamps.{is_version, comes_before}
use Rattle.object_versions.proofs.Puts.{partitioned}
use Rattle.object_versions.proofs.HeldVersions.{version_order, held_found, held_between, held_at_end}
use Rattle.object_versions.proofs.held.held_place.Goals as goal

pub returns-then-place-held : goal.returns-then-place-held
returns-then-place-held c =
    let parts = IsPartitionPoint-from_clause (λ (y : ObjectVersion). comes_before y c.args.version) c.args.held.now c.partition_point-place.result c.partition_point-place.ensures.partitioned
    (partitioned is_version comes_before version_order c.args.held.now c.args.version c.requires) (λ a r f' k. search rules)
    in
    held_at_end c.args.held.now c.args.version c.partition_point-place.result c.requires c.partition_point-place.ensures.bound parts c.if-place-held.true

pub returns-then-not-is_version : goal.returns-then-not-is_version
returns-then-not-is_version c =
    let parts = IsPartitionPoint-from_clause (λ (y : ObjectVersion). comes_before y c.args.version) c.args.held.now c.partition_point-place.result c.partition_point-place.ensures.partitioned
    (partitioned is_version comes_before version_order c.args.held.now c.args.version c.requires) (λ a r f' k. search rules)
    in
    held_between c.args.held.now c.args.version c.partition_point-place.result c.requires c.partition_point-place.ensures.bound parts _ (sym c.is_version.ensures ∙ c.if-not-is_version.true)

pub returns : goal.returns
returns c =
    let parts = IsPartitionPoint-from_clause (λ (y : ObjectVersion). comes_before y c.args.version) c.args.held.now c.partition_point-place.result c.partition_point-place.ensures.partitioned
    (partitioned is_version comes_before version_order c.args.held.now c.args.version c.requires) (λ a r f' k. search rules)
    in
    held_found c.args.held.now c.args.version c.partition_point-place.result c.requires c.partition_point-place.ensures.bound parts _ (omega arith) (sym c.is_version.ensures ∙ c.if-not-is_version.false)
