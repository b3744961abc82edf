use Rattle.std.proofs.Common.{◌∙◌, ap, rules, arith}
use Rattle.std.proofs.lemmas.List.Sorted.{IsPartitionPoint-from_clause}
use Rattle.xt_messages.specs.declared.record.KeepBody.{KeepBody}
use Rattle.object_versions.specs.Keeping.{is_body, body_before}
use Rattle.object_versions.proofs.Puts.{partitioned}
use Rattle.object_versions.proofs.BodyOrder.{body_order, kept_there, kept_nowhere}
use Rattle.object_versions.proofs.keeping.is_among.Goals as goal

pub returns-then-place-bodies : goal.returns-then-place-bodies
returns-then-place-bodies c =
    let parts = IsPartitionPoint-from_clause (λ (y : KeepBody). body_before y c.args.body.now) c.args.bodies.now c.partition_point-place.result c.partition_point-place.ensures.partitioned
    (partitioned is_body body_before body_order c.args.bodies.now c.args.body.now c.requires) (λ a r f' k. search rules)
    in
    kept_nowhere c.args.bodies.now c.args.body.now c.partition_point-place.result c.requires c.partition_point-place.ensures.bound parts c.if-place-bodies.true

pub returns : goal.returns
returns c =
    let parts = IsPartitionPoint-from_clause (λ (y : KeepBody). body_before y c.args.body.now) c.args.bodies.now c.partition_point-place.result c.partition_point-place.ensures.partitioned
    (partitioned is_body body_before body_order c.args.bodies.now c.args.body.now c.requires) (λ a r f' k. search rules)
    in
    let found = c.index-bodies-place.result in
    c.is_body.ensures ∙ ap (λ (k : KeepBody). is_body k c.args.body.now) c.index-bodies-place.is
    ∙ kept_there c.args.bodies.now c.args.body.now c.partition_point-place.result c.requires c.partition_point-place.ensures.bound parts found (omega arith)
