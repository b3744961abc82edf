use Rattle.std.proofs.Common.{rules, arith, nat_lt}
use Rattle.std.proofs.lemmas.List.Sorted.{IsPartitionPoint-from_clause}
use Rattle.xt_messages.specs.declared.file.Session.{Session}
use Rattle.object_versions.proofs.HeadRows.{clients_partitioned, session_found, session_between, session_at_end}
use Rattle.object_versions.proofs.sessions.session_place.Goals as goal

pub returns-then-place-sessions : goal.returns-then-place-sessions
returns-then-place-sessions c =
    let facts = c.partition_point-place.ensures in
    let parts = IsPartitionPoint-from_clause (λ (y : Session). nat_lt y.client.0 c.args.client.0) c.args.sessions.now c.partition_point-place.result facts.partitioned
    (clients_partitioned c.args.sessions.now c.args.client.0 c.requires) (λ a r f' k. search rules)
    in
    session_at_end c.args.sessions.now c.args.client.0 c.partition_point-place.result c.requires facts.bound parts c.if-place-sessions.true

pub returns-then-sessions-place : goal.returns-then-sessions-place
returns-then-sessions-place c =
    let facts = c.partition_point-place.ensures in
    let parts = IsPartitionPoint-from_clause (λ (y : Session). nat_lt y.client.0 c.args.client.0) c.args.sessions.now c.partition_point-place.result facts.partitioned
    (clients_partitioned c.args.sessions.now c.args.client.0 c.requires) (λ a r f' k. search rules)
    in
    session_between c.args.sessions.now c.args.client.0 c.partition_point-place.result c.requires facts.bound parts _ c.if-sessions-place.true

pub returns : goal.returns
returns c =
    let facts = c.partition_point-place.ensures in
    let parts = IsPartitionPoint-from_clause (λ (y : Session). nat_lt y.client.0 c.args.client.0) c.args.sessions.now c.partition_point-place.result facts.partitioned
    (clients_partitioned c.args.sessions.now c.args.client.0 c.requires) (λ a r f' k. search rules)
    in
    session_found c.args.sessions.now c.args.client.0 c.partition_point-place.result c.requires facts.bound parts _ (omega arith) c.if-sessions-place.false
