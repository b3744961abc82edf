use Rattle.std.proofs.Common.{sym, ◌∙◌}
use Rattle.replica_records.proofs.Placing.{none_of}
use Rattle.replica_records.proofs.Placing.{with_room}
use Rattle.replica_records.proofs.places.Places.make_room.Goals as goal

pub returns-in_ok-insert-clause-same : goal.returns-in_ok-insert-clause-same
returns-in_ok-insert-clause-same c =
    with_room c.args.self.now _ c.in-Some.key (none_of _ (sym c.contains_key.ensures ∙ c.if-not-contains_key.true)) c.in_ok-insert.ensures.updates
