use Rattle.std.proofs.Common.{◌∙◌, ap, List, Some, None, filter, not}
use Rattle.client_rows.specs.declared.Tried.{Tried}
use Rattle.client_rows.specs.Clients.{with_outcome, next_of, named, was_tried}
use Rattle.replica_client.proofs.Acted.{turn_done}
use Rattle.replica_client.proofs.client.ReplicaClient.turn_away.Goals as goal

pub returns-in-Some-clause-row : goal.returns-in-Some-clause-row
returns-in-Some-clause-row c =
    let call = c.running-call.result.now in
    turn_done c.ask.result c.args.now c.args.self.now c.ask.new.self call c.args.how c.in_ok-tried.tried (Some c.in-Some.target)
    c.running-call.ensures
    (c.in_ok-tried.ensures ∙ ap (λ (ts : List Tried). with_outcome ts call.target c.args.how) c.as_slice.ensures)
    (c.in-Some.ensures
    ∙ ap (λ (ts : List Tried). next_of (named c.args.how) (filter (λ m. not (was_tried ts m)) call.capability.location.members))
    c.as_slice-2.ensures)
    c.ask.ensures.row

pub returns-in-None-clause-row : goal.returns-in-None-clause-row
returns-in-None-clause-row c =
    let call = c.running-call.result.now in
    turn_done c.give_up.result c.args.now c.args.self.now c.give_up.new.self call c.args.how c.in_ok-tried.tried None
    c.running-call.ensures
    (c.in_ok-tried.ensures ∙ ap (λ (ts : List Tried). with_outcome ts call.target c.args.how) c.as_slice.ensures)
    (c.in-None.ensures
    ∙ ap (λ (ts : List Tried). next_of (named c.args.how) (filter (λ m. not (was_tried ts m)) call.capability.location.members))
    c.as_slice-2.ensures)
    c.give_up.ensures.row
