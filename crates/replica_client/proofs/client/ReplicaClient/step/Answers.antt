use Rattle.std.proofs.Common.{◌≡◌, ◌∙◌, ap, max}
use Rattle.std.proofs.lemmas.Result.{IfOk-weaker}
use Rattle.xt_protocol.specs.declared.turned.Turned.{Turned}
use Rattle.client_rows.specs.Steps.{Step}
use Rattle.client_rows.specs.declared.ClientState.{ClientState}
use Rattle.client_rows.specs.Clients.{step_of_client, event_comes}
use Rattle.replica_client.specs.Views.{ClientView, Acts}
use Rattle.client_rows.specs.Ends.{ended_by}
use Rattle.replica_client.proofs.Acted.{Row, event_is, ended_is}
use Rattle.replica_client.proofs.client.ReplicaClient.step.Goals as goal

pub returns-clause-step : goal.returns-clause-step
returns-clause-step c =
    let old = c.args.self.now in
    let new = c.handle.new.self in
    let row : Row = λ site client. event_comes site client c.args.ev.now in
    let step : Turned → Step ClientState = λ turned. record { state = new.state; turned = turned } in
    IfOk-weaker c.handle.result (λ turned. Acts row c.max-now.result old new turned)
    (λ turned. step_of_client old.node old.times old.state c.args.now c.args.ev.now ≡ step turned)
    (λ turned. event_is c.args.now c.max-now.result c.args.ev.now old new turned
    (c.max-now.ensures ∙ ap (λ (v : ClientView). max c.args.now v.state.last) c.self.view_is))
    c.handle.ensures.row

pub returns-clause-ended : goal.returns-clause-ended
returns-clause-ended c =
    let old = c.args.self.now in
    let new = c.handle.new.self in
    let row : Row = λ site client. event_comes site client c.args.ev.now in
    IfOk-weaker c.handle.result (λ turned. Acts row c.max-now.result old new turned)
    (λ turned. new.ended ≡ ended_by old.ended turned.marks)
    (λ turned. ended_is row c.max-now.result old new turned)
    c.handle.ensures.row
