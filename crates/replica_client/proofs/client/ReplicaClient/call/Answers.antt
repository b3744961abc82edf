use Rattle.std.proofs.Common.{◌≡◌, ◌∙◌, ◌≤◌, ◌<◌, ℕ, ap, subst, max}
use Rattle.std.proofs.lemmas.Result.{IfOk-weaker}
use Rattle.xt_base.specs.declared.TheConstants.{COUNTS}
use Rattle.xt_protocol.specs.declared.turned.Turned.{Turned}
use Rattle.client_rows.specs.Steps.{Step}
use Rattle.client_rows.specs.declared.ClientState.{ClientState}
use Rattle.client_rows.specs.Clients.{call_of_client, begins_call}
use Rattle.replica_client.specs.Views.{ClientView, Acts}
use Rattle.replica_client.proofs.Acted.{Row, call_stays, call_begins}
use Rattle.replica_client.proofs.client.ReplicaClient.call.Goals as goal

pub returns-then-self-ge-COUNTS-clause-step : goal.returns-then-self-ge-COUNTS-clause-step
returns-then-self-ge-COUNTS-clause-step c =
    let Spent : ℕ → Type 0 = λ n. COUNTS ≤ n in
    call_stays c.args.now c.max-now.result c.args.capability c.args.call.now c.args.op c.args.self.now c.stay.new.self c.stay.result
    (c.max-now.ensures ∙ ap (λ (v : ClientView). max c.args.now v.state.last) c.self.view_is)
    (subst Spent (ap (λ (v : ClientView). v.state.next) c.self.view_is) c.if-self-ge-COUNTS.true) c.stay.ensures

pub returns-clause-step : goal.returns-clause-step
returns-clause-step c =
    let Left : ℕ → Type 0 = λ n. n < COUNTS in
    let old = c.args.self.now in
    let new = c.begin.new.self in
    let row : Row = λ site client. begins_call site client c.args.capability c.args.call.now c.args.op in
    let step : Turned → Step ClientState = λ turned. record { state = new.state; turned = turned } in
    IfOk-weaker c.begin.result (λ turned. Acts row c.max-now.result old new turned)
    (λ turned. call_of_client old.node old.times old.state c.args.now c.args.capability c.args.call.now c.args.op ≡ step turned)
    (λ turned. call_begins c.args.now c.max-now.result c.args.capability c.args.call.now c.args.op old new turned
    (c.max-now.ensures ∙ ap (λ (v : ClientView). max c.args.now v.state.last) c.self.view_is)
    (subst Left (ap (λ (v : ClientView). v.state.next) c.self.view_is) c.if-self-ge-COUNTS.false))
    c.begin.ensures.row
