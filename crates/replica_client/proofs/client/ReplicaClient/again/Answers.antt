use Rattle.std.proofs.Common.{◌∙◌, ap, max, subst, sym}
use Rattle.xt_protocol.specs.declared.turned.Turned.{Turned}
use Rattle.client_rows.specs.Again.{asks_first}
use Rattle.replica_client.specs.Views.{ClientView, Acts}
use Rattle.replica_client.proofs.Acted.{Row, again_is}
use Rattle.replica_client.proofs.client.ReplicaClient.again.Goals as goal

pub returns-clause-step : goal.returns-clause-step
returns-clause-step c =
    let old = c.args.self.now in
    let new = c.ask_first.new.self in
    let now = c.max-now.result in
    let row : Row = λ site client. asks_first site client c.args.number c.args.capability c.args.op in
    let Acted : Turned → Type 0 = λ turned. Acts row now old new turned in
    again_is c.args.now now c.args.number c.args.capability c.args.op old new c.sends.result
    (c.max-now.ensures ∙ ap (λ (v : ClientView). max c.args.now v.state.last) c.self.view_is)
    (subst Acted (sym c.sends.ensures) c.in_ok-outs.ensures.row)
