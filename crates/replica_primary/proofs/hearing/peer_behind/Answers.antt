use Rattle.std.proofs.Common.{◌∙◌, ◌∷◌, [], List, ap}
use Rattle.xt_messages.specs.declared.message.Msg.{Msg}
use Rattle.xt_messages.specs.declared.message.Payload.TheVariants as payload
use Rattle.xt_protocol.specs.declared.turned.Turned.{Turned}
use Rattle.xt_protocol.specs.declared.states.Peer.{Peer}
use Rattle.xt_protocol.specs.declared.states.Tenure.{Tenure}
use Rattle.xt_protocol.specs.PrimaryRows.{goes_on}
use Rattle.xt_protocol.specs.Turns.{message, sends}
use Rattle.replica_primary.proofs.Given.{if_so}
use Rattle.replica_primary.proofs.hearing.peer_behind.Goals as goal

pub returns : goal.returns
returns c =
    if_so _ _ c.sends_one.result c.sends_one.ensures
    (λ turned of learnt records own held state is.
    let t = c.args.tenure.now in
    let place = c.args.place.now in
    let after : List Peer → Tenure = λ peers. record t { peers = peers } in
    ap (λ (u : Turned). goes_on learnt (after c.forget.new.peers) u) (of ∙ ap (λ (m : Msg). sends (m ∷ [])) c.message.ensures)
    ∙ ap (λ (peers : List Peer). goes_on learnt (after peers) (sends (message place.node c.args.from (payload.Gather place.file t.epoch) ∷ []))) (c.forget.ensures state is))
