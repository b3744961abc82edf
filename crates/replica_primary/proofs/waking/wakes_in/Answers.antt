use Rattle.std.proofs.Common.{List, None, ap, refl, ◌∙◌, flat_map}
use Rattle.xt_protocol.specs.declared.states.Peer.{Peer}
use Rattle.xt_protocol.specs.Primaries.{if_any}
use Rattle.xt_protocol.specs.Serving.{gather_unknown, resend}
use Rattle.xt_protocol.specs.Turns.{sends}
use Rattle.replica_primary.proofs.Given.{if_so}
use Rattle.replica_primary.proofs.waking.wakes_in.Goals as goal

pub returns-in-Gathering : goal.returns-in-Gathering
returns-in-Gathering c =
    if_so _ _ c.gathers.result c.gathers.ensures
    (λ turned of.
    let place = c.args.place.now in
    let epoch = c.args.tenure.now.epoch in
    of
    ∙ ap (λ (peers : List Peer). sends (flat_map (λ p. if_any place.node p.node (gather_unknown place epoch p.node p.state)) peers)) c.as_slice-peers.ensures
    ∙ rw c.in-Gathering.is refl)

pub returns-in-Installing : goal.returns-in-Installing
returns-in-Installing c =
    if_so _ _ c.again_to_each.result c.again_to_each.ensures
    (λ turned of.
    let place = c.args.place.now in
    let epoch = c.args.tenure.now.epoch in
    of
    ∙ ap (λ (peers : List Peer). sends (flat_map (λ p. if_any place.node p.node (resend place epoch None p.node p.state)) peers)) c.as_slice-peers.ensures
    ∙ rw c.in-Installing.is refl)

pub returns-in-Active : goal.returns-in-Active
returns-in-Active c =
    if_so _ _ c.again_to_each-in-Active.result c.again_to_each-in-Active.ensures
    (λ turned of.
    let place = c.args.place.now in
    let epoch = c.args.tenure.now.epoch in
    of
    ∙ ap (λ (peers : List Peer). sends (flat_map (λ p. if_any place.node p.node (resend place epoch c.in-Active.issued p.node p.state)) peers)) c.as_slice-peers.ensures
    ∙ rw c.in-Active.is refl)
