use Rattle.std.proofs.Common.{◌∙◌, List, ap, subst, sym}
use Rattle.xt_messages.specs.declared.file.ObjectVersion.{ObjectVersion}
use Rattle.xt_protocol.specs.declared.states.Peer.{Peer}
use Rattle.xt_protocol.specs.declared.states.PeerState.TheVariants as peer
use Rattle.xt_protocol.specs.declared.states.Tenure.{Tenure}
use Rattle.xt_protocol.specs.Primaries.{fed, peer_in}
use Rattle.peer_searches.specs.Sound.{AreSound}
use Rattle.replica_primary.specs.Feeding.{head_of, is_at_head}
use Rattle.replica_primary.specs.Written.{ground}
use Rattle.replica_primary.proofs.Fed.{fed_by, known_missed, set_anew}
use Rattle.replica_primary.proofs.Sought.{taken_sound}
use Rattle.replica_primary.proofs.feeding.body_missed.Goals as goal

pub returns-clause-value : goal.returns-clause-value
returns-clause-value g c =
    λ records agrees learnt held.
    let t = c.args.tenure.now in
    let from = c.args.from in
    let v = c.args.version in
    let stands = ground c.args.place.now records c.args.own.now held in
    let head = head_of c.in-Some.target in
    let last = ap (λ (peers : List Peer). is_at_head (peer_in peers from)) (sym c.as_slice.ensures) ∙ sym c.is_at_head.ensures ∙ c.if-not-is_at_head.false in
    fed_by stands learnt t from c.send_to_peer.new.tenure c.in_ok-send_to_peer.field-0 c.in_ok-state.state head _
    (set_anew stands learnt t from c.take_known-known.new.peers c.send_to_peer.new.tenure peer.Unknown c.in_ok-state.state c.take_known-known.ensures.set c.send_to_peer.ensures.state)
    c.in_ok-send_to_peer.ensures.sent
    (c.in_ok-state.ensures.value records agrees ∙ ap (λ (known : List ObjectVersion). fed stands.body head known) c.let_go.ensures)
    ∙ known_missed stands learnt t from v head c.take_known-known.result (peer_in t.peers from) c.in-Some.ensures.head c.take_known-known.ensures.known last

pub returns-clause-sound : goal.returns-clause-sound
returns-clause-sound g c =
    let own = c.args.own.now in
    let taken = c.take_known-known.new.peers in
    let P : Tenure → Type 0 = λ t. AreSound own.versions t.peers c.fed_on.new.searches in
    subst P (sym c.send_to_peer.ensures.state)
    (c.in_ok-state.ensures.sound own taken c.in-Some.ensures.own (taken_sound own.versions c.args.tenure.now.peers taken c.args.searches.now c.args.from c.take_known-known.ensures.set c.requires))
