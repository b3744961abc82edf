use Rattle.std.proofs.Common.{◌∙◌, [], List, arith}
use Rattle.xt_messages.specs.declared.record.Record.{Record}
use Rattle.xt_protocol.specs.declared.states.Peer.{Peer}
use Rattle.xt_protocol.specs.PrimaryRows.{feed_peer}
use Rattle.flease.proofs.Filled.{map-step-at}
use Rattle.replica_primary.specs.Moves.{ground_beyond}
use Rattle.replica_primary.proofs.gathering.feed_each.Goals as goal

pub loop-peer-preserved : goal.loop-peer-preserved
loop-peer-preserved g c =
    let before = c.loop-peer.invariant in
    let turn = c.in_ok-feed_peer.ensures in
    let target = c.args.target.now in
    let fed = λ (records : List Record) (p : Peer). let q : Peer = record { node = p.node; state = feed_peer (ground_beyond c.args.place.now records c.args.fetched.now target []) target p.node p.state } in q in
    record {
      fed = λ records agrees.
          map-step-at (fed records) c.args.peers.now c.loop-peer.peers c.loop-peer.peer-index c.peer-item.result c.feed_peer.new.peer (omega arith) (before.fed records (turn.reads.later records agrees)) c.peer-item.is
          (turn.value records agrees target []);
      later = λ records agrees. before.later records (turn.reads.later records agrees);
      sound = turn.reads.sound ∙ before.sound;
    }
