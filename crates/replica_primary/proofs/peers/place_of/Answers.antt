use Rattle.replica_primary.proofs.Places.{peer_passed, peer_here, no_peer_here, not_this_one, this_one, no_such_one}
use Rattle.replica_primary.proofs.peers.place_of.Goals as goal

pub loop-place-preserved : goal.loop-place-preserved
loop-place-preserved c =
    let peers = c.args.peers.now in
    let before = c.loop-place.invariant in
    record {
      put = λ state.
          peer_passed peers c.args.node state c.loop-place.place c.index-peers-place.result c.loop-place-test.true c.index-peers-place.is c.if-peer-node.false (before.put state);
      found = not_this_one peers c.args.node c.loop-place.place c.index-peers-place.result c.loop-place-test.true c.index-peers-place.is c.if-peer-node.false before.found;
    }

pub returns-then-peer-node : goal.returns-then-peer-node
returns-then-peer-node c =
    let peers = c.args.peers.now in
    let before = c.loop-place.invariant in (
      c.loop-place-test.true,
      λ state. peer_here peers c.args.node state c.loop-place.place c.index-peers-place.result c.loop-place-test.true c.index-peers-place.is c.if-peer-node.true (before.put state),
      this_one peers c.args.node c.loop-place.place c.index-peers-place.result c.loop-place-test.true c.index-peers-place.is c.if-peer-node.true before.found,
    )

pub returns : goal.returns
returns c =
    let peers = c.args.peers.now in
    let before = c.loop-place.invariant in (
      λ state. no_peer_here peers c.args.node state c.loop-place.place c.loop-place-test.false (before.put state),
      no_such_one peers c.args.node c.loop-place.place c.loop-place-test.false before.found,
    )
