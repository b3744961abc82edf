use Rattle.std.proofs.Common.{◌≡◌, ◌++◌, [], List, map, take, drop}
use Rattle.xt_messages.specs.declared.record.Record.{Record}
use Rattle.xt_protocol.specs.declared.states.Peer.{Peer}
use Rattle.xt_protocol.specs.PrimaryRows.{feed_peer}
use Rattle.replica_primary.specs.Moves.{ground_beyond}
use Rattle.replica_primary.proofs.gathering.feed_each.Given as goal

-- the peers so far are fed
abbrev pub invariant-loop-peer : goal.invariant-loop-peer
invariant-loop-peer g l =
    let agrees = g.B.Bodies.agrees in
    let stands = λ (records : List Record). ground_beyond l.place records l.fetched l.target [] in
    record {
      fed : (records : List Record) → agrees l.bodies records → l.peers ≡ map (λ (p : Peer). let q : Peer = record { node = p.node; state = feed_peer (stands records) l.target p.node p.state } in q) (take l.peer-index l.initial.peers) ++ drop l.peer-index l.initial.peers;
      later : (records : List Record) → agrees l.bodies records → agrees l.fn.bodies records;
      sound : g.B.Bodies.fault_count l.bodies ≡ g.B.Bodies.fault_count l.fn.bodies;
    }
