use Rattle.std.proofs.Common.{◌≡◌, map, take}
use Rattle.xt_protocol.specs.Register as protocol
use Rattle.flease.proofs.seats.Seats.new.Given as goal

-- the members so far have a seat
abbrev pub invariant-loop-node : goal.invariant-loop-node
invariant-loop-node l = l.seats ≡ map protocol.empty_seat (take l.node-index l.node-items)
