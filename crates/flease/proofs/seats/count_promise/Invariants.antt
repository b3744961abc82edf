use Rattle.std.proofs.Common.{◌≡◌, ◌++◌, map, take, drop}
use Rattle.xt_protocol.specs.Register as protocol
use Rattle.flease.proofs.seats.count_promise.Given as goal

-- the seats so far are changed
abbrev pub invariant-loop-seat : goal.invariant-loop-seat
invariant-loop-seat l = l.seats ≡ map (protocol.with_promise l.from l.boot) (take l.seat-index l.initial.seats) ++ drop l.seat-index l.initial.seats
