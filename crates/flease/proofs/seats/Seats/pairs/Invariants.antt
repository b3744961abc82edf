use Rattle.std.proofs.Common.{◌≡◌, ◌≤◌, length, take}
use Rattle.xt_protocol.specs.Register as protocol
use Rattle.flease.proofs.seats.Seats.pairs.Given as goal

-- the pairs of the seats so far, at most one a seat
abbrev pub invariant-loop-seat : goal.invariant-loop-seat
invariant-loop-seat l =
    (l.targets ≡ protocol.counted_pairs (take l.seat-index l.seat-items)) × (length l.targets ≤ l.seat-index)
