use Rattle.std.proofs.Common.{◌≡◌, map, take}
use Rattle.change_rows.specs.Changes as rows
use Rattle.view_change.proofs.seats.Seats.new.Given as goal

-- the members so far have a seat
abbrev pub invariant-loop-node : goal.invariant-loop-node
invariant-loop-node l = l.seats ≡ map rows.empty_seat (take l.node-index l.node-items)
