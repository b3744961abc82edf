use Rattle.std.proofs.Common.{◌≡◌, ◌++◌, map, take, drop}
use Rattle.change_rows.specs.Changes as rows
use Rattle.view_change.proofs.seats.count_installation.Given as goal

-- the seats so far are changed
abbrev pub invariant-loop-seat : goal.invariant-loop-seat
invariant-loop-seat l = l.seats ≡ map (rows.with_installation l.from) (take l.seat-index l.initial.seats) ++ drop l.seat-index l.initial.seats
