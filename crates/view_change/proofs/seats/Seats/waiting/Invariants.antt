use Rattle.std.proofs.Common.{◌≡◌, map, take}
use Rattle.std.specs.Prelude.{filter, not}
use Rattle.change_rows.specs.Changes as rows
use Rattle.view_change.proofs.seats.Seats.waiting.Given as goal

-- the members so far that haven't answered
abbrev pub invariant-loop-seat : goal.invariant-loop-seat
invariant-loop-seat l = l.nodes.items ≡ map rows.node_of (filter (λ seat. not (rows.has_installed seat)) (take l.seat-index l.seat-items))
