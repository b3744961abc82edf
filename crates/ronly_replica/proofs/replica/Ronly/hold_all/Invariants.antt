use Rattle.std.proofs.Common.{◌≡◌, ◌≤◌, ◌-◌}
use Rattle.std.specs.List.{range_with_len}
use Rattle.ronly_replica.specs.Access.{pin_of, records_of}
use Rattle.ronly_replica.specs.Holding.{Holds}
use Rattle.ronly_replica.proofs.Holdings.{IsLeftAt}
use Rattle.ronly_replica.proofs.replica.Ronly.hold_all.Given as goal

-- the objects so far are held
abbrev pub invariant-loop-object : goal.invariant-loop-object
invariant-loop-object g l =
    (pin_of l.replica ≡ pin_of l.fn.self)
    × Holds g.O.Origin.fetches g.D.Disk.is_told (pin_of l.fn.self) (records_of l.fn.self) l.fn.origin (range_with_len l.first (l.object - l.first)) (records_of l.replica) l.origin
    × g.O.Origin.is_ready l.origin
    × (l.object - l.first ≤ l.end - l.first)
    × IsLeftAt g.O.Origin.fetches l.fn.self l.fn.origin l.first l.end l.replica
    × (g.O.Origin.references l.origin ≡ g.O.Origin.references l.fn.origin)
    × (g.O.Origin.link_faults l.origin ≡ g.O.Origin.link_faults l.fn.origin)
    × (g.O.Origin.clock_faults l.origin ≡ g.O.Origin.clock_faults l.fn.origin)
