use Rattle.std.proofs.Common.{◌≡◌, IsTrue, take}
use Rattle.object_store.specs.Access.{records_of}
use Rattle.ronly_replica.specs.Pins as rows
use Rattle.ronly_replica.proofs.showing.range_of.Given as goal

-- the pieces so far are shown
abbrev pub invariant-loop-piece : goal.invariant-loop-piece
invariant-loop-piece g l = IsTrue g.D.Disk.is_told → l.made.items ≡ rows.all_shown l.pin (records_of l.store) (take l.piece-index l.piece-items)
