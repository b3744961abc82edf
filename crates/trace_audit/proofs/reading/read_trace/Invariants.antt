use Rattle.std.proofs.Common.{◌≡◌}
use Rattle.trace_audit.proofs.EntryByEntry.{IsReadSoFar}
use Rattle.trace_audit.proofs.reading.read_trace.Given as goal

-- the entries so far were taken, and the source didn't fail
abbrev pub invariant-loop-entry : goal.invariant-loop-entry
invariant-loop-entry g l =
    record {
      so_far : IsReadSoFar (g.S.Source.left l.fn.src) (g.S.Source.left l.src) l.entries.items l.room;
      sound : g.S.Source.fault_count l.src ≡ g.S.Source.fault_count l.fn.src;
    }

-- each entry takes bytes
abbrev pub decreases-loop-entry : goal.decreases-loop-entry
decreases-loop-entry g l = l.room
