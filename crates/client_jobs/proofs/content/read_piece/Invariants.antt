use Rattle.std.proofs.Common.{◌≡◌, ◌≤◌, ◌-◌, length}
use Rattle.node_links.specs.Streams.{Takes}
use Rattle.client_jobs.proofs.content.read_piece.Given as goal

-- so far these bytes were taken
abbrev pub invariant-loop-bytes : goal.invariant-loop-bytes
invariant-loop-bytes g l =
    record {
      taken : Takes (g.S.Source.left l.fn.src) (g.S.Source.left l.src) l.bytes.items;
      few : length l.bytes.items ≤ l.room;
      sound : g.S.Source.fault_count l.src ≡ g.S.Source.fault_count l.fn.src;
    }

-- how many bytes can still come
abbrev pub decreases-loop-bytes : goal.decreases-loop-bytes
decreases-loop-bytes g l = l.room - length l.bytes.items
