use Rattle.std.proofs.Common.{◌≡◌, ◌≤◌, ◌-◌, length, take}
use Rattle.node_links.specs.Streams.{Puts}
use Rattle.schedule_lines.proofs.writing.put_all.Given as goal

-- so far the front of the piece was put
abbrev pub invariant-loop-place : goal.invariant-loop-place
invariant-loop-place g l =
    record {
      inside : l.place ≤ length l.piece;
      front : Puts (g.K.Sink.held l.fn.out) (g.K.Sink.held l.out) (take l.place l.piece);
      sound : g.K.Sink.fault_count l.out ≡ g.K.Sink.fault_count l.fn.out;
    }

abbrev pub decreases-loop-place : goal.decreases-loop-place
decreases-loop-place g l = length l.piece - l.place
