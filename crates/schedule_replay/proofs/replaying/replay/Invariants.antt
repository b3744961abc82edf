use Rattle.std.proofs.Common.{◌≡◌, false, length}
use Rattle.schedule_replay.proofs.Whole.{IsSoFar}
use Rattle.schedule_replay.proofs.replaying.replay.Given as goal

-- the lines so far were done, taken and shown, one each time, and nothing failed
abbrev pub invariant-loop-line : goal.invariant-loop-line
invariant-loop-line g l =
    record {
      so_far : IsSoFar g.H.Hull.room (g.S.Source.left l.fn.src) (g.S.Source.left l.src) (g.K.Sink.held l.fn.out) (g.K.Sink.held l.out) l.world;
      count : length l.world.lines ≡ l._line;
      going : l.world.ended ≡ false;
      source : g.S.Source.fault_count l.src ≡ g.S.Source.fault_count l.fn.src;
      sink : g.K.Sink.fault_count l.out ≡ g.K.Sink.fault_count l.fn.out;
    }
