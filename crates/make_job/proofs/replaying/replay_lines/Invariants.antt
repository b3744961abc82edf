use Rattle.std.proofs.Common.{take}
use Rattle.make_job.proofs.Replayed.{IsReplayedTo}
use Rattle.make_job.proofs.replaying.replay_lines.Given as goal

-- the lines so far are done
abbrev pub invariant-loop-line : goal.invariant-loop-line
invariant-loop-line g l = IsReplayedTo g.H.Hull.room (take l.line-index l.lines) l.world
