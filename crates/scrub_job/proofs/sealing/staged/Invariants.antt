use Rattle.std.proofs.Common.{take}
use Rattle.scrub_job.specs.Sealing.{AreStaged}
use Rattle.scrub_job.proofs.sealing.staged.Given as goal

-- the seals so far wait
abbrev pub invariant-loop-seal : goal.invariant-loop-seal
invariant-loop-seal g l = AreStaged l.store (take l.seal-index l.seals) l.waiting
