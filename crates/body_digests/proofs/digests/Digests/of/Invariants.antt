use Rattle.std.proofs.Common.{take}
use Rattle.body_digests.specs.Digests.{AreDigestsIn}
use Rattle.body_digests.proofs.digests.Digests.of.Given as goal

-- the digests of the records so far
abbrev pub invariant-loop-rec : goal.invariant-loop-rec
invariant-loop-rec l = AreDigestsIn l.digests (take l.rec-index l.records)
