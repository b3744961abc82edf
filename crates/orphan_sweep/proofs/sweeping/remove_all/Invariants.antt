use Rattle.std.proofs.Common.{take}
use Rattle.orphan_sweep.specs.Fates.{orphans_of}
use Rattle.orphan_sweep.specs.Sweeps.{AreRemoved}
use Rattle.orphan_sweep.proofs.sweeping.remove_all.Given as goal

-- those that go among the files so far are removed
abbrev pub invariant-loop-file : goal.invariant-loop-file
invariant-loop-file g l = AreRemoved {g = g.D.Disk} l.fn.store (orphans_of (take l.file-index l.fates)) l.store
