use Rattle.std.proofs.Common.{take}
use Rattle.orphan_sweep.specs.Fates.{AreKnownIn}
use Rattle.orphan_sweep.proofs.judging.MadeFiles.of.Given as goal

-- what the entries so far say
abbrev pub invariant-loop-file : goal.invariant-loop-file
invariant-loop-file l = AreKnownIn l.made (take l.file-index l.files)
