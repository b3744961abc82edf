use Rattle.std.proofs.Common.{◌≡◌, map, take}
use Rattle.orphan_sweep.specs.Fates.{fate_at}
use Rattle.orphan_sweep.proofs.judging.judge_files.Given as goal

-- the fates of the files so far
abbrev pub invariant-loop-row : goal.invariant-loop-row
invariant-loop-row l = l.fates.items ≡ map (fate_at l.files l.times l.now) (take l.row-index l.row-items)
