use Rattle.std.proofs.Common.{◌≡◌, ◌+◌, take}
use Rattle.std.specs.List.{sum_by}
use Rattle.xt_base.specs.Faults.{counted}
use Rattle.check_job.specs.Reports.{area_part}
use Rattle.check_job.proofs.sizes.area_size.Given as goal

-- an area of the records so far
abbrev pub invariant-loop-copied : goal.invariant-loop-copied
invariant-loop-copied l = l.size ≡ counted (sum_by area_part (take l.copied-index l.records) + 1)
