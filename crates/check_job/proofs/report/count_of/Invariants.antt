use Rattle.std.proofs.Common.{◌≡◌, ◌≤◌, take}
use Rattle.check_job.specs.Reports.{count_of}
use Rattle.check_job.proofs.report.count_of.Given as goal

-- those among the records so far
abbrev pub invariant-loop-rec : goal.invariant-loop-rec
invariant-loop-rec l = (l.count ≡ count_of l.word (take l.rec-index l.records)) × (l.count ≤ l.rec-index)
