use Rattle.std.proofs.Common.{◌≡◌, take}
use Rattle.make_job.specs.Counting.{counts_of}
use Rattle.make_job.proofs.counts.Counts.of.Given as goal

-- the entries so far are counted
abbrev pub invariant-loop-entry : goal.invariant-loop-entry
invariant-loop-entry l = l.counts ≡ counts_of (take l.entry-index l.entries)
