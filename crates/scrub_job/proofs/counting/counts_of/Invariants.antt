use Rattle.std.proofs.Common.{◌≡◌, ◌≤◌, take}
use Rattle.std.specs.List.{count_by}
use Rattle.scrub.specs.Report.{is_new, is_good, is_damaged}
use Rattle.scrub_job.proofs.counting.counts_of.Given as goal

-- those among the bodies so far
abbrev pub invariant-loop-found : goal.invariant-loop-found
invariant-loop-found l =
    let past = take l.found-index l.report in
    (l.new ≡ count_by is_new past) × (l.good ≡ count_by is_good past) × (l.damaged ≡ count_by is_damaged past)
    × (l.new ≤ l.found-index) × (l.good ≤ l.found-index) × (l.damaged ≤ l.found-index)
