use Rattle.std.proofs.Common.{◌≡◌, ◌≤◌, count_by, take}
use Rattle.sweep_job.specs.Lines.{is_kept, is_orphan, is_unknown}
use Rattle.sweep_job.proofs.lines.count_fates.Given as goal

-- those among the files so far
abbrev pub invariant-loop-fate : goal.invariant-loop-fate
invariant-loop-fate l =
    let past = take l.fate-index l.fates in
    (l.orphan ≡ count_by is_orphan past) × (l.kept ≡ count_by is_kept past) × (l.unknown ≡ count_by is_unknown past)
    × (l.orphan ≤ l.fate-index) × (l.kept ≤ l.fate-index) × (l.unknown ≤ l.fate-index)
