use Rattle.std.proofs.Common.{◌≡◌, ◌++◌, take}
use Rattle.client_jobs.proofs.going.joined.Given as goal

-- the rows so far come after those before
abbrev pub invariant-loop-row : goal.invariant-loop-row
invariant-loop-row l = l.all ≡ l.before ++ take l.row-index l.rows
