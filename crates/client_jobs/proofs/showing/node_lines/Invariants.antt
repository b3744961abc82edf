use Rattle.std.proofs.Common.{◌≡◌, take}
use Rattle.client_plans.specs.Plans.{node_lines}
use Rattle.client_jobs.proofs.showing.node_lines.Given as goal

-- the rows so far have their lines
abbrev pub invariant-loop-row : goal.invariant-loop-row
invariant-loop-row l = l.lines.entries ≡ node_lines (take l.row-index l.rows)
