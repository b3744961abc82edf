use Rattle.std.proofs.Common.{◌≡◌, take}
use Rattle.client_plans.specs.Plans.{lines_of}
use Rattle.client_jobs.proofs.showing.lines_of.Given as goal

-- the names so far have their lines
abbrev pub invariant-loop-name : goal.invariant-loop-name
invariant-loop-name l = l.text.items ≡ lines_of (take l.name-index l.names)
