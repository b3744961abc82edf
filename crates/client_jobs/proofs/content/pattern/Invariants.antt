use Rattle.std.proofs.Common.{◌≡◌}
use Rattle.client_jobs.specs.Content.{pattern_from}
use Rattle.client_jobs.proofs.content.pattern.Given as goal

-- so many bytes of it are made
abbrev pub invariant-loop-place : goal.invariant-loop-place
invariant-loop-place l = l.bytes.items ≡ pattern_from l.from l.place
