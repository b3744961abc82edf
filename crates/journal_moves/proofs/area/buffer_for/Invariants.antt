use Rattle.std.proofs.Common.{◌≡◌, drop, max}
use Rattle.journal_moves.specs.Gathering.{longest}
use Rattle.journal_moves.proofs.area.buffer_for.Given as goal

-- the longest of those so far
abbrev pub invariant-loop-payload : goal.invariant-loop-payload
invariant-loop-payload l = max l.longest (longest (drop l.payload-index l.payloads)) ≡ longest l.payloads
