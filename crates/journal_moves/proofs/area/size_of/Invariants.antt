use Rattle.std.proofs.Common.{◌≡◌, ◌+◌, drop}
use Rattle.journal_moves.specs.Gathering.{size_of_area}
use Rattle.journal_moves.proofs.area.size_of.Given as goal

-- the payloads so far, with the last gate
abbrev pub invariant-loop-payload : goal.invariant-loop-payload
invariant-loop-payload l = l.size + size_of_area (drop l.payload-index l.payloads) ≡ 1 + size_of_area l.payloads
