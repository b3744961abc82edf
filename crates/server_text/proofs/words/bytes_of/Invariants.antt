use Rattle.std.proofs.Common.{◌≡◌, ◌++◌, length}
use Rattle.server_text.specs.Reading.{bytes_of}
use Rattle.server_text.proofs.words.bytes_of.Given as goal

-- what is read and what the rest spells
abbrev pub invariant-loop-rest : goal.invariant-loop-rest
invariant-loop-rest l = l.bytes.items ++ bytes_of l.rest ≡ bytes_of l.digits

abbrev pub decreases-loop-rest : goal.decreases-loop-rest
decreases-loop-rest l = length l.rest
