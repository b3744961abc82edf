use Rattle.std.proofs.Common.{◌+◌, refl}
use Rattle.striping.proofs.Joined.{joined, placed}
use Rattle.striping.proofs.pieces_are_the_range.Goals as goal

pub returns-clause-joined : goal.returns-clause-joined
returns-clause-joined c stripe width offset len content pieces covers =
    joined stripe width offset (offset + len) len content pieces covers refl

pub returns-clause-placed : goal.returns-clause-placed
returns-clause-placed c stripe width from end byte piece is low high = placed stripe width from end byte piece is low high
