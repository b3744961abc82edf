use Rattle.catch_up.proofs.Ends.{catches_up}
use Rattle.catch_up.proofs.OneHead.{one_head}
use Rattle.catch_up.proofs.a_peer_catches_up.Goals as goal

pub returns : goal.returns
returns c = record { ends = catches_up; one = one_head }
