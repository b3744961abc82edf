-- The history was tested in proofs/Checker.antt.
use Rattle.replica_safety.proofs.Checker.{takes_it_back}
use Rattle.replica_safety.proofs.a_write_is_taken_back.Goals as goal

pub returns : goal.returns
returns c = takes_it_back
