use Rattle.osd_invariants.proofs.Promised
use Rattle.osd_invariants.proofs.a_promise_moves_the_head.Goals as goal

pub returns : goal.returns
returns c = Promised.promises_over
