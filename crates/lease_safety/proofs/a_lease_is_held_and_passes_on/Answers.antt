use Rattle.lease_safety.proofs.Examples
use Rattle.lease_safety.proofs.a_lease_is_held_and_passes_on.Goals as goal

pub returns-clause-legal : goal.returns-clause-legal
returns-clause-legal c = Examples.one_holds_legal

pub returns-clause-then_legal : goal.returns-clause-then_legal
returns-clause-then_legal c = Examples.another_holds_legal
