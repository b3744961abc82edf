use Rattle.spec_examples.proofs.Places
use Rattle.spec_examples.proofs.disks.records_are_placed.Goals as goal

pub returns-clause-promises : goal.returns-clause-promises
returns-clause-promises c = Places.two_promises

pub returns-clause-starts : goal.returns-clause-starts
returns-clause-starts c = Places.a_start

pub returns-clause-heads : goal.returns-clause-heads
returns-clause-heads c = Places.a_head

pub returns-clause-bad : goal.returns-clause-bad
returns-clause-bad c = Places.are_bad
