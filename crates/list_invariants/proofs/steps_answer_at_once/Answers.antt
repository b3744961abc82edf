use Rattle.list_invariants.proofs.AtOnce
use Rattle.list_invariants.proofs.steps_answer_at_once.Goals as goal

pub returns-clause-reads : goal.returns-clause-reads
returns-clause-reads c = AtOnce.answers_reads

pub returns-clause-writes : goal.returns-clause-writes
returns-clause-writes c = AtOnce.answers_writes

pub returns-clause-leases : goal.returns-clause-leases
returns-clause-leases c = AtOnce.holds_leases

pub returns-clause-renewals : goal.returns-clause-renewals
returns-clause-renewals c = AtOnce.renews_leases

pub returns-clause-rounds : goal.returns-clause-rounds
returns-clause-rounds c = AtOnce.starts_rounds
