use Rattle.osd_invariants.proofs.AtOnce
use Rattle.osd_invariants.proofs.steps_answer_at_once.Goals as goal

pub returns : goal.returns
returns c = record { reads = AtOnce.answers_reads; writes = AtOnce.answers_writes; leases = AtOnce.holds_leases; renewals = AtOnce.renews_leases; rounds = AtOnce.starts_rounds }
