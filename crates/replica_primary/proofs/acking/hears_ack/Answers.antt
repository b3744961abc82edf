use Rattle.replica_primary.proofs.Given.{if_so}
use Rattle.replica_primary.proofs.acking.hears_ack.Goals as goal

pub returns-in-Installing-clause-value : goal.returns-in-Installing-clause-value
returns-in-Installing-clause-value c = if_so _ _ c.ack_installing.result c.ack_installing.ensures.value (λ turned of learnt records held. of learnt records held c.args.stamp)
