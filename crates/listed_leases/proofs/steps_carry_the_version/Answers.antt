use Rattle.listed_leases.proofs.Versions.{message_carries}
use Rattle.listed_leases.proofs.steps_carry_the_version.Goals as goal

pub returns : goal.returns
returns c = message_carries
