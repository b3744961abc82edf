use Rattle.std.proofs.Common.{length}
use Rattle.client_core.proofs.striped.+stands_up_to.Given as goal

abbrev pub decreases-stands_up_to : goal.decreases-stands_up_to
decreases-stands_up_to l = length l.members.now
