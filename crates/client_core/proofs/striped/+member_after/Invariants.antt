use Rattle.std.proofs.Common.{length}
use Rattle.client_core.proofs.striped.+member_after.Given as goal

abbrev pub decreases-member_after : goal.decreases-member_after
decreases-member_after l = length l.members.now
