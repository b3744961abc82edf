use Rattle.std.proofs.Common.{length}
use Rattle.volume_tree.proofs.requests.+is_within.Given as goal

-- each call has a name less
abbrev pub decreases-is_within : goal.decreases-is_within
decreases-is_within l = length l.from.now
