use Rattle.std.proofs.Common.{length}
use Rattle.volume_rows.proofs.paths.+are_names.Given as goal

-- each call has a part less
abbrev pub decreases-are_names : goal.decreases-are_names
decreases-are_names l = length l.parts.now
