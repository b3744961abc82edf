use Rattle.world_limits.proofs.Kept
use Rattle.osd_limits.proofs.records_are_kept.Goals as goal

pub returns : goal.returns
returns c = Kept.kept_so
