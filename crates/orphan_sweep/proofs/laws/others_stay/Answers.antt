use Rattle.orphan_sweep.proofs.Orphans as orphans
use Rattle.orphan_sweep.proofs.laws.others_stay.Goals as goal

pub returns : goal.returns
returns c = orphans.others_stay
