-- What a claim appends stays in the order, where only changes stand.
use Rattle.file_runs.proofs.Once.{once}
use Rattle.file_runs.proofs.writes_stand_once.Goals as goal

pub returns : goal.returns
returns c = once
