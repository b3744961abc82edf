-- The dealt entries are walked beside all.
use Rattle.judging.proofs.Dealing.{deals}
use Rattle.judging.proofs.dealt_entries_judge.Goals as goal

pub returns : goal.returns
returns c = deals
